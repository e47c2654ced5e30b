-- Demands 2 and 3 for written files: what a reader is answered of them. The limits and what the statements name are
-- in specs/Demands.antt.
-- Assumes nothing.
use Rattle.std.specs.Prelude.{◌≡◌, refl, Bool, true, false, List, ℕ, ◌<◌, length}
use Rattle.std.proofs.Common.{sym, ap, ◌∙◌, arith, ltb-true, lt-ltb}
use Rattle.base.proofs.TabulateLaws.{each_tabulate}
use Rattle.edition.specs.declared.Edition.{Edition}
use Rattle.edition.specs.declared.Place.{Place}
use Rattle.edition.specs.Edition.{ok_edition, place}
use Rattle.entry.specs.declared.Tables.{Tables}
use Rattle.entry.specs.State.{absent, map_state}
use Rattle.base.specs.Answer.{Answer, refused, gives, map_answer, is_given}
use Rattle.entry.specs.Layout.{table_at, tables_of, beyond_of}
use Rattle.entry.specs.Reading.{Entry, bytes_of, names_part, held_string, edition_of}
use Rattle.entry.specs.declared.Opening.{Opening}
use Rattle.entry.specs.Asking.{opening_of, opening, asking}
use Rattle.entry.specs.Asking.{asking_string}
use Rattle.entry.specs.Writing.{Handed, sizes_for, entry_of, number_handed, string_handed}
use Rattle.entry.specs.Writing.{writing}
use Rattle.entry_laws.specs.Sound.{NumberFits, ContentFree, WrittenIn}
use Rattle.entry_laws.specs.Round.{part_from}
use Rattle.entry_laws.proofs.Round.{part_ext}
use Rattle.entry_laws.specs.Handed.{state_has, entry_edition}
use Rattle.entry_laws.proofs.Asked.{opening_is, names_are, boolean_is, number_is, string_is, names_stand}
use Rattle.entry_laws.specs.Asked.{map_asking, asking_gives, asking_same}
use Rattle.entry_laws.proofs.Asked.{part_is}
use Rattle.entry_laws.specs.Demands.{Meets, written_only_if, ReadsAsWritten, SameBelow, counts_of, SameAnswers, starts_of, SamePlaces, SameStarts}

-- what the writer writes is written in its edition and holds what was handed over
pub written_holds : (e : Edition) (h : Handed) (room : ℕ) (f : List ℕ) → writing e h room ≡ gives f
    → WrittenIn e (entry_of e h) f
unfolding entry_of
written_holds e h room f w =
    let p = written_only_if e h room f w in
    let m : Meets e h = p.0 in
    let own : edition_of (entry_of e h) ≡ e = entry_edition e h in
    record {
      sound = record {
        edition = rw own m.edition;
        named = m.named.0;
        names_most = m.named.1;
        names_free = m.names_free;
        numbers_fit = each_tabulate NumberFits (number_handed h) e.numbers absent
            (λ i l. state_has NumberFits _ _ tt tt (m.numbers_fit i l));
        strings_free = each_tabulate ContentFree (string_handed h) e.strings absent
            (λ i l. state_has ContentFree _ _ tt tt (λ k. (m.contents_fit i l k).1));
        fits = m.size;
      };
      edition = own;
      file = p.1.1;
    }

pub reads_as_written : (e : Edition) (x : Entry) (f : List ℕ) → WrittenIn e x f → (r : Edition) → ok_edition r ≡ true
    → ReadsAsWritten r x f
reads_as_written e x f w r o =
    let given : is_given (opening r f) ≡ true = ap is_given (opening_is e x f w r o) in
    record {
      opens = given;
      names = map_asking (bytes_of f) r f true _ ∙ asking_gives r f true _ _ given refl (names_are e x f w);
      booleans = λ p k. asking_gives r f _ _ _ given k (boolean_is e x f w p);
      numbers = λ p k. asking_gives r f _ _ _ given k (number_is e x f w p);
      strings = λ p k.
          map_asking (map_state (bytes_of f)) r f _ _ ∙ asking_gives r f _ _ _ given k (string_is e x f w p);
    }

-- files of which opening says the same are opened alike
same_given : {A : Type 0} (h : Opening → A) (a b : Answer Opening) → map_answer h a ≡ map_answer h b
    → is_given a ≡ is_given b
same_given h a b e = sym (given_map a) ∙ ap is_given e ∙ given_map b
  where
    given_map : (c : Answer Opening) → is_given (map_answer h c) ≡ is_given c
    given_map (refused n v) = refl
    given_map (gives o) = refl

-- opening says the same of two written files where their sizes say the same
same_said : {A : Type 0} (h : Opening → A) (e : Edition) (x y : Entry) (f g : List ℕ) → WrittenIn e x f
    → WrittenIn e y g → (r : Edition) → h (opening_of r (sizes_for x)) ≡ h (opening_of r (sizes_for y))
    → map_answer h (opening r f) ≡ map_answer h (opening r g)
unfolding opening
same_said h e x y f g v w r q = by_edition (ok_edition r) refl
  where
    by_edition : (t : Bool) → ok_edition r ≡ t → map_answer h (opening r f) ≡ map_answer h (opening r g)
    by_edition false o = rw o
    by_edition true o = rw (opening_is e x f v r o, opening_is e y g w r o, q)

-- entries of one edition have equally many states in each list
same_lengths : (e : Edition) (x y : Entry) (f g : List ℕ) → WrittenIn e x f → WrittenIn e y g
    → (length x.booleans ≡ length y.booleans)
    × ((length x.numbers ≡ length y.numbers) × (length x.strings ≡ length y.strings))
same_lengths e x y f g v w =
    let d : edition_of x ≡ edition_of y = v.edition ∙ sym w.edition in (
      ap (λ (k : Edition). k.booleans) d,
      (ap (λ (k : Edition). k.numbers) d, ap (λ (k : Edition). k.strings) d),
    )

-- opening counts by the edition that a file is written in, whatever the file holds
pub same_counts : (e : Edition) (x y : Entry) (f g : List ℕ) → WrittenIn e x f → WrittenIn e y g → (r : Edition)
    → counts_of (opening r f) ≡ counts_of (opening r g)
unfolding beyond_of sizes_for
same_counts e x y f g v w r =
    let l = same_lengths e x y f g v w in
    same_said (λ o. o.beyond) e x y f g v w r (rw (l.0, l.1.0, l.1.1))

pub same_answers : (e : Edition) (x y : Entry) (f g : List ℕ) → WrittenIn e x f → WrittenIn e y g → (r : Edition)
    → SameBelow r x y → SameAnswers r f g
same_answers e x y f g v w r same =
    let c : counts_of (opening r f) ≡ counts_of (opening r g) = same_counts e x y f g v w r in
    let o : is_given (opening r f) ≡ is_given (opening r g)
    = same_given (λ o. o.beyond) (opening r f) (opening r g) c in
    record {
      counts = c;
      names =
          map_asking (bytes_of f) r f true _
          ∙ asking_same r f g true _ _ o (λ k. names_are e x f v ∙ same.names ∙ sym (names_are e y g w))
          ∙ sym (map_asking (bytes_of g) r g true _);
      booleans = λ p.
          asking_same r f g _ _ _ o (λ k. boolean_is e x f v p ∙ same.booleans p k ∙ sym (boolean_is e y g w p));
      numbers = λ p.
          asking_same r f g _ _ _ o (λ k. number_is e x f v p ∙ same.numbers p k ∙ sym (number_is e y g w p));
      strings = λ p.
          map_asking (map_state (bytes_of f)) r f _ _
          ∙ asking_same r f g _ _ _ o (λ k. string_is e x f v p ∙ same.strings p k ∙ sym (string_is e y g w p))
          ∙ sym (map_asking (map_state (bytes_of g)) r g _ _);
    }

-- of two files that agree in what the reader knows and whose tables start alike: where a string stands depends on the
-- table's start and on the states up to its place
pub same_places : (e d : Edition) (x y : Entry) (f g : List ℕ) → WrittenIn e x f → WrittenIn d y g → (r : Edition)
    → SameBelow r x y → starts_of (opening r f) ≡ starts_of (opening r g) → SamePlaces r f g
unfolding opening asking tables_of names_part sizes_for
same_places e d x y f g v w r same t =
    let o : is_given (opening r f) ≡ is_given (opening r g)
    = same_given (λ o. o.tables) (opening r f) (opening r g) t in
    let n : names_part (sizes_for x) ≡ names_part (sizes_for y) = rw same.names in
    record {
      names = asking_same r f g true _ _ o (λ k. names_stand e x f v ∙ n ∙ sym (names_stand d y g w));
      strings = λ p. by_edition p o (ok_edition r) refl;
    }
  where
    table_starts : ok_edition r ≡ true → table_at (sizes_for x) ≡ table_at (sizes_for y)
    table_starts k =
        let u : gives (tables_of (sizes_for x)) ≡ gives (tables_of (sizes_for y))
        = sym (ap starts_of (opening_is e x f v r k)) ∙ t ∙ ap starts_of (opening_is d y g w r k) in
        let z : tables_of (sizes_for x) ≡ tables_of (sizes_for y) = cc in
        ap (λ (s : Tables). s.table_at) z

    by_edition : (p : Place) → is_given (opening r f) ≡ is_given (opening r g) → (k : Bool) → ok_edition r ≡ k
        → asking_string r f p ≡ asking_string r g p
    by_edition p o false k = rw k
    by_edition p o true k =
        asking_same r f g _ _ _ o (λ l.
        part_is e x f v p
        ∙ ap (λ (a : ℕ). part_from a (λ i. held_string x (place i)) p.0) (table_starts k)
        ∙ part_ext (table_at (sizes_for y)) (λ i. held_string x (place i)) (λ i. held_string y (place i)) p.0 (λ j m.
        let n : p.0 < r.strings = ltb-true _ _ l in same.strings (place j) (lt-ltb j r.strings (omega arith)))
        ∙ sym (part_is d y g w p))

pub same_starts : SameStarts
unfolding tables_of sizes_for
same_starts e x y f g v w r n =
    let l = same_lengths e x y f g v w in
    same_said (λ o. o.tables) e x y f g v w r (rw (n, l.0, l.1.0, l.1.1))
