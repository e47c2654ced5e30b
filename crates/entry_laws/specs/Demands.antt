-- Demands 2 and 3 for written files, over the definitions that the calls' contracts name.
-- Assumes nothing.
use Rattle.std.specs.Prelude.{◌≡◌, Bool, true, false, ◌&&◌, not, List, [], ◌∷◌, ℕ, ◌+◌, ◌≤◌, ◌<◌, leb, length}
use Rattle.std.specs.Prelude.{get_or, take, drop}
use Rattle.std.proofs.Common.{ap, arith, leb-true, le-leb, ltb-false}
use Rattle.std.proofs.Math.ListN.{get_or-eq_default}
use Rattle.base.specs.If.{when◌then◌else◌}
use Rattle.base.proofs.IfLaws.{and_left, and_right}
use Rattle.base.specs.Scan.{every}
use Rattle.base.proofs.ScanLaws.{every_at, every_all}
use Rattle.word.specs.Nul.{NoNul}
use Rattle.edition.specs.declared.Edition.{Edition}
use Rattle.edition.specs.declared.Place.{Place}
use Rattle.edition.specs.Edition.{ok_edition, knows}
use Rattle.entry.specs.declared.Beyond.{Beyond}
use Rattle.entry.specs.declared.Tables.{Tables}
use Rattle.entry.specs.Limits.{file_most, number_most, content_most, given_names_most}
use Rattle.entry.specs.State.{absent, map_state}
use Rattle.base.specs.Answer.{Answer, refused, gives, map_answer, is_given}
use Rattle.entry.specs.Reading.{Entry, bytes_of, held_boolean, held_number, held_string}
use Rattle.entry.specs.declared.Opening.{Opening}
use Rattle.entry.specs.Asking.{opening, asking_names, asking_boolean, asking_number, asking_string}
use Rattle.entry.specs.Writing.{Handed, encode, entry_of, boolean_fits_at}
use Rattle.entry.specs.Writing.{number_fits_at, string_fits_at, enough_states, names_fit, is_lent, states_fit, writing}
use Rattle.entry_laws.specs.Sound.{WrittenIn}
use Rattle.entry_laws.specs.Accepted.{test_passed}
use Rattle.entry_laws.specs.Handed.{enough_test, enough_facts, names_test}
use Rattle.entry_laws.specs.Handed.{names_facts, lent_test, lent_fact, number_test, number_facts, string_test}
use Rattle.entry_laws.specs.Handed.{string_facts, short_content, lent_content}

-- ---- demand 2: "A file is written exactly when the entry meets the limits and fits"

-- the writer's limits, as facts
pub record Meets (e : Edition) (h : Handed) : Type 0 where
  pub edition : ok_edition e ≡ true
  pub booleans : e.booleans ≤ length h.boolean_kinds
  pub numbers : (e.numbers ≤ length h.number_kinds) × (e.numbers ≤ length h.number_values)
  pub strings : (e.strings ≤ length h.string_kinds)
      × ((e.strings ≤ length h.string_starts) × (e.strings ≤ length h.string_lengths))
  pub named : (1 ≤ length h.names) × (length h.names ≤ given_names_most)
  pub names_free : NoNul h.names
  pub lent : (i : ℕ) → i < e.strings → get_or h.string_kinds i 0 ≡ 1
      → get_or h.string_starts i 0 + get_or h.string_lengths i 0 ≤ length h.lent
  pub boolean_kinds : (i : ℕ) → i < e.booleans → get_or h.boolean_kinds i 0 ≤ 2
  pub number_kinds : (i : ℕ) → i < e.numbers → get_or h.number_kinds i 0 ≤ 2
  pub string_kinds : (i : ℕ) → i < e.strings → get_or h.string_kinds i 0 ≤ 2
  pub numbers_fit : (i : ℕ) → i < e.numbers → get_or h.number_kinds i 0 ≡ 1 → get_or h.number_values i 0 ≤ number_most
  pub contents_fit : (i : ℕ) → i < e.strings → get_or h.string_kinds i 0 ≡ 1
      → (get_or h.string_lengths i 0 ≤ content_most)
      × NoNul (take (get_or h.string_lengths i 0) (drop (get_or h.string_starts i 0) h.lent))
  pub size : length (encode (entry_of e h)) ≤ file_most

pub written_if : (e : Edition) (h : Handed) (room : ℕ) → Meets e h → length (encode (entry_of e h)) ≤ room
    → writing e h room ≡ gives (encode (entry_of e h))
unfolding writing states_fit boolean_fits_at
written_if e h room m fits =
    rw (
      enough_test e h m.edition m.booleans m.numbers m.strings,
      names_test h.names m.named m.names_free,
      every_all (is_lent h) e.strings (λ i l. lent_test h i (m.lent i l)),
      every_all (boolean_fits_at h) e.booleans (λ i l. le-leb (get_or h.boolean_kinds i 0) 2 (m.boolean_kinds i l)),
      every_all (number_fits_at h) e.numbers (λ i l. number_test h i (m.number_kinds i l) (m.numbers_fit i l)),
      every_all (string_fits_at h) e.strings (λ i l.
          string_test h i (m.string_kinds i l) (λ k. short_content h i (m.contents_fit i l k))),
      le-leb (length (encode (entry_of e h))) file_most m.size,
      le-leb (length (encode (entry_of e h))) room fits,
    )

pub written_only_if : (e : Edition) (h : Handed) (room : ℕ) (f : List ℕ) → writing e h room ≡ gives f
    → Meets e h × ((length (encode (entry_of e h)) ≤ room) × (f ≡ encode (entry_of e h)))
unfolding writing states_fit boolean_fits_at
written_only_if e h room f w =
    let n : ℕ = length (encode (entry_of e h)) in
    let lents : Bool = every (is_lent h) e.strings in
    let states : Bool
    = every (boolean_fits_at h) e.booleans
    && (every (number_fits_at h) e.numbers && every (string_fits_at h) e.strings) in
    let a₆ : Answer (List ℕ) = when not (leb n room) then refused 8 (n ∷ []) else gives (encode (entry_of e h)) in
    let a₅ : Answer (List ℕ) = when not (leb n file_most) then refused 9 [] else a₆ in
    let a₄ : Answer (List ℕ) = when not states then refused 13 [] else a₅ in
    let a₃ : Answer (List ℕ) = when not lents then refused 7 [] else a₄ in
    let a₂ : Answer (List ℕ) = when not (names_fit h.names) then refused 4 [] else a₃ in
    let p₁ = test_passed (enough_states e h) 3 [] a₂ f w in
    let p₂ = test_passed (names_fit h.names) 4 [] a₃ f p₁.1 in
    let p₃ = test_passed lents 7 [] a₄ f p₂.1 in
    let p₄ = test_passed states 13 [] a₅ f p₃.1 in
    let p₅ = test_passed (leb n file_most) 9 [] a₆ f p₄.1 in
    let p₆ = test_passed (leb n room) 8 (n ∷ []) (gives (encode (entry_of e h))) f p₅.1 in
    let q = enough_facts e h p₁.0 in
    let names = names_facts h.names p₂.0 in
    let lent : (i : ℕ) → i < e.strings → get_or h.string_kinds i 0 ≡ 1
    → get_or h.string_starts i 0 + get_or h.string_lengths i 0 ≤ length h.lent
    = λ i l. lent_fact h i (every_at (is_lent h) e.strings i p₃.0 l) in
    let bs = and_left (every (boolean_fits_at h) e.booleans) _ p₄.0 in
    let rest = and_right (every (boolean_fits_at h) e.booleans) _ p₄.0 in
    let ns = and_left (every (number_fits_at h) e.numbers) _ rest in
    let ss = and_right (every (number_fits_at h) e.numbers) _ rest in
    let number : (i : ℕ) → i < e.numbers → number_fits_at h i ≡ true
    = λ i l. every_at (number_fits_at h) e.numbers i ns l in
    let string : (i : ℕ) → i < e.strings → string_fits_at h i ≡ true
    = λ i l. every_at (string_fits_at h) e.strings i ss l in (
      record {
        edition = q.0;
        booleans = q.1.0;
        numbers = q.1.1.0;
        strings = q.1.1.1;
        named = names.0;
        names_free = names.1;
        lent = lent;
        boolean_kinds = λ i l. leb-true _ _ (every_at (boolean_fits_at h) e.booleans i bs l);
        number_kinds = λ i l. (number_facts h i (number i l)).0;
        string_kinds = λ i l. (string_facts h i (string i l)).0;
        numbers_fit = λ i l. (number_facts h i (number i l)).1;
        contents_fit = λ i l k. lent_content h i (lent i l k) ((string_facts h i (string i l)).1 k);
        size = leb-true _ _ p₅.0;
      },
      (leb-true _ _ p₆.0, (cc p₆.1)),
    )

-- ---- demand 3

-- an edition opens the file and reads the entry's names and, at each place that it knows, the entry's state:
-- held_boolean and the like are absent at a place that the writing edition doesn't know
pub record ReadsAsWritten (r : Edition) (x : Entry) (f : List ℕ) : Type 0 where
  pub opens : is_given (opening r f) ≡ true
  pub names : map_answer (bytes_of f) (asking_names r f) ≡ gives x.names
  pub booleans : (p : Place) → knows r.booleans p ≡ true → asking_boolean r f p ≡ gives (held_boolean x p)
  pub numbers : (p : Place) → knows r.numbers p ≡ true → asking_number r f p ≡ gives (held_number x p)
  pub strings : (p : Place) → knows r.strings p ≡ true
      → map_answer (map_state (bytes_of f)) (asking_string r f p) ≡ gives (held_string x p)

-- what the writing edition doesn't know, the entry holds as absent
pub only_reader : (e : Edition) (x : Entry) (f : List ℕ) → WrittenIn e x f → (p : Place)
    → (knows e.booleans p ≡ false → held_boolean x p ≡ absent)
    × ((knows e.numbers p ≡ false → held_number x p ≡ absent)
    × (knows e.strings p ≡ false → held_string x p ≡ absent))
only_reader e x f w p =
    let b : length x.booleans ≡ e.booleans = ap (λ (d : Edition). d.booleans) w.edition in
    let n : length x.numbers ≡ e.numbers = ap (λ (d : Edition). d.numbers) w.edition in
    let s : length x.strings ≡ e.strings = ap (λ (d : Edition). d.strings) w.edition in (
      λ k. get_or-eq_default x.booleans absent (let l = ltb-false p.0 e.booleans k in omega arith),
      (
        λ k. get_or-eq_default x.numbers absent (let l = ltb-false p.0 e.numbers k in omega arith),
        λ k. get_or-eq_default x.strings absent (let l = ltb-false p.0 e.strings k in omega arith),
      ),
    )

-- "Whatever two files are written in one edition under the same names, if they differ only in capabilities that a
-- reader doesn't know, its answers (the counts from opening, each state and each content) are equal"
pub record SameBelow (r : Edition) (x y : Entry) : Type 0 where
  pub names : x.names ≡ y.names
  pub booleans : (p : Place) → knows r.booleans p ≡ true → held_boolean x p ≡ held_boolean y p
  pub numbers : (p : Place) → knows r.numbers p ≡ true → held_number x p ≡ held_number y p
  pub strings : (p : Place) → knows r.strings p ≡ true → held_string x p ≡ held_string y p

-- the counts from opening: per list, how many slots lie beyond the reader's edition
abbrev pub counts_of : Answer Opening → Answer Beyond
counts_of a = map_answer (λ (o : Opening). o.beyond) a

pub record SameAnswers (r : Edition) (f g : List ℕ) : Type 0 where
  pub counts : counts_of (opening r f) ≡ counts_of (opening r g)
  pub names : map_answer (bytes_of f) (asking_names r f) ≡ map_answer (bytes_of g) (asking_names r g)
  pub booleans : (p : Place) → asking_boolean r f p ≡ asking_boolean r g p
  pub numbers : (p : Place) → asking_number r f p ≡ asking_number r g p
  pub strings : (p : Place)
      → map_answer (map_state (bytes_of f)) (asking_string r f p)
      ≡ map_answer (map_state (bytes_of g)) (asking_string r g p)

-- ---- places and lengths

-- where the tables start, and their slots
abbrev pub starts_of : Answer Opening → Answer Tables
starts_of a = map_answer (λ (o : Opening). o.tables) a

-- a reader is answered the same places and lengths of names and strings
pub record SamePlaces (r : Edition) (f g : List ℕ) : Type 0 where
  pub names : asking_names r f ≡ asking_names r g
  pub strings : (p : Place) → asking_string r f p ≡ asking_string r g p

-- the tables of two files written in one edition under the same names start alike
abbrev pub SameStarts : Type 0
SameStarts = (e : Edition) (x y : Entry) (f g : List ℕ) → WrittenIn e x f → WrittenIn e y g → (r : Edition)
    → x.names ≡ y.names → starts_of (opening r f) ≡ starts_of (opening r g)
