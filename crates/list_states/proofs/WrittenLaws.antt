-- What is written from the arrays that listing leaves.
-- Assumes nothing.
use mathlib.Core.Path.{◌≡◌, refl, sym, ap, ap₂, ◌∙◌, subst}
use mathlib.Core.Bool.{Bool, true, false}
use mathlib.Core.List.{List, [], ◌∷◌, ◌++◌}
use Prim.Native.Nat.{ℕ, zero, suc, ◌<◌}
use native.Mathlib.Nat.{not-suc-le-zero, le_of_suc-le-suc}
use native.Mathlib.Omega.{arith}
use lib.ListN.{length, get_or, take, drop}
use borrow.Author.Tests.{lt-ltb, ltb-true}
use Rattle.base.specs.Tabulate.{tabulate}
use Rattle.base.proofs.TabulateLaws.{length_tabulate, get_d_tabulate, tabulate_ext}
use Rattle.base.specs.Overwrite.{put_at}
use Rattle.base.proofs.OverwriteLaws.{put_front}
use Rattle.base.specs.Answer.{Answer, gives, is_given}
use Rattle.edition.specs.declared.Edition.{Edition}
use Rattle.edition.specs.declared.Place.{Place}
use Rattle.edition.specs.Edition.{ok_edition, place, knows}
use Rattle.entry.specs.declared.Part.{Part}
use Rattle.entry.specs.State.{State, absent, cancelled, present, map_state}
use Rattle.entry.specs.Layout.{sizes_of}
use Rattle.entry.specs.Reading.{Entry, bytes_of, names_part, boolean_in, number_in, part_in, string_in}
use Rattle.entry.specs.Reading.{held_boolean, held_number, held_string}
use Rattle.entry.specs.Asking.{opening, asking, part_given}
use Rattle.entry.specs.Writing.{state_of, entry_of, writing}
use Rattle.entry_laws.specs.Asked.{asking_gives, map_asking}
use Rattle.entry_laws.specs.Sound.{WrittenIn}
use Rattle.entry_laws.specs.Demands.{ReadsAsWritten}
use Rattle.entry_laws.proofs.Demands.{written_holds, reads_as_written}
use Rattle.opened_file.proofs.Laws.{asking_unknown}
use Rattle.list_states.specs.Listing.{Arrays, kind_given, value_given, states_of, arrays_after}
use Rattle.list_states.specs.Written.{handed_back, entry_read, SameStates}

-- ---- an element that was stored

in_front : (xs ys : List ℕ) (i : ℕ) → i < length xs → get_or (xs ++ ys) i 0 ≡ get_or xs i 0
in_front [] ys i h = absurd (not-suc-le-zero h)
in_front (x ∷ xs) ys zero h = refl
in_front (x ∷ xs) ys (suc i) h = in_front xs ys i (le_of_suc-le-suc h)

stored : (g : ℕ → ℕ) (b : List ℕ) (n i : ℕ) → i < n → get_or (put_at b 0 (tabulate g n)) i 0 ≡ g i
stored g b n i h =
    let l = length_tabulate g n in
    ap (λ (c : List ℕ). get_or c i 0) (put_front b (tabulate g n)) ∙ in_front (tabulate g n) _ i (omega arith)
    ∙ get_d_tabulate g n i 0 h

-- ---- a state from its numbers

boolean_back : (x : State (Unit {0})) → state_of (kind_given (gives x)) tt ≡ x
unfolding state_of
boolean_back absent = refl
boolean_back cancelled = refl
boolean_back (present tt) = refl

number_back : (x : State ℕ) → state_of (kind_given (gives x)) (value_given (gives x)) ≡ x
unfolding state_of
number_back absent = refl
number_back cancelled = refl
number_back (present n) = refl

string_back : (f : List ℕ) (x : State Part)
    → state_of (kind_given (gives x)) (take (part_given (gives x)).length (drop (part_given (gives x)).start f))
    ≡ map_state (bytes_of f) x
unfolding state_of
string_back f absent = refl
string_back f cancelled = refl
string_back f (present p) = refl

-- ---- what is handed back is what the file holds

module _ (e : Edition) (f : List ℕ) (o : is_given (opening e f) ≡ true) (b : Arrays) where
  abbrev after : Arrays
  after = arrays_after b (gives (states_of e f))

  given : {A : Type 0} (n i : ℕ) (x : A) → i < n → asking e f (knows n (place i)) x ≡ gives x
  given n i x h = asking_gives e f (knows n (place i)) x x o (lt-ltb i n h) refl

  boolean_listed : (i : ℕ) → i < e.booleans
      → state_of (get_or after.boolean_kinds i 0) tt ≡ boolean_in f (sizes_of f) (place i)
  boolean_listed i h =
      ap (λ (k : ℕ). state_of k tt) (stored _ b.boolean_kinds e.booleans i h
      ∙ ap kind_given (given e.booleans i _ h)) ∙ boolean_back _

  number_listed : (i : ℕ) → i < e.numbers
      → state_of (get_or after.number_kinds i 0) (get_or after.number_values i 0) ≡ number_in f (sizes_of f) (place i)
  number_listed i h =
      ap₂ (λ (k v : ℕ). state_of k v)
      (stored _ b.number_kinds e.numbers i h ∙ ap kind_given (given e.numbers i _ h))
      (stored _ b.number_values e.numbers i h ∙ ap value_given (given e.numbers i _ h)) ∙ number_back _

  string_listed : (i : ℕ) → i < e.strings
      → state_of (get_or after.string_kinds i 0) (take (get_or after.string_lengths i 0)
      (drop (get_or after.string_starts i 0) f)) ≡ string_in f (sizes_of f) (place i)
  unfolding string_in
  string_listed i h =
      ap₂ (λ (k : ℕ) (c : List ℕ). state_of k c)
      (stored _ b.string_kinds e.strings i h ∙ ap kind_given (given e.strings i _ h))
      (ap₂ (λ (n s : ℕ). take n (drop s f))
      (stored _ b.string_lengths e.strings i h
      ∙ ap (λ (a : Answer (State Part)). (part_given a).length) (given e.strings i _ h))
      (stored _ b.string_starts e.strings i h
      ∙ ap (λ (a : Answer (State Part)). (part_given a).start) (given e.strings i _ h)))
      ∙ string_back f (part_in f (sizes_of f) (place i))

  -- whatever the arrays held before, and however long they are
  pub handed_back_lem : entry_of e (handed_back f after) ≡ entry_read e f
  unfolding entry_of entry_read
  handed_back_lem =
      λ i. record {
        names = bytes_of f (names_part (sizes_of f));
        booleans = tabulate_ext _ _ e.booleans boolean_listed i;
        numbers = tabulate_ext _ _ e.numbers number_listed i;
        strings = tabulate_ext _ _ e.strings string_listed i;
      }

  module _ (room : ℕ) (g : List ℕ) (w : writing e (handed_back f after) room ≡ gives g) where
    written : WrittenIn e (entry_read e f) g
    written = subst (λ (x : Entry). WrittenIn e x g) handed_back_lem (written_holds e (handed_back f after) room g w)

    -- a file written from them is read by every edition as it holds what this one reads of the first file
    pub written_back : (r : Edition) → ok_edition r ≡ true → ReadsAsWritten r (entry_read e f) g
    written_back r k = reads_as_written e (entry_read e f) g written r k

    -- an answer of the second file that is given as the first file's is the first file's
    same_asked : {A : Type 0} (k : Bool) (x y : A) → (k ≡ true → asking e g k x ≡ gives y)
        → asking e g k x ≡ asking e f k y
    same_asked true x y h = h refl ∙ sym (asking_gives e f true y y o refl refl)
    same_asked false x y h = sym (asking_unknown e g false x refl) ∙ asking_unknown e f false y refl

    held_boolean_lem : (p : Place) → p.0 < e.booleans → held_boolean (entry_read e f) p ≡ boolean_in f (sizes_of f) p
    unfolding entry_read
    held_boolean_lem p h = get_d_tabulate (λ i. boolean_in f (sizes_of f) (place i)) e.booleans p.0 absent h

    held_number_lem : (p : Place) → p.0 < e.numbers → held_number (entry_read e f) p ≡ number_in f (sizes_of f) p
    unfolding entry_read
    held_number_lem p h = get_d_tabulate (λ i. number_in f (sizes_of f) (place i)) e.numbers p.0 absent h

    held_string_lem : (p : Place) → p.0 < e.strings
        → held_string (entry_read e f) p ≡ map_state (bytes_of f) (part_in f (sizes_of f) p)
    unfolding entry_read string_in
    held_string_lem p h = get_d_tabulate (λ i. string_in f (sizes_of f) (place i)) e.strings p.0 absent h

    -- in the same edition the two files give the same names and states
    pub same_states : SameStates e f g
    unfolding entry_read
    same_states =
        let s = written_back e (subst (λ (d : Edition). ok_edition d ≡ true) written.edition written.sound.edition) in
        record {
          opens = s.opens;
          names = s.names ∙ sym (map_asking (bytes_of f) e f true _ ∙ asking_gives e f true _ _ o refl refl);
          booleans = λ p.
              same_asked (knows e.booleans p) _ _ (λ k. s.booleans p k ∙ ap gives (held_boolean_lem p (ltb-true _ _ k)));
          numbers = λ p.
              same_asked (knows e.numbers p) _ _ (λ k. s.numbers p k ∙ ap gives (held_number_lem p (ltb-true _ _ k)));
          strings = λ p.
              map_asking (map_state (bytes_of g)) e g (knows e.strings p) _
              ∙ same_asked (knows e.strings p) _ _ (λ k.
              sym (map_asking (map_state (bytes_of g)) e g (knows e.strings p) _) ∙ s.strings p k
              ∙ ap gives (held_string_lem p (ltb-true _ _ k)))
              ∙ sym (map_asking (map_state (bytes_of f)) e f (knows e.strings p) _);
        }
