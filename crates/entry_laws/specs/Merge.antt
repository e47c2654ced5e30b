-- Laws of merging: what a merge of accepted files holds, and its size in an edition that knows no more.
-- Assumes nothing.
use Rattle.std.specs.Prelude.{◌≡◌, refl, true, List, ◌∷◌, ℕ, zero, suc, ◌≤◌, ◌<◌, leb, length, get_or}
use Rattle.std.proofs.Common.{sym, ◌∙◌, not-suc-le-zero, le_of_suc-le-suc, arith, length-append, leb-true, le-leb}
use Rattle.base.proofs.IfLaws.{true_false, and_left, and_right}
use Rattle.base.specs.Tabulate.{tabulate}
use Rattle.base.proofs.TabulateLaws.{length_tabulate, get_d_tabulate}
use Rattle.edition.specs.declared.Edition.{Edition}
use Rattle.edition.specs.Edition.{ok_edition, place, booleans_most, numbers_most, strings_most, NoMore}
use Rattle.entry.specs.declared.Sizes.{Sizes}
use Rattle.entry.specs.State.{State, absent, cancelled, present}
use Rattle.base.specs.Answer.{Answer, refused, gives, and_then, is_given}
use Rattle.entry.specs.Reading.{reading, edition_of}
use Rattle.entry.specs.Writing.{string_table, sizes_for, encode}
use Rattle.entry.specs.Merging.{over, merged_boolean, merged_number, merged_string, merged, of_file}
use Rattle.entry_laws.specs.Parts.{length_encode}
use Rattle.entry_laws.specs.Accepted.{Accepted, accepted_facts}

-- ---- states

-- what holds of both states holds of one over the other
pub over_has : {A : Type 0} (P : State A → Type 0) (s t : State A) → P s → P t → P (over s t)
unfolding over
over_has P absent t p q = q
over_has P cancelled t p q = p
over_has P (present x) t p q = p

-- ---- acceptance

-- an answer that goes on from another is given only where that one is
pub and_then_gives : {A B : Type 0} (a : Answer A) (b : Answer B) (x : B) → and_then a b ≡ gives x
    → (is_given a ≡ true) × (b ≡ gives x)
and_then_gives (refused n v) b x e = absurd (let z : ◌≡◌ {A = ℕ} 0 1 = cc in (let y : ⊥ = omega arith in y))
and_then_gives (gives s) b x e = (refl, e)

pub given_and_then : {A B : Type 0} (a : Answer A) (b : Answer B) → is_given a ≡ true → and_then a b ≡ b
given_and_then (refused n v) b g = true_false (sym g)
given_and_then (gives s) b g = refl

pub of_file_given : {A : Type 0} (k : ℕ) (a : Answer A) → is_given (of_file k a) ≡ is_given a
of_file_given k (refused n v) = refl
of_file_given k (gives x) = refl

pub given_accepted : (f : List ℕ) → is_given (reading f) ≡ true → Accepted f
given_accepted f g = by_answer (reading f) refl g
  where
    by_answer : (a : Answer Sizes) → reading f ≡ a → is_given a ≡ true → Accepted f
    by_answer (refused n v) e t = true_false (sym t)
    by_answer (gives s) e t = accepted_facts f s e

-- ---- the merged entry

pub merged_edition : (e : Edition) (a b : List ℕ) → edition_of (merged e a b) ≡ e
unfolding merged
merged_edition e a b =
    λ i. record {
      booleans = length_tabulate (λ j. merged_boolean a b (place j)) e.booleans i;
      numbers = length_tabulate (λ j. merged_number a b (place j)) e.numbers i;
      strings = length_tabulate (λ j. merged_string a b (place j)) e.strings i;
    }

-- ---- editions

pub edition_counts : (e : Edition) → ok_edition e ≡ true
    → (e.booleans ≤ booleans_most) × ((e.numbers ≤ numbers_most) × (e.strings ≤ strings_most))
unfolding ok_edition
edition_counts e o =
    let t = and_right (leb e.booleans booleans_most) _ o in (
      leb-true _ _ (and_left (leb e.booleans booleans_most) _ o),
      (
        leb-true _ _ (and_left (leb e.numbers numbers_most) _ t),
        leb-true _ _ (and_right (leb e.numbers numbers_most) _ t),
      ),
    )

pub edition_no_more : (r e : Edition) → NoMore r e → ok_edition e ≡ true → ok_edition r ≡ true
unfolding ok_edition
edition_no_more r e k o =
    let m = edition_counts e o in
    let x = k.booleans in
    let y = k.numbers in
    let z = k.strings in
    rw (
      le-leb r.booleans booleans_most (omega arith),
      le-leb r.numbers numbers_most (omega arith),
      le-leb r.strings strings_most (omega arith),
    )

-- a list tabulated further holds the same at each place below
pub same_below : {A : Type 0} (g : ℕ → A) (n m i : ℕ) (d : A) → n ≤ m → i < n
    → get_or (tabulate g m) i d ≡ get_or (tabulate g n) i d
same_below g n m i d h l = get_d_tabulate g m i d (omega arith) ∙ sym (get_d_tabulate g n i d l)

table_grows : (g : ℕ → State (List ℕ)) (n m : ℕ) → n ≤ m
    → length (string_table (tabulate g n)) ≤ length (string_table (tabulate g m))
unfolding tabulate string_table
table_grows g zero m h = omega arith
table_grows g (suc n) zero h = absurd (not-suc-le-zero h)
table_grows g (suc n) (suc m) h = by_first (g 0) (table_grows (λ i. g (suc i)) n m (le_of_suc-le-suc h))
  where
    by_first : (s : State (List ℕ))
        → length (string_table (tabulate (λ i. g (suc i)) n)) ≤ length (string_table (tabulate (λ i. g (suc i)) m))
        → length (string_table (s ∷ tabulate (λ i. g (suc i)) n))
        ≤ length (string_table (s ∷ tabulate (λ i. g (suc i)) m))
    by_first absent ih = ih
    by_first cancelled ih = ih
    by_first (present t) ih =
        rw (
          length-append t (0 ∷ string_table (tabulate (λ i. g (suc i)) n)),
          length-append t (0 ∷ string_table (tabulate (λ i. g (suc i)) m)),
        ) (omega arith)

-- the merge of an edition that knows no more is no longer
pub merged_size : (e r : Edition) (a b : List ℕ) → NoMore r e
    → length (encode (merged r a b)) ≤ length (encode (merged e a b))
unfolding sizes_for merged
merged_size e r a b k =
    let x = k.booleans in
    let y = k.numbers in
    let z = k.strings in
    let g : ℕ → State (List ℕ) = λ i. merged_string a b (place i) in
    let t : length (string_table (tabulate g r.strings)) ≤ length (string_table (tabulate g e.strings))
    = table_grows g r.strings e.strings z in
    simp (length_encode (merged r a b), length_encode (merged e a b), length_tabulate) (omega arith)
