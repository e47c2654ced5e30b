-- Laws of the table of numbers: each of them has one place.
-- Assumes nothing.
use mathlib.Core.Path.{◌≡◌, refl, sym, ap, ◌∙◌}
use mathlib.Core.Bool.{Bool, true, false, ◌&&◌, not}
use mathlib.Core.List.{List, [], ◌∷◌}
use Prim.Native.Nat.{ℕ, zero, suc, ◌+◌, ◌≤◌, ◌<◌}
use native.Mathlib.Nat.{not-suc-le-zero, le_of_suc-le-suc}
use native.Mathlib.Omega.{arith}
use lib.Dec.{eqb}
use lib.ListN.{length, get_or}
use borrow.Author.Tests.{eqb-true, eq-eqb, ne_eqb}
use Rattle.base.proofs.IfLaws.{true_false, and_left, and_right, below_or}
use Rattle.base.proofs.ScanLaws.{scan_all, scan_before, scan_fails}
use Rattle.word.specs.Word.{word}
use Rattle.names.specs.Names.{ascii, parted, named, boolean_names, number_names, string_names, all_names, all_named}
use Rattle.names.specs.Naming.{packed, packed_names}
use Rattle.names.specs.Searching.{searching}

-- each element passes the test
abbrev pub all : {A : Type 0} → (A → Bool) → List A → Bool
all p [] = true
all p (x ∷ xs) = p x && all p xs

pub all_at : {A : Type 0} (p : A → Bool) (xs : List A) (k : ℕ) (d : A) → all p xs ≡ true → k < length xs → p (get_or xs k d) ≡ true
all_at p [] k d e l = absurd (not-suc-le-zero l)
all_at p (x ∷ xs) zero d e l = and_left (p x) (all p xs) e
all_at p (x ∷ xs) (suc k) d e l = all_at p xs k d (and_right (p x) (all p xs) e) (le_of_suc-le-suc l)

abbrev pub differs : ℕ → ℕ → Bool
differs x y = not (eqb x y)

pub differs_ne : (x y : ℕ) → differs x y ≡ true → x ≡ y → ⊥
differs_ne x y e q = true_false (sym e ∙ ap not (eq-eqb x y q))

not_differs : (x y : ℕ) → differs x y ≡ false → x ≡ y
not_differs x y e = eqb-true x y (by_test (eqb x y) e)
  where
    by_test : (t : Bool) → not t ≡ false → t ≡ true
    by_test true h = refl
    by_test false h = sym h

-- no two are equal
abbrev distinct : List ℕ → Bool
distinct [] = true
distinct (x ∷ xs) = all (differs x) xs && distinct xs

first_only : (x : ℕ) (xs : List ℕ) (j : ℕ) → distinct (x ∷ xs) ≡ true → j < length xs → x ≡ get_or xs j 0 → ⊥
first_only x xs j e l q = differs_ne x (get_or xs j 0) (all_at (differs x) xs j 0 (and_left (all (differs x) xs) (distinct xs) e) l) q

distinct_at : (xs : List ℕ) (i j : ℕ) → distinct xs ≡ true → i < length xs → j < length xs → get_or xs i 0 ≡ get_or xs j 0 → i ≡ j
distinct_at [] i j e l m q = absurd (not-suc-le-zero l)
distinct_at (x ∷ xs) zero zero e l m q = refl
distinct_at (x ∷ xs) zero (suc j) e l m q = absurd (first_only x xs j e (le_of_suc-le-suc m) q)
distinct_at (x ∷ xs) (suc i) zero e l m q = absurd (first_only x xs i e (le_of_suc-le-suc l) (sym q))
distinct_at (x ∷ xs) (suc i) (suc j) e l m q =
    ap suc (distinct_at xs i j (and_right (all (differs x) xs) (distinct xs) e) (le_of_suc-le-suc l) (le_of_suc-le-suc m) q)

-- ---- the table, by computed tests

pub numbers_count : length packed_names ≡ all_named
unfolding packed_names packed word all_names boolean_names number_names string_names named parted ascii
numbers_count = refl

numbers_distinct : distinct packed_names ≡ true
unfolding packed_names packed word all_names boolean_names number_names string_names named parted ascii
numbers_distinct = refl

pub one_place : (i j : ℕ) → i < all_named → j < all_named → get_or packed_names i 0 ≡ get_or packed_names j 0 → i ≡ j
one_place i j l m q = distinct_at packed_names i j numbers_distinct (rw numbers_count l) (rw numbers_count m) q

-- ---- searches for w among the count numbers from first on

module _ (first count w : ℕ) where
  -- the number at the place that a search gives
  pub placed_number : searching first count w < count → get_or packed_names (first + searching first count w) 0 ≡ w
  unfolding searching
  placed_number l = not_differs _ w (scan_fails (λ i. differs (get_or packed_names (first + i) 0) w) 0 count (omega arith))

  passed : (j : ℕ) → j < searching first count w → get_or packed_names (first + j) 0 ≡ w → ⊥
  unfolding searching
  passed j l = differs_ne _ _ (scan_before (λ i. differs (get_or packed_names (first + i) 0) w) 0 count j (omega arith) l)

  -- a number's place is found
  pub only_place : (j : ℕ) → first + count ≤ all_named → j < count → w ≡ get_or packed_names (first + j) 0 → j ≡ searching first count w
  only_place j h l q =
      below_or (searching first count w) count
      (λ m.
      let e = one_place (first + searching first count w) (first + j) (omega arith) (omega arith) (placed_number m ∙ q) in
      omega arith)
      (λ m. absurd (passed j (omega arith) (sym q)))

  pub no_place : ((j : ℕ) → j < count → get_or packed_names (first + j) 0 ≡ w → ⊥) → count ≡ searching first count w
  unfolding searching
  no_place h = sym (scan_all _ 0 count (λ j a b. ap not (ne_eqb _ _ (h j (omega arith)))) ∙ omega arith)
