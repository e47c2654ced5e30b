-- What editions mean by a name: what the second means by it, if they know the place; a larger edition means by it
-- what a smaller one means by it.
-- Assumes nothing.
use Rattle.std.specs.Prelude.{Option, Some, None}
use mathlib.Core.Path.{◌≡◌, refl, sym, ap, ◌∙◌}
use mathlib.Core.Bool.{Bool, true, false, not}
use mathlib.Core.List.{List, []}
use mathlib.Core.Logic.{◌⊎◌, inl, inr}
use Prim.Native.Nat.{ℕ, ◌+◌, ◌≤◌, ◌<◌, min}
use native.Mathlib.Omega.{arith}
use lib.Dec.{lit≤}
use lib.ListN.{length, get_or, take, length-take}
use lib.Seq.{get_or-take}
use borrow.Author.Tests.{ltb-true, lt-ltb, le-ltb}
use Rattle.base.specs.If.{when◌then◌else◌}
use Rattle.base.specs.Scan.{scan}
use Rattle.base.proofs.IfLaws.{true_false, below_or, is_false}
use Rattle.base.proofs.ScanLaws.{scan_before, scan_fails}
use Rattle.edition.specs.declared.Edition.{Edition}
use Rattle.edition.specs.declared.Place.{Place}
use Rattle.edition.specs.Edition.{place, knows, NoMore}
use Rattle.names.specs.declared.Found.{Found}
use Rattle.names.specs.declared.Found.TheVariants as F
use Rattle.names.specs.Names.{second_edition, boolean_names, number_names, string_names, all_names}
use Rattle.names.specs.Names.{booleans_named, numbers_named, strings_named, strings_from, all_named}
use Rattle.names.specs.Naming.{packed}
use Rattle.names.specs.Lookup.{same_bytes, place_in, is_there, looking_up}
use Rattle.names.specs.Searching.{known_in}
use Rattle.names.proofs.NamingLaws.{packed_at}
use Rattle.names.proofs.Places.{one_place}
use Rattle.names.proofs.LookupLaws.{same_eq, booleans_length, numbers_length, strings_length}
use Rattle.names.proofs.LookupLaws.{booleans_listed, numbers_listed, strings_listed}

-- ---- a name in the beginning of a list

abbrev other : List (List ℕ) → List ℕ → ℕ → Bool
other ns n i = not (same_bytes (get_or ns i []) n)

not_other : (b : Bool) → not b ≡ false → b ≡ true
not_other true e = refl
not_other false e = sym e

-- a scan ends at the first place that fails
scan_is : (ok : ℕ → Bool) (k p : ℕ) → p < k → ((j : ℕ) → j < p → ok j ≡ true) → ok p ≡ false → scan ok 0 k ≡ p
scan_is ok k p l before here =
    below_or (scan ok 0 k) p
    (λ m. true_false (sym (before (scan ok 0 k) m) ∙ scan_fails ok 0 k (omega arith)))
    (λ m. below_or p (scan ok 0 k)
    (λ o. true_false (sym (scan_before ok 0 k p (omega arith) o) ∙ here))
    (λ o. omega arith))

module _ (names : List (List ℕ)) (c : ℕ) (n : List ℕ) (h : is_there (take c names) n ≡ true) where
  -- the place, which the beginning counts and the list has
  there_below : place_in (take c names) n < min c (length names)
  there_below =
      let l : place_in (take c names) n < length (take c names) = ltb-true _ _ h in
      let m = length-take c names in
      omega arith

  there_at : get_or names (place_in (take c names) n) [] ≡ n
  unfolding place_in
  there_at =
      let l = there_below in
      let k : place_in (take c names) n < length (take c names) = ltb-true _ _ h in
      let f = scan_fails (other (take c names) n) 0 (length (take c names)) (omega arith) in
      sym (get_or-take c names (place_in (take c names) n) [] (omega arith)) ∙ same_eq _ _ (not_other _ f)

  -- another beginning that counts the place has it there too
  module _ (d : ℕ) (l : place_in (take c names) n < d) where
    there_same : place_in (take d names) n ≡ place_in (take c names) n
    unfolding place_in
    there_same =
        let p : ℕ = place_in (take c names) n in
        let b : p < min c (length names) = there_below in
        let m = length-take d names in
        let o : p < length (take c names) = ltb-true _ _ h in
        let at : (j : ℕ) → j < c → j < d → other (take d names) n j ≡ other (take c names) n j
        = λ j k i.
        ap (λ (x : List ℕ). not (same_bytes x n)) (get_or-take d names j [] i ∙ sym (get_or-take c names j [] k)) in
        scan_is (other (take d names) n) (length (take d names)) p (omega arith)
        (λ j k. at j (omega arith) (omega arith)
        ∙ scan_before (other (take c names) n) 0 (length (take c names)) j (omega arith) k)
        (at p (omega arith) l ∙ scan_fails (other (take c names) n) 0 (length (take c names)) (omega arith))

    there_too : is_there (take d names) n ≡ true
    there_too =
        let b = there_below in
        let m = length-take d names in
        let s = there_same in
        lt-ltb (place_in (take d names) n) (length (take d names)) (omega arith)

-- of a list whose names all are counted, the c first have a name if its place is below c
module _ (names : List (List ℕ)) (all c : ℕ) (e : length names ≡ all) (n : List ℕ) where
  there_if : is_there (take all names) n ≡ true → place_in (take all names) n < c → is_there (take c names) n ≡ true
  there_if h l = there_too names all n h c l

  there_not : (is_there (take all names) n ≡ true → c ≤ place_in (take all names) n) → is_there (take c names) n ≡ false
  there_not f =
      is_false (is_there (take c names) n) (λ h.
      let b = there_below names c n h in
      let k : place_in (take c names) n < all = omega arith in
      let s = there_same names c n h all k in
      let g = f (there_too names c n h all k) in
      omega arith)

-- ---- a name stands in one list only

name_once : (i j : ℕ) → i < all_named → j < all_named → get_or all_names i [] ≡ get_or all_names j [] → i ≡ j
name_once i j l m q = one_place i j l m (packed_at i ∙ ap packed q ∙ sym (packed_at j))

-- ---- what a name means, by the lists that have it

module _ (e : Edition) (n : List ℕ) where
  abbrev in_booleans : Bool
  in_booleans = is_there (take e.booleans boolean_names) n

  abbrev in_numbers : Bool
  in_numbers = is_there (take e.numbers number_names) n

  abbrev in_strings : Bool
  in_strings = is_there (take e.strings string_names) n

  is_boolean : in_booleans ≡ true → looking_up e n ≡ Some (F.Boolean (place (place_in (take e.booleans boolean_names) n)))
  unfolding looking_up
  is_boolean b = rw b

  is_number : in_booleans ≡ false → in_numbers ≡ true
      → looking_up e n ≡ Some (F.Number (place (place_in (take e.numbers number_names) n)))
  unfolding looking_up
  is_number b m = rw (b, m)

  is_string : in_booleans ≡ false → in_numbers ≡ false → in_strings ≡ true
      → looking_up e n ≡ Some (F.String (place (place_in (take e.strings string_names) n)))
  unfolding looking_up
  is_string b m s = rw (b, m, s)

  is_unknown : in_booleans ≡ false → in_numbers ≡ false → in_strings ≡ false → looking_up e n ≡ None
  unfolding looking_up
  is_unknown b m s = rw (b, m, s)

-- lists that stand in all names, the first from a on and the second, behind it, from b on: a name of a beginning of
-- the second is in no beginning of the first
module _ (ns ms : List (List ℕ)) (a b k l : ℕ) (e : length ns ≡ k) (f : length ms ≡ l)
    (g : (i : ℕ) → i < k → get_or all_names (a + i) [] ≡ get_or ns i [])
    (h : (i : ℕ) → i < l → get_or all_names (b + i) [] ≡ get_or ms i [])
    (behind : a + k ≤ b) (within : b + l ≤ all_named) where
  apart : (c d : ℕ) (n : List ℕ) → is_there (take d ms) n ≡ true → is_there (take c ns) n ≡ false
  apart c d n t =
      is_false (is_there (take c ns) n) (λ s.
      let p : ℕ = place_in (take c ns) n in
      let q : ℕ = place_in (take d ms) n in
      let i : p < k = let z = there_below ns c n s in omega arith in
      let j : q < l = let z = there_below ms d n t in omega arith in
      let same : get_or all_names (a + p) [] ≡ get_or all_names (b + q) []
      = g p i ∙ there_at ns c n s ∙ sym (h q j ∙ there_at ms d n t) in
      let once = name_once (a + p) (b + q) (omega arith) (omega arith) same in
      omega arith)

-- the booleans, the numbers and the strings
boolean_or_number : (c d : ℕ) (n : List ℕ) → is_there (take d number_names) n ≡ true
    → is_there (take c boolean_names) n ≡ false
boolean_or_number =
    apart boolean_names number_names 0 booleans_named booleans_named numbers_named booleans_length numbers_length
    booleans_listed numbers_listed (lit≤ tt) (lit≤ tt)

boolean_or_string : (c d : ℕ) (n : List ℕ) → is_there (take d string_names) n ≡ true
    → is_there (take c boolean_names) n ≡ false
boolean_or_string =
    apart boolean_names string_names 0 strings_from booleans_named strings_named booleans_length strings_length
    booleans_listed strings_listed (lit≤ tt) (lit≤ tt)

number_or_string : (c d : ℕ) (n : List ℕ) → is_there (take d string_names) n ≡ true
    → is_there (take c number_names) n ≡ false
number_or_string =
    apart number_names string_names booleans_named strings_from numbers_named strings_named numbers_length strings_length
    numbers_listed strings_listed (lit≤ tt) (lit≤ tt)

-- ---- an edition means by a name what the second means by it, if it knows the place

module _ (e : Edition) (n : List ℕ) where
  abbrev all : Edition
  all = second_edition

  -- what the edition lacks where the second has nothing
  no_boolean : in_booleans all n ≡ false → in_booleans e n ≡ false
  no_boolean b = there_not boolean_names booleans_named e.booleans booleans_length n (λ h. true_false (sym h ∙ b))

  no_number : in_numbers all n ≡ false → in_numbers e n ≡ false
  no_number m = there_not number_names numbers_named e.numbers numbers_length n (λ h. true_false (sym h ∙ m))

  no_string : in_strings all n ≡ false → in_strings e n ≡ false
  no_string s = there_not string_names strings_named e.strings strings_length n (λ h. true_false (sym h ∙ s))

  boolean_means : in_booleans all n ≡ true → looking_up e n ≡ known_in e (looking_up all n)
  unfolding known_in
  boolean_means b =
      let p : ℕ = place_in (take booleans_named boolean_names) n in
      rw (is_boolean all n b)
      (below_or p e.booleans
      (λ l. rw (lt-ltb p e.booleans l)
      (is_boolean e n (there_if boolean_names booleans_named e.booleans booleans_length n b l)
      ∙ ap (λ (i : ℕ). Some (F.Boolean (place i))) (there_same boolean_names booleans_named n b e.booleans l)))
      (λ l. rw (le-ltb p e.booleans l)
      (is_unknown e n (there_not boolean_names booleans_named e.booleans booleans_length n (λ h. l))
      (is_false (in_numbers e n) (λ h. true_false (sym b ∙ boolean_or_number booleans_named e.numbers n h)))
      (is_false (in_strings e n) (λ h. true_false (sym b ∙ boolean_or_string booleans_named e.strings n h))))))

  number_means : in_booleans all n ≡ false → in_numbers all n ≡ true → looking_up e n ≡ known_in e (looking_up all n)
  unfolding known_in
  number_means b m =
      let p : ℕ = place_in (take numbers_named number_names) n in
      rw (is_number all n b m)
      (below_or p e.numbers
      (λ l. rw (lt-ltb p e.numbers l)
      (is_number e n (no_boolean b) (there_if number_names numbers_named e.numbers numbers_length n m l)
      ∙ ap (λ (i : ℕ). Some (F.Number (place i))) (there_same number_names numbers_named n m e.numbers l)))
      (λ l. rw (le-ltb p e.numbers l)
      (is_unknown e n (no_boolean b)
      (there_not number_names numbers_named e.numbers numbers_length n (λ h. l))
      (is_false (in_strings e n) (λ h. true_false (sym m ∙ number_or_string numbers_named e.strings n h))))))

  string_means : in_booleans all n ≡ false → in_numbers all n ≡ false → in_strings all n ≡ true
      → looking_up e n ≡ known_in e (looking_up all n)
  unfolding known_in
  string_means b m s =
      let p : ℕ = place_in (take strings_named string_names) n in
      rw (is_string all n b m s)
      (below_or p e.strings
      (λ l. rw (lt-ltb p e.strings l)
      (is_string e n (no_boolean b) (no_number m) (there_if string_names strings_named e.strings strings_length n s l)
      ∙ ap (λ (i : ℕ). Some (F.String (place i))) (there_same string_names strings_named n s e.strings l)))
      (λ l. rw (le-ltb p e.strings l)
      (is_unknown e n (no_boolean b) (no_number m)
      (there_not string_names strings_named e.strings strings_length n (λ h. l)))))

  nothing_means : in_booleans all n ≡ false → in_numbers all n ≡ false → in_strings all n ≡ false
      → looking_up e n ≡ known_in e (looking_up all n)
  unfolding known_in
  nothing_means b m s = rw (is_unknown all n b m s) (is_unknown e n (no_boolean b) (no_number m) (no_string s))

  pub known_means : looking_up e n ≡ known_in e (looking_up all n)
  known_means = by_boolean (in_booleans all n) refl
    where
      by_string : in_booleans all n ≡ false → in_numbers all n ≡ false → (t : Bool) → in_strings all n ≡ t
          → looking_up e n ≡ known_in e (looking_up all n)
      by_string b m true s = string_means b m s
      by_string b m false s = nothing_means b m s

      by_number : in_booleans all n ≡ false → (t : Bool) → in_numbers all n ≡ t
          → looking_up e n ≡ known_in e (looking_up all n)
      by_number b true m = number_means b m
      by_number b false m = by_string b m (in_strings all n) refl

      by_boolean : (t : Bool) → in_booleans all n ≡ t → looking_up e n ≡ known_in e (looking_up all n)
      by_boolean true b = boolean_means b
      by_boolean false b = by_number b (in_numbers all n) refl

-- what is found by all names, and what the edition knows of it
pub found_means : (e : Edition) (n : List ℕ) (f g : Option Found) → f ≡ looking_up second_edition n → g ≡ known_in e f
    → looking_up e n ≡ g
found_means e n f g q r = known_means e n ∙ ap (known_in e) (sym q) ∙ sym r

-- ---- a larger edition

-- a place that an edition knows, a larger one knows; f is what is found there
known_more : (n m : ℕ) (p : Place) (f : Option Found) → n ≤ m
    → ((when knows n p then f else None) ≡ None)
    ⊎ ((when knows m p then f else None) ≡ (when knows n p then f else None))
known_more n m p f l =
    below_or p.0 n
    (λ k. inr (rw (lt-ltb p.0 n k, lt-ltb p.0 m (omega arith))))
    (λ k. inl (rw (le-ltb p.0 n k)))

larger_known : (e E : Edition) → NoMore e E → (f : Option Found) → (known_in e f ≡ None) ⊎ (known_in E f ≡ known_in e f)
unfolding known_in
larger_known e E m (Some (F.Boolean p)) = known_more e.booleans E.booleans p (Some (F.Boolean p)) m.booleans
larger_known e E m (Some (F.Number p)) = known_more e.numbers E.numbers p (Some (F.Number p)) m.numbers
larger_known e E m (Some (F.String p)) = known_more e.strings E.strings p (Some (F.String p)) m.strings
larger_known e E m None = inl refl

-- the smaller edition doesn't know the name, or both mean the same by it
pub larger_means : (e E : Edition) → NoMore e E → (n : List ℕ)
    → (looking_up e n ≡ None) ⊎ (looking_up E n ≡ looking_up e n)
larger_means e E m n =
    elim (larger_known e E m (looking_up second_edition n)) [
      | inl u ↦ inl (known_means e n ∙ u)
      | inr u ↦ inr (known_means E n ∙ u ∙ sym (known_means e n))
    ]
