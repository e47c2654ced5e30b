-- A name's place in its list is the place of its number in the table.
-- Assumes nothing.
use Rattle.std.specs.Prelude.{Option, Some, None}
use mathlib.Core.Path.{◌≡◌, refl, sym, ap, ◌∙◌}
use mathlib.Core.Bool.{Bool, true, false, ◌&&◌, not}
use mathlib.Core.List.{List, [], ◌∷◌, ◌++◌}
use Prim.Native.Nat.{ℕ, zero, suc, ◌+◌, ◌-◌, ◌*◌, ◌≤◌, ◌<◌, min}
use native.Mathlib.Nat.{not-suc-le-zero, le_of_suc-le-suc}
use native.Mathlib.Decide.{ℕ_discrete}
use native.Mathlib.Omega.{arith}
use lib.Dec.{eqb, leb, ltb, lit<, lit≤}
use lib.ListN.{length, get_or, take, length-take, get_or-append, get_or-eq_default}
use lib.Seq.{get_or-append-add, get_or-take, ext_get_or}
use borrow.Author.Tests.{ltb-true, leb-true, eqb-true, eq-eqb, ne_eqb, le-leb, lt-ltb, le-ltb}
use Rattle.base.specs.If.{when◌then◌else◌}
use Rattle.base.proofs.IfLaws.{true_false, and_left, and_right, below_or, is_false}
use Rattle.base.proofs.ScanLaws.{scan_ext}
use Rattle.word.specs.Word.{word}
use Rattle.edition.specs.declared.Edition.{Edition}
use Rattle.edition.specs.Edition.{place}
use Rattle.names.specs.declared.Found.{Found}
use Rattle.names.specs.declared.Found.TheVariants as F
use Rattle.names.specs.Names.{ascii, parted, named, boolean_names, number_names, string_names, all_names, booleans_named, numbers_named, strings_named, strings_from, all_named}
use Rattle.names.specs.Naming.{packed, packed_names}
use Rattle.names.proofs.NamingLaws.{packed_at}
use Rattle.names.specs.Lookup.{same_bytes, place_in, is_there, looking_up}
use Rattle.names.specs.Searching.{name_most, fits_table, sought, searching}
use Rattle.names.proofs.Places.{all, all_at, differs, differs_ne, placed_number, only_place, no_place}

-- each element is a byte
abbrev pub Bytes : List ℕ → Type 0
Bytes n = (j : ℕ) → get_or n j 0 < 256

-- ---- words

word_past : (w : ℕ) (f : List ℕ) (p : ℕ) → length f ≤ p → word w f p ≡ 0
unfolding word
word_past zero f p h = refl
word_past (suc w) f p h =
    rw (get_or-eq_default f 0 h, word_past w f (suc p) (omega arith))

-- bytes past a list's end add nothing
word_more : (v w : ℕ) (f : List ℕ) (p : ℕ) → length f ≤ p + v → word (v + w) f p ≡ word v f p
unfolding word
word_more zero w f p h = let e : 0 + w ≡ w = omega arith in rw e (word_past w f p (omega arith))
word_more (suc v) w f p h =
    let e : suc v + w ≡ suc (v + w) = omega arith in
    rw e (ap (λ (x : ℕ). get_or f p 0 + 256 * x) (word_more v w f (suc p) (omega arith)))

-- equal words have equal bytes
word_each : (w : ℕ) (m n : List ℕ) (p : ℕ) → Bytes m → Bytes n → word w m p ≡ word w n p → (j : ℕ) → j < w → get_or m (p + j) 0 ≡ get_or n (p + j) 0
unfolding word
word_each zero m n p b c e j l = absurd (not-suc-le-zero l)
word_each (suc w) m n p b c e zero l =
    let u = b p in
    let v = c p in
    let z : p + 0 ≡ p = omega arith in
    rw z (omega arith)
word_each (suc w) m n p b c e (suc j) l =
    let u = b p in
    let v = c p in
    let s : p + suc j ≡ suc p + j = omega arith in
    rw s (word_each w m n (suc p) b c (omega arith) j (le_of_suc-le-suc l))

-- ---- a name and its number

fits_most : (n : List ℕ) → fits_table n ≡ true → length n ≤ name_most
unfolding fits_table
fits_most n e = leb-true _ _ (and_left _ _ (and_right (leb 2 (length n)) _ e))

fits_end : (n : List ℕ) → fits_table n ≡ true → get_or n (length n - 1) 0 ≡ 0 → ⊥
unfolding fits_table
fits_end n e = differs_ne _ _ (and_right (leb (length n) name_most) _ (and_right (leb 2 (length n)) _ e))

-- a list is as long as its number tells
no_longer : (m n : List ℕ) → fits_table n ≡ true → ((j : ℕ) → j < 8 → get_or m j 0 ≡ get_or n j 0) → length n ≤ length m
no_longer m n e h =
    below_or (length m) (length n)
    (λ l. absurd (let k = fits_most n e in fits_end n e (sym (h (length n - 1) (omega arith)) ∙ get_or-eq_default m 0 (omega arith))))
    (λ l. l)

-- the bytes of a number
number_bytes : (m n : List ℕ) → Bytes m → Bytes n → packed m ≡ packed n → (j : ℕ) → j < 8 → get_or m j 0 ≡ get_or n j 0
unfolding packed
number_bytes m n b c e j l = let z : 0 + j ≡ j = omega arith in rw z at (word_each 8 m n 0 b c e j l)

same_number : (m n : List ℕ) → Bytes m → Bytes n → fits_table m ≡ true → fits_table n ≡ true → packed m ≡ packed n → m ≡ n
same_number m n b c d e q =
    let h : (j : ℕ) → j < 8 → get_or m j 0 ≡ get_or n j 0 = number_bytes m n b c q in
    let u = no_longer m n e h in
    let v = no_longer n m d (λ j l. sym (h j l)) in
    let k = fits_most n e in
    ext_get_or 0 m n (omega arith) (λ j l. h j (omega arith))

pub same_refl : (n : List ℕ) → same_bytes n n ≡ true
unfolding same_bytes
same_refl [] = refl
same_refl (x ∷ n) = rw (eq-eqb x x refl, same_refl n)

pub same_eq : (m n : List ℕ) → same_bytes m n ≡ true → m ≡ n
unfolding same_bytes
same_eq [] [] e = refl
same_eq [] (y ∷ n) e = true_false (sym e)
same_eq (x ∷ m) [] e = true_false (sym e)
same_eq (x ∷ m) (y ∷ n) e =
    rw (eqb-true x y (and_left (eqb x y) (same_bytes m n) e), same_eq m n (and_right (eqb x y) (same_bytes m n) e))

-- a name m that fits the table, and any bytes n
same_sought : (m n : List ℕ) → fits_table m ≡ true → (packed m ≡ 0 → ⊥) → Bytes m → Bytes n → same_bytes m n ≡ eqb (packed m) (sought n)
unfolding sought
same_sought m n d z b c = by_fit (fits_table n) refl
  where
    by_fit : (t : Bool) → fits_table n ≡ t → same_bytes m n ≡ eqb (packed m) (when t then packed n else 0)
    by_fit true e =
        elim (ℕ_discrete (packed m) (packed n)) [
          | yes q ↦ rw (eq-eqb _ _ q, same_number m n b c d e q) (same_refl n)
          | no q ↦ (let k = is_false (same_bytes m n) (λ s. q (ap packed (same_eq m n s))) in rw (ne_eqb _ _ q, k))
        ]
    by_fit false e =
        let k = is_false (same_bytes m n) (λ s. true_false (sym d ∙ ap fits_table (same_eq m n s) ∙ e)) in
        rw (ne_eqb _ _ z, k)

-- ---- the number that a name is looked for by

module _ (n : List ℕ) where
  not_sought : (fits_table n ≡ true → ⊥) → 0 ≡ sought n
  unfolding sought
  not_sought h = rw (is_false (fits_table n) h)

  pub sought_short : length n < 2 → 0 ≡ sought n
  unfolding fits_table
  sought_short l = not_sought (λ e. let h = leb-true 2 (length n) (and_left _ _ e) in omega arith)

  -- no count of bytes that a name has
  pub sought_other : 2 ≤ length n → (length n ≡ 2 → ⊥) → (length n ≡ 3 → ⊥) → (length n ≡ 4 → ⊥) → (length n ≡ 5 → ⊥)
      → (length n ≡ 6 → ⊥) → 0 ≡ sought n
  sought_other l a b c d f = not_sought (λ e. let h = fits_most n e in omega arith)

  pub sought_nul : get_or n (length n - 1) 0 ≡ 0 → 0 ≡ sought n
  sought_nul z = not_sought (λ e. fits_end n e z)

  pub sought_bytes : (k : ℕ) → length n ≡ k → 2 ≤ k → k ≤ name_most → (get_or n (length n - 1) 0 ≡ 0 → ⊥) → word k n 0 ≡ sought n
  unfolding sought fits_table packed
  sought_bytes k q a b z =
      let e : 8 ≡ k + (8 - k) = omega arith in
      let l : 2 ≤ length n = omega arith in
      let m : length n ≤ name_most = omega arith in
      rw (le-leb 2 (length n) l, le-leb (length n) name_most m, ne_eqb _ _ z) (sym (rw e (word_more k (8 - k) n 0 (omega arith))))

-- ---- the table

-- one computed test: every name fits the table, has a number that isn't 0, and holds bytes
abbrev is_name : List ℕ → Bool
is_name m = fits_table m && (differs (packed m) 0 && all (λ b. ltb b 256) m)

names_right : all is_name all_names ≡ true
unfolding fits_table packed word all_names boolean_names number_names string_names named parted ascii
names_right = refl

names_count : length all_names ≡ all_named
unfolding all_names boolean_names number_names string_names named parted ascii
names_count = refl

all_bytes : (m : List ℕ) → all (λ b. ltb b 256) m ≡ true → Bytes m
all_bytes m e j =
    below_or j (length m) (λ l. ltb-true _ _ (all_at (λ b. ltb b 256) m j 0 e l)) (λ l. rw (get_or-eq_default m 0 l) (lit< tt))

-- a name of the table is the bytes n, or its number isn't the one that n is looked for by
name_at : (k : ℕ) (n : List ℕ) → k < all_named → Bytes n → same_bytes (get_or all_names k []) n ≡ eqb (get_or packed_names k 0) (sought n)
name_at k n l b =
    let m : List ℕ = get_or all_names k [] in
    let e : is_name m ≡ true = all_at is_name all_names k [] names_right (rw names_count l) in
    let f : (differs (packed m) 0 && all (λ x. ltb x 256) m) ≡ true = and_right (fits_table m) _ e in
    rw (packed_at k)
    (same_sought m n (and_left (fits_table m) _ e) (differs_ne _ _ (and_left (differs (packed m) 0) _ f)) (all_bytes m (and_right (differs (packed m) 0) _ f)) b)

-- ---- the lists within the table

pub booleans_length : length boolean_names ≡ booleans_named
unfolding boolean_names named parted ascii
booleans_length = refl

pub numbers_length : length number_names ≡ numbers_named
unfolding number_names named parted ascii
numbers_length = refl

pub strings_length : length string_names ≡ strings_named
unfolding string_names named parted ascii
strings_length = refl

pub booleans_listed : (i : ℕ) → i < booleans_named → get_or all_names (0 + i) [] ≡ get_or boolean_names i []
unfolding all_names
booleans_listed i l =
    let e : 0 + i ≡ i = omega arith in
    rw e (get_or-append boolean_names (number_names ++ string_names) [] i (rw booleans_length l))

pub numbers_listed : (i : ℕ) → i < numbers_named → get_or all_names (booleans_named + i) [] ≡ get_or number_names i []
unfolding all_names
numbers_listed i l =
    ap (λ (n : ℕ). get_or (boolean_names ++ (number_names ++ string_names)) (n + i) []) (sym booleans_length)
    ∙ get_or-append-add boolean_names (number_names ++ string_names) i []
    ∙ get_or-append number_names string_names [] i (rw numbers_length l)

pub strings_listed : (i : ℕ) → i < strings_named → get_or all_names (strings_from + i) [] ≡ get_or string_names i []
unfolding all_names
strings_listed i l =
    let e : strings_from + i ≡ length boolean_names + (length number_names + i) = rw (booleans_length, numbers_length) (omega arith) in
    rw e (get_or-append-add boolean_names (number_names ++ string_names) (length number_names + i) [] ∙ get_or-append-add number_names string_names i [])

-- ---- a name's place in a list, by the place of its number in the table

-- k is the place of the number of the bytes n among all
abbrev pub TablePlace : List ℕ → ℕ → Type 0
TablePlace n k = k ≡ searching 0 all_named (sought n)

-- the number of the bytes n stands at place k only
module _ (n : List ℕ) (k : ℕ) (t : TablePlace n k) where
  table_at_lem : k < all_named → sought n ≡ get_or packed_names k 0
  table_at_lem l =
      let z : 0 + searching 0 all_named (sought n) ≡ k = omega arith in
      sym (placed_number 0 all_named (sought n) (omega arith)) ∙ ap (λ (i : ℕ). get_or packed_names i 0) z

  table_only : (j : ℕ) → j < all_named → get_or packed_names j 0 ≡ sought n → j ≡ k
  table_only j l q = only_place 0 all_named (sought n) j (lit≤ tt) l (let z : 0 + j ≡ j = omega arith in rw z (sym q)) ∙ sym t

-- names stand in all names from first on, and an edition counts c of them
module _ (names : List (List ℕ)) (first size c : ℕ) (e : length names ≡ size) (within : first + size ≤ all_named)
    (listed : (i : ℕ) → i < size → get_or all_names (first + i) [] ≡ get_or names i []) (n : List ℕ) (b : Bytes n) where
  known : length (take c names) ≡ min c size
  known = rw (length-take c names, e)

  known_same : (j : ℕ) → j < min c size → eqb (get_or packed_names (first + j) 0) (sought n) ≡ same_bytes (get_or (take c names) j []) n
  known_same j l =
      let k : j < c = omega arith in
      let m : j < size = omega arith in
      rw (get_or-take c names j [] k, ← listed j m) (sym (name_at (first + j) n (omega arith) b))

  known_place : place_in (take c names) n ≡ searching first (min c size) (sought n)
  unfolding searching place_in
  known_place = rw known (scan_ext _ _ 0 (min c size) (λ j g h. ap not (sym (known_same j (omega arith)))))

  module _ (k : ℕ) (t : TablePlace n k) where
    in_list : first ≤ k → k < first + size → k - first < c
        → (is_there (take c names) n ≡ true) × (place_in (take c names) n ≡ k - first)
    in_list l m o =
        let i : k ≡ first + (k - first) = omega arith in
        let q : sought n ≡ get_or packed_names (first + (k - first)) 0 = rw i at (table_at_lem n k t (omega arith)) in
        let p : place_in (take c names) n ≡ k - first = known_place ∙ sym (only_place first (min c size) (sought n) (k - first) (omega arith) (omega arith) q) in
        (rw (p, known) (lt-ltb (k - first) (min c size) (omega arith)), p)

    not_in_list : (first ≤ k → k < first + size → c ≤ k - first) → is_there (take c names) n ≡ false
    not_in_list h =
        let p : place_in (take c names) n ≡ min c size =
        known_place
        ∙ sym (no_place first (min c size) (sought n) (λ j l q. let i = table_only n k t (first + j) (omega arith) q in let g = h (omega arith) (omega arith) in omega arith)) in
        rw (p, known) (le-ltb (min c size) (min c size) (omega arith))

-- ---- the answers

module _ (e : Edition) (n : List ℕ) (b : Bytes n) (k : ℕ) (t : TablePlace n k) where
  no_boolean : (k < booleans_named → e.booleans ≤ k) → is_there (take e.booleans boolean_names) n ≡ false
  no_boolean h = not_in_list boolean_names 0 booleans_named e.booleans booleans_length (lit≤ tt) booleans_listed n b k t (λ l m. let g = h (omega arith) in omega arith)

  no_number : (booleans_named ≤ k → k < strings_from → e.numbers ≤ k - booleans_named) → is_there (take e.numbers number_names) n ≡ false
  no_number h = not_in_list number_names booleans_named numbers_named e.numbers numbers_length (lit≤ tt) numbers_listed n b k t (λ l m. h l (omega arith))

  no_string : (strings_from ≤ k → k < all_named → e.strings ≤ k - strings_from) → is_there (take e.strings string_names) n ≡ false
  no_string h = not_in_list string_names strings_from strings_named e.strings strings_length (lit≤ tt) strings_listed n b k t (λ l m. h l (omega arith))

  pub found_boolean : k < booleans_named → k < e.booleans → Some (F.Boolean (place k)) ≡ looking_up e n
  unfolding looking_up
  found_boolean l m =
      let z : k - 0 ≡ k = omega arith in
      let p = in_list boolean_names 0 booleans_named e.booleans booleans_length (lit≤ tt) booleans_listed n b k t (omega arith) (omega arith) (omega arith) in
      rw (p.0, p.1, z)

  pub found_number : booleans_named ≤ k → k < strings_from → k - booleans_named < e.numbers → Some (F.Number (place (k - booleans_named))) ≡ looking_up e n
  unfolding looking_up
  found_number l m o =
      let p = in_list number_names booleans_named numbers_named e.numbers numbers_length (lit≤ tt) numbers_listed n b k t l (omega arith) o in
      let q = no_boolean (λ h. absurd (let y : ⊥ = omega arith in y)) in
      rw (q, p.0, p.1)

  pub found_string : strings_from ≤ k → k < all_named → k - strings_from < e.strings → Some (F.String (place (k - strings_from))) ≡ looking_up e n
  unfolding looking_up
  found_string l m o =
      let p = in_list string_names strings_from strings_named e.strings strings_length (lit≤ tt) strings_listed n b k t l (omega arith) o in
      let q = no_boolean (λ h. absurd (let y : ⊥ = omega arith in y)) in
      let r = no_number (λ h i. absurd (let y : ⊥ = omega arith in y)) in
      rw (q, r, p.0, p.1)

  pub found_none : (k < booleans_named → e.booleans ≤ k) → (booleans_named ≤ k → k < strings_from → e.numbers ≤ k - booleans_named) → (strings_from ≤ k → k < all_named → e.strings ≤ k - strings_from)
      → None ≡ looking_up e n
  unfolding looking_up
  found_none f g h =
      let p = no_boolean f in
      let q = no_number g in
      let r = no_string h in
      rw (p, q, r)

-- ---- the edition knows the place of a name that it finds

abbrev pub FoundIn : Edition → Option Found → Type 0
FoundIn e (Some (F.Boolean q)) = q.0 < e.booleans
FoundIn e (Some (F.Number q)) = q.0 < e.numbers
FoundIn e (Some (F.String q)) = q.0 < e.strings
FoundIn e None = Unit {0}

there_below : (c : ℕ) (names : List (List ℕ)) (i : ℕ) → ltb i (length (take c names)) ≡ true → i < c
there_below c names i h = let l = ltb-true i (length (take c names)) h in let m = length-take c names in omega arith

by_tests : (e : Edition) (x y z : Bool) (i j k : ℕ) → (x ≡ true → i < e.booleans) → (y ≡ true → j < e.numbers) → (z ≡ true → k < e.strings)
    → FoundIn e (when x then Some (F.Boolean (place i)) else when y then Some (F.Number (place j)) else when z then Some (F.String (place k)) else None)
by_tests e true y z i j k f g h = f refl
by_tests e false true z i j k f g h = g refl
by_tests e false false true i j k f g h = h refl
by_tests e false false false i j k f g h = tt

pub found_in : (e : Edition) (n : List ℕ) → FoundIn e (looking_up e n)
unfolding looking_up
found_in e n =
    by_tests e _ _ _ _ _ _
    (there_below e.booleans boolean_names _)
    (there_below e.numbers number_names _)
    (there_below e.strings string_names _)
