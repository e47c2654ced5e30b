-- Laws that the proofs cite: magnitudes digit by digit, and words from their parts.
-- Assumes nothing.
use Rattle.std.specs.Cmp.Lexicographic.{pointwise}
use Rattle.std.specs.Prelude.{Some, None, is_some}
use mathlib.Core.Path.{◌≡◌, refl, sym, ap, ◌∙◌}
use mathlib.Core.Bool.{Bool, true, false, ◌&&◌}
use mathlib.Core.List.{List, [], ◌∷◌, ◌++◌}
use Prim.Native.Nat.{ℕ, zero, suc, ◌+◌, ◌-◌, ◌*◌, ◌≤◌, ◌<◌}
use native.Mathlib.Numerals.{add-one}
use native.Mathlib.Omega.{arith}
use lib.Dec.{eqb, leb}
use lib.IntN.{ℤ, pos}
use lib.ListN.{length, get_or, take, drop}
use lib.Seq.{take-suc, take-length}
use mir.Syntax.{w32}
use mir.Val.{to_z}
use mir.Facts.{to_z_pos, to_z-neg}
use borrow.Author.Tests.{eqb-true, eq-eqb, ne_eqb, le-leb, lt-leb, leb-true, leb-false}
use Rattle.base.specs.If.{when◌then◌else◌}
use Rattle.expansion.specs.Items.{is_digit, decimal}
use Rattle.number_words.specs.Number.{are_digits, is_numeral, signed_of, numeral_of, value_of}
use Rattle.number_words.specs.Number.{limited, with_digit, magnitude_of, numeral_in}

-- ---- one digit more

decimal_more : (v : ℕ) (s : List ℕ) (c : ℕ) → decimal v (s ++ (c ∷ [])) ≡ decimal v s * 10 + (c - 48)
unfolding decimal
decimal_more v [] c = refl
decimal_more v (d ∷ s) c = decimal_more (v * 10 + (d - 48)) s c

digits_more : (s : List ℕ) (c : ℕ) → are_digits (s ++ (c ∷ [])) ≡ (are_digits s && is_digit c)
unfolding are_digits
digits_more [] c = and-true (is_digit c)
  where
    and-true : (b : Bool) → (b && true) ≡ b
    and-true true = refl
    and-true false = refl
digits_more (d ∷ s) c = ap (λ (b : Bool). is_digit d && b) (digits_more s c) ∙ sym (and_assoc (is_digit d) (are_digits s) (is_digit c))
  where
    and_assoc : (x y z : Bool) → ((x && y) && z) ≡ (x && (y && z))
    and_assoc true y z = refl
    and_assoc false y z = refl

-- the value so far may be limited before the next digit
limited_more : (v d : ℕ) → limited (limited v * 10 + d) ≡ limited (v * 10 + d)
limited_more v d = by_test (leb v 2147483648) refl
  where
    by_test : (t : Bool) → leb v 2147483648 ≡ t → limited ((when t then v else 2147483649) * 10 + d) ≡ limited (v * 10 + d)
    by_test true e = refl
    by_test false e =
        let l : 2147483648 < v = leb-false v 2147483648 e in
        rw (lt-leb (v * 10 + d) 2147483648 (omega arith), lt-leb (21474836490 + d) 2147483648 (omega arith))

limited_most : (v : ℕ) → limited v ≤ 2147483649
limited_most v = by_test (leb v 2147483648) refl
  where
    by_test : (t : Bool) → leb v 2147483648 ≡ t → (when t then v else 2147483649) ≤ 2147483649
    by_test true e = let l : v ≤ 2147483648 = leb-true v 2147483648 e in omega arith
    by_test false e = omega arith

-- by whether the bytes before are digits
magnitude_more : (s : List ℕ) (c n : ℕ) → Some n ≡ magnitude_of s → magnitude_of (s ++ (c ∷ [])) ≡ with_digit n c
unfolding magnitude_of with_digit
magnitude_more s c n e = rw (digits_more s c, decimal_more 0 s c) (by_tests (are_digits s) (is_digit c) e)
  where
    v : ℕ
    v = decimal 0 s

    by_tests : (a b : Bool) → Some n ≡ (when a then Some (limited v) else None)
        → (when a && b then Some (limited (v * 10 + (c - 48))) else None)
        ≡ (when b then (when leb n 2147483649 then Some (limited (n * 10 + (c - 48))) else None) else None)
    by_tests true true e =
        let q : n ≡ limited v = cc in
        rw (q, le-leb (limited v) 2147483649 (limited_most v)) (ap Some (sym (limited_more v (c - 48))))
    by_tests true false e = refl
    by_tests false b e = absurd (let z : ◌≡◌ {A = ℕ} 0 1 = cc in (let y : ⊥ = omega arith in y))

-- n is the magnitude of the first i bytes
abbrev pub Magnitude : List ℕ → ℕ → ℕ → Type 0
Magnitude s i n = Some n ≡ magnitude_of (take i s)

pub magnitude_start : (s : List ℕ) → Magnitude s 0 0
unfolding magnitude_of are_digits decimal
magnitude_start s = refl

magnitude_step : (s : List ℕ) (i n : ℕ) → i < length s → Magnitude s i n → with_digit n (get_or s i 0) ≡ magnitude_of (take (i + 1) s)
magnitude_step s i n h e =
    let m : take (i + 1) s ≡ take i s ++ (get_or s i 0 ∷ []) = ap (λ (k : ℕ). take k s) (add-one i) ∙ take-suc s i 0 h in
    rw m (sym (magnitude_more (take i s) (get_or s i 0) n e))

pub magnitude_next : (s : List ℕ) (i n m : ℕ) → i < length s → Magnitude s i n → Some m ≡ with_digit n (get_or s i 0) → Magnitude s (i + 1) m
magnitude_next s i n m h e w = w ∙ magnitude_step s i n h e

-- bytes that are no digits
none_of : (s : List ℕ) → magnitude_of s ≡ None → are_digits s ≡ false
unfolding magnitude_of
none_of s e = by_test (are_digits s) e
  where
    by_test : (a : Bool) → (when a then Some (limited (decimal 0 s)) else None) ≡ None → a ≡ false
    by_test true e = absurd (let z : ◌≡◌ {A = ℕ} 0 1 = cc in (let y : ⊥ = omega arith in y))
    by_test false e = refl

first_wrong : (s : List ℕ) (i : ℕ) → are_digits (take i s) ≡ false → are_digits s ≡ false
unfolding are_digits
first_wrong [] zero e = e
first_wrong [] (suc i) e = e
first_wrong (c ∷ s) zero e = absurd (let z : ◌≡◌ {A = ℕ} 0 1 = cc in (let y : ⊥ = omega arith in y))
first_wrong (c ∷ s) (suc i) e = by_test (is_digit c) e (first_wrong s i)
  where
    by_test : (b : Bool) → (b && are_digits (take i s)) ≡ false → (are_digits (take i s) ≡ false → are_digits s ≡ false) → (b && are_digits s) ≡ false
    by_test true e f = f e
    by_test false e f = refl

no_digits : (s : List ℕ) (i : ℕ) → magnitude_of (take i s) ≡ None → None ≡ magnitude_of s
unfolding magnitude_of
no_digits s i e = rw (first_wrong s i (none_of (take i s) e))

pub magnitude_none : (s : List ℕ) (i n : ℕ) → i < length s → Magnitude s i n → None ≡ with_digit n (get_or s i 0) → None ≡ magnitude_of s
magnitude_none s i n h e w = no_digits s (i + 1) (sym (w ∙ magnitude_step s i n h e))

pub magnitude_end : (s : List ℕ) (i n : ℕ) → i ≡ length s → Magnitude s i n → Some n ≡ magnitude_of s
magnitude_end s i n e h = rw (e, take-length s) at h

-- ---- a byte's tests

pub digit_below : (n c : ℕ) → c < 48 → None ≡ with_digit n c
unfolding with_digit
digit_below n c h = rw (lt-leb 48 c h)

pub digit_above : (n c : ℕ) → 57 < c → None ≡ with_digit n c
unfolding with_digit
digit_above n c h = rw (le-leb 48 c (omega arith), lt-leb c 57 h)

pub digit_none : (n c : ℕ) → 48 ≤ c → c ≤ 57 → 2147483649 < n → None ≡ with_digit n c
unfolding with_digit
digit_none n c l h k = rw (le-leb 48 c l, le-leb c 57 h, lt-leb n 2147483649 k)

pub digit_large : (n c : ℕ) → 48 ≤ c → c ≤ 57 → n ≤ 2147483649 → 2147483648 < n * 10 + (c - 48)
    → Some 2147483649 ≡ with_digit n c
unfolding with_digit
digit_large n c l h k m = rw (le-leb 48 c l, le-leb c 57 h, le-leb n 2147483649 k, lt-leb _ _ m)

pub digit_fits : (n c : ℕ) → 48 ≤ c → c ≤ 57 → n ≤ 2147483649 → n * 10 + (c - 48) ≤ 2147483648
    → Some (n * 10 + (c - 48)) ≡ with_digit n c
unfolding with_digit
digit_fits n c l h k m = rw (le-leb 48 c l, le-leb c 57 h, le-leb n 2147483649 k, le-leb _ _ m)

-- ---- digits or not

pub numeral_empty : (s : List ℕ) → length s ≡ 0 → None ≡ numeral_in s
unfolding numeral_in
numeral_empty s e = rw (eq-eqb (length s) 0 e)

pub numeral_some : (s : List ℕ) → (length s ≡ 0 → ⊥) → magnitude_of s ≡ numeral_in s
unfolding numeral_in magnitude_of
numeral_some s z = rw (ne_eqb (length s) 0 z)

pub numeral_test : (s : List ℕ) → is_some (numeral_in s) ≡ is_numeral s
unfolding numeral_in
numeral_test s = by_test (is_numeral s)
  where
    by_test : (a : Bool) → is_some {T = ℕ} (when a then Some (limited (decimal 0 s)) else None) ≡ a
    by_test true = refl
    by_test false = refl

-- ---- signs

pub positive_large : (n : ℕ) → 2147483648 ≤ n → None ≡ signed_of false n
unfolding signed_of
positive_large n h = rw (lt-leb n 2147483647 (omega arith))

pub positive_fits : (n : ℕ) (v : ℤ) → n < 2147483648 → v ≡ to_z w32 n → Some v ≡ signed_of false n
unfolding signed_of
positive_fits n v h e = rw (le-leb n 2147483647 (omega arith), e, to_z_pos w32 {n = n} h)

pub negative_large : (n : ℕ) → 2147483648 < n → None ≡ signed_of true n
unfolding signed_of
negative_large n h = rw (lt-leb n 2147483648 h)

pub negative_none : (n : ℕ) → n ≡ 0 → Some (pos 0) ≡ signed_of true n
unfolding signed_of
negative_none n e = rw e

pub negative_fits : (n : ℕ) (v : ℤ) → (n ≡ 0 → ⊥) → n ≤ 2147483648 → v ≡ to_z w32 (4294967296 - n) → Some v ≡ signed_of true n
unfolding signed_of
negative_fits zero v z h e = absurd (z refl)
negative_fits (suc n) v z h e = rw (le-leb (suc n) 2147483648 h, e, to_z-neg w32 n (omega arith))

-- ---- words

-- a limited magnitude is no number's
limited_signed : (minus : Bool) (v : ℕ) → signed_of minus (limited v) ≡ signed_of minus v
unfolding signed_of
limited_signed minus v = by_tests minus (leb v 2147483648) refl
  where
    by_tests : (minus t : Bool) → leb v 2147483648 ≡ t → signed_of minus (when t then v else 2147483649) ≡ signed_of minus v
    by_tests minus true e = refl
    by_tests true false e = rw e
    by_tests false false e = rw (lt-leb v 2147483647 (let l : 2147483648 < v = leb-false v 2147483648 e in omega arith))

-- the number of digits by their magnitude
pub numeral_fits : (minus : Bool) (s : List ℕ) (n : ℕ) → Some n ≡ numeral_in s → signed_of minus n ≡ numeral_of minus s
unfolding numeral_in numeral_of signed_of
numeral_fits minus s n e = by_test minus (is_numeral s) e
  where
    v : ℕ
    v = decimal 0 s

    by_test : (minus a : Bool) → Some n ≡ (when a then Some (limited v) else None)
        → signed_of minus n ≡ (when a then signed_of minus v else None)
    by_test minus true e =
        let q : n ≡ limited v = cc in
        rw q (limited_signed minus v)
    by_test minus false e = absurd (let z : ◌≡◌ {A = ℕ} 0 1 = cc in (let y : ⊥ = omega arith in y))

pub numeral_wrong : (minus : Bool) (s : List ℕ) → None ≡ numeral_in s → None ≡ numeral_of minus s
unfolding numeral_in numeral_of
numeral_wrong minus s e = by_test (is_numeral s) e
  where
    by_test : (a : Bool) → None ≡ (when a then Some (limited (decimal 0 s)) else None)
        → None ≡ (when a then signed_of minus (decimal 0 s) else None)
    by_test true e = absurd (let z : ◌≡◌ {A = ℕ} 0 1 = cc in (let y : ⊥ = omega arith in y))
    by_test false e = refl

-- ---- words

-- a word that begins with a byte, or does not
pub begins : (c : ℕ) (w : List ℕ) → pointwise eqb (take 1 w) (c ∷ []) ≡ true → get_or w 0 0 ≡ c
begins c [] e = absurd (let z : ◌≡◌ {A = ℕ} 0 1 = cc in (let y : ⊥ = omega arith in y))
begins c (d ∷ w) e = by_test (eqb d c) refl e
  where
    by_test : (t : Bool) → eqb d c ≡ t → (t && true) ≡ true → d ≡ c
    by_test true q e = eqb-true d c q
    by_test false q e = absurd (let z : ◌≡◌ {A = ℕ} 0 1 = cc in (let y : ⊥ = omega arith in y))

pub begins_not : (c : ℕ) (w : List ℕ) → pointwise eqb (take 1 w) (c ∷ []) ≡ false → 0 < c → get_or w 0 0 ≡ c → ⊥
begins_not c [] e h q = omega arith
begins_not c (d ∷ w) e h q = absurd (let z : ◌≡◌ {A = Bool} true false = sym (rw (eq-eqb d c q) refl) ∙ e in (let y : ◌≡◌ {A = ℕ} 0 1 = cc in (let x : ⊥ = omega arith in x)))

pub word_positive : (w : List ℕ) → (get_or w 0 0 ≡ 45 → ⊥) → numeral_of false w ≡ value_of w
unfolding value_of
word_positive w m = rw (ne_eqb (get_or w 0 0) 45 m)

pub word_negative : (w : List ℕ) → get_or w 0 0 ≡ 45 → numeral_of true (drop 1 w) ≡ value_of w
unfolding value_of
word_negative w m = rw (eq-eqb (get_or w 0 0) 45 m)
