-- Laws of decimal digits in pairs.
-- Assumes nothing.
use mathlib.Core.Path.{◌≡◌, sym, ap, ◌∙◌}
use mathlib.Core.List.{List, [], ◌∷◌, ◌++◌, append_assoc, append-nil}
use Prim.Native.Nat.{ℕ, zero, suc, ◌+◌, ◌*◌, ◌/◌, ◌%◌, ◌^◌, ◌≤◌, ◌<◌}
use native.Mathlib.Nat.{div-one, div-div-eq-div-mul, pow-zero, pow-suc}
use native.Mathlib.Omega.{arith}
use borrow.Author.Tests.{lt-ltb}
use lib.ListN.{length, get_or, length-append}
use Rattle.base.proofs.IfLaws.{below_or}
use Rattle.word.specs.Word.{word}
use Rattle.expansion.specs.Print.{digit_byte}
use Rattle.expansion_laws.specs.Digits.{digits_one, digits_more}
use Rattle.expansion_laws.specs.DigitCount.{digits_some, digits_above, digits_below}
use Rattle.digit_pairs.specs.Pairs.{pairs}
use Rattle.digit_pairs.specs.Rule.{two_digits}
use Rattle.digit_pairs.proofs.Rule.{pair_at}
use Rattle.decimals.specs.Decimals.{decimal_digits, last_pairs}

-- ---- how many digits

-- a number from 10 ^ k on and below 10 ^ (k + 1) has k + 1
pub count_between : (k lo hi n : ℕ) → lo ≡ 10 ^ k → hi ≡ 10 ^ suc k → lo ≤ n → n < hi → suc k ≡ length (decimal_digits n)
count_between k lo hi n e f l h =
    let m = digits_above k 10 97 n (omega arith) (rw (← e) l) in
    let s = digits_below k 10 10 97 n (omega arith) (omega arith) (rw (← f) h) in
    omega arith

pub one_digit : (n : ℕ) → n < 10 → decimal_digits n ≡ (48 + n) ∷ []
one_digit n h = digits_one 10 97 n h ∙ rw (lt-ltb n 10 h)

-- ---- a pair as a short

pub pair_bytes : (k p : ℕ) → k < 100 → p ≡ word 2 (get_or pairs k []) 0
    → (p < 65536) × (get_or pairs k [] ≡ p % 256 ∷ p / 256 ∷ [])
unfolding word
pair_bytes k p h e =
    let t : k / 10 < 10 = omega arith in
    let o : k % 10 < 10 = omega arith in
    let q : p ≡ 48 + k / 10 + 256 * (48 + k % 10 + 256 * 0) = e ∙ rw (pair_at k h, lt-ltb (k / 10) 10 t, lt-ltb (k % 10) 10 o) in
    let x : 48 + k / 10 ≡ p % 256 = omega arith in
    let y : 48 + k % 10 ≡ p / 256 = omega arith in
    (omega arith, pair_at k h ∙ rw (lt-ltb (k / 10) 10 t, lt-ltb (k % 10) 10 o, x, y))

-- ---- two digits at a time

pub below_100 : (n : ℕ) → n % 100 < 100
below_100 n = omega arith

pair_two : (n : ℕ) → get_or pairs (n % 100) [] ≡ two_digits (n % 100)
pair_two n = pair_at (n % 100) (below_100 n)

-- a number from 100 on is the digits of its quotient by 100, and the pair of its remainder
digits_pair : (n : ℕ) → 100 ≤ n → decimal_digits n ≡ decimal_digits (n / 100) ++ get_or pairs (n % 100) []
digits_pair n h =
    let q : n / 10 / 10 ≡ n / 100 = omega arith in
    let t : n / 10 % 10 ≡ n % 100 / 10 = omega arith in
    let o : n % 10 ≡ n % 100 % 10 = omega arith in
    let one = digits_more 10 97 n (omega arith) (omega arith) in
    let two = digits_more 10 97 (n / 10) (omega arith) (omega arith) in
    one
    ∙ rw (two, q, t, o) (append_assoc (decimal_digits (n / 100)) (digit_byte 97 (n % 100 / 10) ∷ []) (digit_byte 97 (n % 100 % 10) ∷ []))
    ∙ ap (λ (p : List ℕ). decimal_digits (n / 100) ++ p) (sym (pair_two n))

-- a number of two digits is its pair
digits_two : (n : ℕ) → 10 ≤ n → n < 100 → decimal_digits n ≡ get_or pairs (n % 100) []
digits_two n h l =
    let m : n % 100 ≡ n = omega arith in
    let q : n / 10 < 10 = omega arith in
    digits_more 10 97 n (omega arith) h ∙ rw (digits_one 10 97 (n / 10) q) (sym (pair_two n ∙ rw m))

-- ---- the last pairs

pub quotient_none : (n : ℕ) → n / 100 ^ 0 ≡ n
quotient_none n = rw (pow-zero 100) (div-one n)

pub quotient_more : (n r : ℕ) → n / 100 ^ r / 100 ≡ n / 100 ^ suc r
quotient_more n r = rw (pow-suc 100 r) (div-div-eq-div-mul n (100 ^ r) 100)

pub length_pairs : (r n : ℕ) → length (last_pairs r n) ≡ 2 * r
unfolding last_pairs
length_pairs zero n = omega arith
length_pairs (suc r) n =
    let l : length (get_or pairs (n / 100 ^ r % 100) []) ≡ 2 = ap length (pair_two (n / 100 ^ r)) in
    length-append (get_or pairs (n / 100 ^ r % 100) []) (last_pairs r n) ∙ omega (arith, length_pairs r n)

length_rest : (r n : ℕ) → decimal_digits n ≡ decimal_digits (n / 100 ^ r) ++ last_pairs r n → length (decimal_digits n) ≡ length (decimal_digits (n / 100 ^ r)) + 2 * r
length_rest r n e =
    ap length e ∙ length-append (decimal_digits (n / 100 ^ r)) (last_pairs r n) ∙ ap (λ (k : ℕ). length (decimal_digits (n / 100 ^ r)) + k) (length_pairs r n)

two_below : (n : ℕ) → n < 100 → length (decimal_digits n) ≤ 2
two_below n h = digits_below 1 10 10 97 n (omega arith) (omega arith) h

-- the digits without the last pairs are those of the quotient, as long as there are more
digits_last : (r n : ℕ) → 2 * r < length (decimal_digits n) → decimal_digits n ≡ decimal_digits (n / 100 ^ r) ++ last_pairs r n
unfolding last_pairs
digits_last zero n h = sym (append-nil _) ∙ ap (λ (m : ℕ). decimal_digits m ++ []) (sym (quotient_none n))
digits_last (suc r) n h =
    let m : ℕ = n / 100 ^ r in
    let e : decimal_digits n ≡ decimal_digits m ++ last_pairs r n = digits_last r n (omega arith) in
    let l : 2 < length (decimal_digits m) = omega (arith, length_rest r n e) in
    let f : decimal_digits m ≡ decimal_digits (m / 100) ++ get_or pairs (m % 100) [] =
    below_or m 100 (λ b. absurd (let z : ⊥ = omega (arith, two_below m b) in z)) (λ b. digits_pair m b) in
    e
    ∙ rw f (append_assoc (decimal_digits (m / 100)) (get_or pairs (m % 100) []) (last_pairs r n))
    ∙ ap (λ (q : ℕ). decimal_digits q ++ (get_or pairs (m % 100) [] ++ last_pairs r n)) (quotient_more n r)

-- an even number of digits is pairs alone
pub digits_even : (r n : ℕ) → length (decimal_digits n) ≡ 2 * r → decimal_digits n ≡ last_pairs r n
unfolding last_pairs
digits_even zero n h = absurd (let z : ⊥ = omega (arith, digits_some 10 97 n (omega arith)) in z)
digits_even (suc r) n h =
    let m : ℕ = n / 100 ^ r in
    let e : decimal_digits n ≡ decimal_digits m ++ last_pairs r n = digits_last r n (omega arith) in
    let l : length (decimal_digits m) ≡ 2 = omega (arith, length_rest r n e) in
    let f : decimal_digits m ≡ get_or pairs (m % 100) [] =
    below_or m 10 (λ b. absurd (let z : ⊥ = omega (arith, ap length (one_digit m b)) in z))
    (λ b. below_or m 100 (λ d. digits_two m b d) (λ d. absurd (let z : ⊥ = omega (arith, digits_above 2 10 97 m (omega arith) d) in z))) in
    e ∙ ap (λ (p : List ℕ). p ++ last_pairs r n) f

-- an odd number of digits is a digit and pairs
pub highest_small : (r n : ℕ) → length (decimal_digits n) ≡ 1 + 2 * r → n / 100 ^ r < 10
highest_small r n h =
    let m : ℕ = n / 100 ^ r in
    let l : length (decimal_digits m) ≡ 1 = omega (arith, length_rest r n (digits_last r n (omega arith))) in
    below_or m 10 (λ b. b) (λ b. absurd (let z : ⊥ = omega (arith, digits_above 1 10 97 m (omega arith) b) in z))

pub digits_odd : (r n : ℕ) → length (decimal_digits n) ≡ 1 + 2 * r → decimal_digits n ≡ (48 + n / 100 ^ r) ∷ last_pairs r n
digits_odd r n h =
    digits_last r n (omega arith) ∙ rw (one_digit (n / 100 ^ r) (highest_small r n h))
