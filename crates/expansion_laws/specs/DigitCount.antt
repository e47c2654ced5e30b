-- How many digits a number has.
-- Assumes nothing.
use Rattle.std.specs.Prelude.{◌≡◌, [], ◌∷◌, ℕ, zero, suc, ◌+◌, ◌*◌, ◌/◌, ◌%◌, ◌^◌, ◌≤◌, ◌<◌, length}
use Rattle.std.proofs.Common.{◌∙◌, mul-le-mul_left, div-lt_iff_lt-mul, le-div_iff_mul-le, pow-suc, lt_of_lt_of_le}
use Rattle.std.proofs.Common.{one-mul, mul-one, mul_comm, arith, length-append}
use Rattle.std.proofs.Math.Nat.{one-le-pow, pow-zero}
use Rattle.base.proofs.IfLaws.{below_or}
use Rattle.expansion.specs.Print.{digit_byte, digits}
use Rattle.expansion_laws.specs.Digits.{digits_one, digits_more}

pub power_one : (b : ℕ) → b ^ 1 ≡ b
power_one b = pow-suc b 0 ∙ rw (pow-zero b) (one-mul b)

digits_length_more : (b a n : ℕ) → 2 ≤ b → b ≤ n → length (digits b a n) ≡ length (digits b a (n / b)) + 1
digits_length_more b a n h l =
    rw (digits_more b a n h l) (length-append (digits b a (n / b)) (digit_byte a (n % b) ∷ []))

pub digits_some : (b a n : ℕ) → 2 ≤ b → 0 < length (digits b a n)
digits_some b a n h =
    below_or n b (λ l. rw (digits_one b a n l) (omega arith)) (λ l. rw (digits_length_more b a n h l) (omega arith))

-- a number from b ^ k on has more than k digits
pub digits_above : (k b a n : ℕ) → 2 ≤ b → b ^ k ≤ n → k < length (digits b a n)
digits_above zero b a n h l = digits_some b a n h
digits_above (suc k) b a n h l =
    let p : b ^ k * b ≤ n = rw (pow-suc b k) at l in
    let o : 1 ≤ b ^ k = one-le-pow k b (omega arith) in
    let q : b * 1 ≤ b * b ^ k = mul-le-mul_left b o in
    let c : b * b ^ k ≡ b ^ k * b = mul_comm b (b ^ k) in
    let m : b ≤ n = omega (arith, mul-one b) in
    let r : b ^ k ≤ n / b = (le-div_iff_mul-le {k = b} {x = b ^ k} {y = n} (omega arith)).1 p in
    rw (digits_length_more b a n h m) (omega (arith, digits_above k b a (n / b) h r))

-- a number below c ^ (k + 1) has at most k + 1 digits, in a base from c on
pub digits_below : (k c b a n : ℕ) → 2 ≤ c → c ≤ b → n < c ^ suc k → length (digits b a n) ≤ suc k
digits_below zero c b a n g h l =
    let m : n < b = omega (arith, power_one c) in
    rw (digits_one b a n m) (omega arith)
digits_below (suc k) c b a n g h l =
    below_or n b (λ m. rw (digits_one b a n m) (omega arith))
    (λ m.
    let p : c ^ suc k * c ≤ c ^ suc k * b = mul-le-mul_left (c ^ suc k) h in
    let q : n < c ^ suc k * b = lt_of_lt_of_le (rw (pow-suc c (suc k)) at l) p in
    let r : n / b < c ^ suc k = (div-lt_iff_lt-mul {k = b} {x = n} {y = c ^ suc k} (omega arith)).1 q in
    rw (digits_length_more b a n (omega arith) m) (omega (arith, digits_below k c b a (n / b) g h r)))

pub digits_word : (b a n : ℕ) → 2 ≤ b → n < 2 ^ 32 → length (digits b a n) ≤ 32
digits_word b a n h l = digits_below 31 2 b a n (omega arith) h l

pub digits_ten : (a n : ℕ) → n < 2 ^ 32 → length (digits 10 a n) ≤ 10
digits_ten a n l = digits_below 9 10 10 a n (omega arith) (omega arith) (omega arith)
