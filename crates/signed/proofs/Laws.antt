-- Laws of 32-bit values, stated over ℤ and proved by the sign.
-- Assumes nothing.
use Rattle.std.proofs.Common.{lt_of_le_of_lt, ◌≡◌, ℕ, zero, suc, ◌+◌, ◌-◌, ◌*◌, ◌/◌, ◌%◌, ◌^◌, ◌<◌, ◌≤◌, Bool, true, false, eqb, ltb, ℤ, pos, negsuc, ◌+ℤ◌, ◌-ℤ◌, ◌*ℤ◌, neg_ℤ, sym, refl, ap, ◌∙◌, ap₂, mul_comm, add-mul, mul-add, sub-add_cancel, div-le_self, arith, to_z-of_z, w32, SFits, to_z, of_z, ltb-false, ltb-true, ne_eqb}
use native.Mathlib.Nat.{zero-mod}
use lib.IntN.{sub_ℕ}
use lib.Signed.{mag, quot_z, rem_z, mag_rem}
use Rattle.std.specs.Int.{int_wrapping_div}
use mir.Val.{hbits}
use mir.Facts.{Fits-of_z}
use Rattle.signed.specs.Signed.{low32, wrap, multiply, divide, remainder, is_zero}

-- ---- calls: values go in and come out as bits, and the result r is in its range

pub again : (r : ℤ) → mag r < 2 ^ hbits w32 → to_z w32 (of_z w32 r) ≡ r
again r h = to_z-of_z {w = w32} {z = r} (record { sfits = h })

pub called : (f : ℤ → ℤ) {a r : ℤ} → SFits w32 a → mag r < 2 ^ hbits w32 → r ≡ f (to_z w32 (of_z w32 a)) → to_z w32 (of_z w32 r) ≡ f a
called f {a} {r} h k e = again r k ∙ e ∙ ap f (to_z-of_z {w = w32} {z = a} h)

pub called_two : (f : ℤ → ℤ → ℤ) {a b r : ℤ} → SFits w32 a → SFits w32 b → mag r < 2 ^ hbits w32
    → r ≡ f (to_z w32 (of_z w32 a)) (to_z w32 (of_z w32 b)) → to_z w32 (of_z w32 r) ≡ f a b
called_two f {a} {b} {r} h k l e = again r l ∙ e ∙ ap₂ f (to_z-of_z {w = w32} {z = a} h) (to_z-of_z {w = w32} {z = b} k)

-- ---- the lowest 32 bits of a sum, a difference and a product

low_subℕ : (a b : ℕ) → a < 2 ^ 32 → b ≤ 2 ^ 32 → (a + (2 ^ 32 - b)) % 2 ^ 32 ≡ low32 (sub_ℕ a b)
unfolding low32
low_subℕ a b ha hb = go (ltb a b) refl
  where
    go : (t : Bool) → ltb a b ≡ t → (a + (2 ^ 32 - b)) % 2 ^ 32 ≡ low32 (sub_ℕ a b)
    go true e = let q : a < b = ltb-true a b e in rw e (omega arith)
    go false e = let q : b ≤ a = ltb-false a b e in rw e (omega arith)

pub low_add : (a b : ℤ) → SFits w32 a → SFits w32 b → (of_z w32 a + of_z w32 b) % 2 ^ 32 ≡ low32 (a +ℤ b)
unfolding low32
low_add (pos a) (pos b) h k = refl
low_add (pos a) (negsuc b) h k =
    let p : a < 2147483648 = h.sfits in
    let q : b < 2147483648 = k.sfits in
    low_subℕ a (suc b) (omega arith) (omega arith)
low_add (negsuc a) (pos b) h k =
    let p : a < 2147483648 = h.sfits in
    let q : b < 2147483648 = k.sfits in
    (let e : (2 ^ 32 - suc a) + b ≡ b + (2 ^ 32 - suc a) = omega arith in rw e (low_subℕ b (suc a) (omega arith) (omega arith)))
low_add (negsuc a) (negsuc b) h k = let p : a < 2147483648 = h.sfits in let q : b < 2147483648 = k.sfits in omega arith

pub low_fits : (z : ℤ) → low32 z < 2 ^ 32
unfolding low32
low_fits (pos n) = omega arith
low_fits (negsuc n) = omega arith

-- the bits of a difference: what a number r has to be, if r and the bits of b wrap to those of a
low_back : (a b : ℤ) → SFits w32 a → SFits w32 b → (low32 (a -ℤ b) + of_z w32 b) % 2 ^ 32 ≡ of_z w32 a
unfolding low32
low_back (pos a) (pos zero) h k = let p : a < 2147483648 = h.sfits in omega arith
low_back (pos a) (pos (suc b)) h k =
    let p : a < 2147483648 = h.sfits in
    let q : suc b < 2147483648 = k.sfits in
    rw (← low_subℕ a (suc b) (omega arith) (omega arith)) (omega arith)
low_back (pos a) (negsuc b) h k = let p : a < 2147483648 = h.sfits in let q : b < 2147483648 = k.sfits in omega arith
low_back (negsuc a) (pos zero) h k = let p : a < 2147483648 = h.sfits in rw (← low_subℕ 0 (suc a) (omega arith) (omega arith)) (omega arith)
low_back (negsuc a) (pos (suc b)) h k = let p : a < 2147483648 = h.sfits in let q : suc b < 2147483648 = k.sfits in omega arith
low_back (negsuc a) (negsuc b) h k =
    let p : a < 2147483648 = h.sfits in
    let q : b < 2147483648 = k.sfits in
    rw (← low_subℕ (suc b) (suc a) (omega arith) (omega arith)) (omega arith)

pub low_sub : (a b : ℤ) (r : ℕ) → SFits w32 a → SFits w32 b → r < 2 ^ 32 → (r + of_z w32 b) % 2 ^ 32 ≡ of_z w32 a → r ≡ low32 (a -ℤ b)
low_sub a b r h k f e =
    let l : low32 (a -ℤ b) < 2 ^ 32 = low_fits (a -ℤ b) in
    let g : (low32 (a -ℤ b) + of_z w32 b) % 2 ^ 32 ≡ of_z w32 a = low_back a b h k in
    let u : of_z w32 b < 2 ^ 32 = (Fits-of_z k).fits in
    omega arith

low_neg : (k b : ℕ) → k ≤ 2 ^ 32 → ((2 ^ 32 - k) * b) % 2 ^ 32 ≡ low32 (neg_ℤ (pos (k * b)))
unfolding low32
low_neg k b h = go (k * b) (sym (add-mul (2 ^ 32 - k) k b) ∙ ap (λ (x : ℕ). x * b) (sub-add_cancel h))
  where
    go : (p : ℕ) → (2 ^ 32 - k) * b + p ≡ 2 ^ 32 * b → ((2 ^ 32 - k) * b) % 2 ^ 32 ≡ low32 (neg_ℤ (pos p))
    go zero e = omega arith
    go (suc p) e = omega arith

pub low_mul : (a b : ℤ) → SFits w32 a → SFits w32 b → (of_z w32 a * of_z w32 b) % 2 ^ 32 ≡ low32 (a *ℤ b)
unfolding low32
low_mul (pos a) (pos b) h k = refl
low_mul (pos a) (negsuc b) h k =
    let q : b < 2147483648 = k.sfits in
    rw (mul_comm a (2 ^ 32 - suc b), mul_comm a (suc b)) (low_neg (suc b) a (omega arith))
low_mul (negsuc a) (pos b) h k = let p : a < 2147483648 = h.sfits in low_neg (suc a) b (omega arith)
low_mul (negsuc a) (negsuc b) h k =
    let p : a < 2147483648 = h.sfits in
    let q : b < 2147483648 = k.sfits in
    let m : ℕ = 2 ^ 32 - suc a in
    let n : ℕ = 2 ^ 32 - suc b in
    let x : m * n + suc a * n ≡ 2 ^ 32 * n = sym (add-mul m (suc a) n) ∙ ap (λ (y : ℕ). y * n) (sub-add_cancel (omega arith)) in
    let y : suc a * n + suc a * suc b ≡ suc a * 2 ^ 32 = sym (mul-add (suc a) n (suc b)) ∙ ap (λ (z : ℕ). suc a * z) (sub-add_cancel (omega arith)) in
    four (m * n) (suc a * n) (suc a * suc b) n (suc a) x y
  where
    four : (x y p m n : ℕ) → x + y ≡ 2 ^ 32 * m → y + p ≡ n * 2 ^ 32 → x % 2 ^ 32 ≡ p % 2 ^ 32
    four x y p m n e f = omega arith

pub product_bits : {a b : ℤ} → SFits w32 a → SFits w32 b → to_z w32 ((of_z w32 a * of_z w32 b) % 2 ^ 32) ≡ multiply a b
unfolding multiply wrap
product_bits {a} {b} h k = ap (to_z w32) (low_mul a b h k)

-- the same of a number r with the product's bits n
pub product_is : {a b r : ℤ} {n : ℕ} → SFits w32 a → SFits w32 b → mag r < 2 ^ hbits w32 → r ≡ to_z w32 n → n ≡ (of_z w32 a * of_z w32 b) % 2 ^ 32
    → to_z w32 (of_z w32 r) ≡ multiply a b
product_is {a} {b} {r} h k l e z = again r l ∙ e ∙ ap (to_z w32) z ∙ product_bits h k

-- ---- division

pub zero_of : (z : ℤ) → SFits w32 z → of_z w32 z ≡ 0 → z ≡ pos 0
zero_of (pos n) h e = ap pos e
zero_of (negsuc n) h e = absurd (let p : n < 2147483648 = h.sfits in omega arith)

-- the lowest 32 bits of the negative of a number up to 2^31
low_negative : (n : ℕ) → n ≤ 2147483648 → low32 (neg_ℤ (pos n)) ≡ of_z w32 (neg_ℤ (pos n))
unfolding low32
low_negative zero k = refl
low_negative (suc n) k = omega arith

-- a quotient is at most 2^31
low_div : (a b : ℤ) → SFits w32 a → low32 (quot_z a b) ≡ of_z w32 (quot_z a b)
unfolding low32
low_div (pos a) (pos b) h = let p : a < 2147483648 = h.sfits in omega (arith, div-le_self a b)
low_div (pos a) (negsuc b) h =
    let p : a < 2147483648 = h.sfits in low_negative (a / suc b) (omega (arith, div-le_self a (suc b)))
low_div (negsuc a) (pos b) h =
    let p : a < 2147483648 = h.sfits in low_negative (suc a / b) (omega (arith, div-le_self (suc a) b))
low_div (negsuc a) (negsuc b) h = let p : a < 2147483648 = h.sfits in omega (arith, div-le_self (suc a) (suc b))

pub div_is : (a b : ℤ) → SFits w32 a → (b ≡ pos 0 → ⊥) → to_z w32 (of_z w32 (quot_z a b)) ≡ divide a b
unfolding divide wrap
div_is a (pos zero) h z = absurd (z refl)
div_is a (pos (suc b)) h z = rw (ne_eqb (suc b) 0 (λ e. omega arith)) (ap (to_z w32) (sym (low_div a (pos (suc b)) h)))
div_is a (negsuc b) h z = ap (to_z w32) (sym (low_div a (negsuc b) h))

pub rem_is : (a b : ℤ) → (b ≡ pos 0 → ⊥) → rem_z a b ≡ remainder a b
unfolding remainder
rem_is a (pos zero) z = absurd (z refl)
rem_is a (pos (suc b)) z = rw (ne_eqb (suc b) 0 (λ e. omega arith))
rem_is a (negsuc b) z = refl

-- what the calls of std answer, with bits that went in and come out
pub quotient_is : {a b r : ℤ} → SFits w32 a → SFits w32 b → mag r < 2 ^ hbits w32 → r ≡ int_wrapping_div w32 (to_z w32 (of_z w32 a)) (to_z w32 (of_z w32 b))
    → (of_z w32 b ≡ 0 → ⊥) → to_z w32 (of_z w32 r) ≡ divide a b
quotient_is {a} {b} h k l e z = called_two (int_wrapping_div w32) h k l e ∙ div_is a b h (λ i. z (ap (of_z w32) i))

pub remainder_is : {a b r : ℤ} → SFits w32 a → SFits w32 b → mag r < 2 ^ hbits w32 → r ≡ rem_z (to_z w32 (of_z w32 a)) (to_z w32 (of_z w32 b))
    → (of_z w32 b ≡ 0 → ⊥) → to_z w32 (of_z w32 r) ≡ remainder a b
remainder_is {a} {b} h k l e z = called_two rem_z h k l e ∙ rem_is a b (λ i. z (ap (of_z w32) i))

-- 0 leaves nothing
pub none_left : {a : ℤ} (b : ℤ) → SFits w32 a → of_z w32 a ≡ 0 → pos 0 ≡ remainder a b
unfolding remainder
none_left {a} (pos zero) h e = refl
none_left {a} (pos (suc b)) h e = rw (zero_of a h e, ne_eqb (suc b) 0 (λ i. omega arith), zero-mod (suc b))
none_left {a} (negsuc b) h e = rw (zero_of a h e, zero-mod (suc b))

pub rem_fits : (a b : ℤ) → SFits w32 a → SFits w32 (rem_z a b)
rem_fits a b h = record { sfits = lt_of_le_of_lt (mag_rem a b) h.sfits }

-- ---- tests

pub zero_yes : (z : ℤ) → SFits w32 z → of_z w32 z ≡ 0 → is_zero z ≡ true
zero_yes z h e = rw (zero_of z h e)

pub zero_no : (z : ℤ) → (of_z w32 z ≡ 0 → ⊥) → is_zero z ≡ false
zero_no (pos n) h = ne_eqb n 0 h
zero_no (negsuc n) h = refl

pub zero_bits : (z : ℤ) → SFits w32 z → eqb (of_z w32 z) 0 ≡ is_zero z
zero_bits (pos n) h = refl
zero_bits (negsuc n) h = let p : n < 2147483648 = h.sfits in ne_eqb (2 ^ 32 - suc n) 0 (λ e. omega arith)

-- values with the same bits are the same
pub same_bits : {a b : ℤ} → SFits w32 a → SFits w32 b → of_z w32 a ≡ of_z w32 b → a ≡ b
same_bits h k e = sym (to_z-of_z h) ∙ ap (to_z w32) e ∙ to_z-of_z k

-- the lowest 32 bits of a value are its bits
pub low_bits : (z : ℤ) → SFits w32 z → low32 z ≡ of_z w32 z
unfolding low32
low_bits (pos n) h = let p : n < 2147483648 = h.sfits in omega arith
low_bits (negsuc n) h = let p : n < 2147483648 = h.sfits in omega arith
