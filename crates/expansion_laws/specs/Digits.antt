-- The digits of a number: any count above the number gives the same, and the equations, which show no count.
-- Assumes nothing.
use Rattle.std.specs.Prelude.{◌≡◌, refl, Bool, true, false, List, [], ◌∷◌, ◌++◌, ℕ, zero, suc, ◌/◌, ◌%◌, ◌≤◌, ◌<◌, ltb}
use Rattle.std.proofs.Common.{ap, not-suc-le-zero, arith, lt-ltb, le-ltb, ltb-false}
use Rattle.std.proofs.Math.Nat.{div-lt_self}
use Rattle.expansion.specs.Print.{digit_byte, digits_from, digits}

-- the quotient of a number from the base on is smaller
pub div_falls : (n b : ℕ) → 2 ≤ b → b ≤ n → n / b < n
div_falls n b h k = div-lt_self (omega arith) (omega arith)

-- two counts that are enough
digits_same : (f g b a n : ℕ) → 2 ≤ b → n < f → n < g → digits_from f b a n ≡ digits_from g b a n
unfolding digits_from
digits_same zero g b a n h p q = absurd (not-suc-le-zero p)
digits_same (suc f) zero b a n h p q = absurd (not-suc-le-zero q)
digits_same (suc f) (suc g) b a n h p q = by_test (ltb n b) refl (λ k l. digits_same f g b a (n / b) h k l)
  where
    by_test : (t : Bool) → ltb n b ≡ t
        → (n / b < f → n / b < g → digits_from f b a (n / b) ≡ digits_from g b a (n / b))
        → digits_from (suc f) b a n ≡ digits_from (suc g) b a n
    by_test true e again = rw (digits_from, e)
    by_test false e again =
        let r : n / b < n = div_falls n b h (ltb-false n b e) in
        rw (digits_from, e) (ap (λ (ds : List ℕ). ds
        ++ (digit_byte a (n % b) ∷ [])) (again (omega arith) (omega arith)))

-- ---- the laws

-- n and one is enough
pub digits_enough : (k b a n : ℕ) → 2 ≤ b → n < k → digits_from k b a n ≡ digits b a n
unfolding digits
digits_enough k b a n h l = digits_same k (suc n) b a n h (omega arith) (omega arith)

-- a number below the base is one digit
pub digits_one : (b a n : ℕ) → n < b → digits b a n ≡ digit_byte a n ∷ []
unfolding digits digits_from
digits_one b a n h = rw (digits_from, lt-ltb n b h)

-- any other is the digits of its quotient, and its remainder's digit
pub digits_more : (b a n : ℕ) → 2 ≤ b → b ≤ n → digits b a n ≡ digits b a (n / b) ++ (digit_byte a (n % b) ∷ [])
unfolding digits digits_from
digits_more b a n h l =
    let again = digits_same n (suc (n / b)) b a (n / b) h (div_falls n b h l) (omega arith) in
    rw (digits_from, le-ltb n b l) (ap (λ (ds : List ℕ). ds ++ (digit_byte a (n % b) ∷ [])) again)
