-- Digits and their value.
-- Assumes nothing.
use Rattle.std.specs.Prelude.{◌≡◌, Bool, ◌&&◌, List, leb, length, get_or, None}
use Rattle.std.proofs.Math.Path.{refl, ap}
use Rattle.std.proofs.Common.{sym, ◌∙◌, mul-le-mul_left, mul-le-mul, mul-one}
use Rattle.std.proofs.Math.Bool.{true, false}
use Prim.Native.Nat.{ℕ, zero, suc, ◌+◌, ◌-◌, ◌*◌, ◌≤◌, ◌<◌, min}
use Rattle.std.proofs.Math.Numerals.{add-one}
use native.Mathlib.Omega.{arith}
use borrow.Author.Tests.{le-leb, lt-leb, eq-eqb, ne_eqb}
use Rattle.base.specs.If.{when◌then◌else◌}
use Rattle.base.proofs.IfLaws.{below_or}
use Rattle.text.specs.declared.NumberBase.{NumberBase}
use Rattle.text.specs.declared.NumberBase.TheVariants.{Octal, Decimal, Hexadecimal}
use Rattle.text.specs.declared.ByteClass.TheVariants as C
use Rattle.text.specs.declared.FieldForm.{FieldForm}
use Rattle.text.specs.declared.FieldForm.TheVariants as F
use Rattle.text.specs.Bytes.{digit_of, base_of, run_end}
use Rattle.entry.specs.Limits.{number_most}
use Rattle.text.specs.Numbers.{digits_most, with_digits, number_form, formed, digits_in, digits_at}
use Rattle.text_laws.specs.Runs.{run_end_lem, run_ge, run_le}

-- more digits give no less
digits_ge : (base : ℕ) (t : List ℕ) (i n v : ℕ) → 1 ≤ base → v ≤ with_digits base t i n v
unfolding with_digits
digits_ge base t i zero v h = omega arith
digits_ge base t i (suc n) v h =
    let m : v ≤ v * base = omega (arith, mul-le-mul_left v h, mul-one v) in
    let r = digits_ge base t (suc i) n (v * base + digit_of (get_or t i 0)) h in
    omega arith

-- the digits from at up to i have the value v, which is not above the most
pub record Valued (base : ℕ) (t : List ℕ) (at e i v : ℕ) : Type 0 where
  pub from : at ≤ i
  pub within : i ≤ e
  pub small : v ≤ number_most
  pub value : with_digits base t i (e - i) v ≡ with_digits base t at (e - at) 0

module _ (base : ℕ) (t : List ℕ) (at e : ℕ) where
  pub valued_none : at ≤ e → Valued base t at e at 0
  valued_none h = record { from = omega arith; within = h; small = omega arith; value = refl }

  module _ (i v : ℕ) (s : Valued base t at e i v) where
    pub valued_all : e ≤ i → v ≡ min (with_digits base t at (e - at) 0) (number_most + 1)
    unfolding with_digits
    valued_all h =
        let z : e - i ≡ 0 = omega arith in
        let q : v ≡ with_digits base t at (e - at) 0 = ap (λ (k : ℕ). with_digits base t i k v) (sym z) ∙ s.value in
        omega arith

    module _ (w : ℕ) (l : i < e) (q : w ≡ v * base + digit_of (get_or t i 0)) where
      one_more : with_digits base t (i + 1) (e - (i + 1)) w ≡ with_digits base t at (e - at) 0
      unfolding with_digits
      one_more =
          let k : e - i ≡ suc (e - suc i) = omega arith in
          rw (q, add-one i) (ap (λ (n : ℕ). with_digits base t i n v) (sym k) ∙ s.value)

      pub valued_more : w ≤ number_most → Valued base t at e (i + 1) w
      valued_more h = record { from = omega arith; within = omega arith; small = h; value = one_more }

      pub valued_large : 1 ≤ base → number_most < w → number_most + 1 ≡ min (with_digits base t at (e - at) 0)
          (number_most + 1)
      valued_large b h = let r = digits_ge base t (i + 1) (e - (i + 1)) w b in let m = one_more in omega arith

    pub valued_fits : base ≤ 16 → v * base ≤ number_most * 16
    valued_fits b = mul-le-mul s.small b

-- ---- a number's form, by its value and the count of its digits

module _ (v n : ℕ) where
  pub form_many : digits_most < n → F.LargeNumber ≡ number_form v n
  unfolding number_form
  form_many l = rw (lt-leb n digits_most l) (by_test (leb v number_most))
    where
      by_test : (b : Bool) → F.LargeNumber ≡ (when b && false then F.Number v else F.LargeNumber)
      by_test true = refl
      by_test false = refl

  -- w is the value, or one above the most where that is less
  module _ (w : ℕ) (m : w ≡ min v (number_most + 1)) where
    pub form_large : number_most < w → F.LargeNumber ≡ number_form v n
    unfolding number_form
    form_large h = rw (lt-leb v number_most (omega arith))

    pub form_small : n ≤ digits_most → w ≤ number_most → F.Number w ≡ number_form v n
    unfolding number_form
    form_small l h =
        let k : v ≡ w = omega arith in
        rw (k, le-leb w number_most h, le-leb n digits_most l)

-- ---- the digits at a place

pub base_fits : (base : NumberBase) → (1 ≤ base_of base) × (base_of base ≤ 16)
base_fits Octal = omega arith
base_fits Decimal = omega arith
base_fits Hexadecimal = omega arith

module _ (base : NumberBase) (t : List ℕ) (i e : ℕ) (q : e ≡ run_end (C.Digit base) t i) where
  pub digits_after : i ≤ e
  digits_after = rw q (run_ge (C.Digit base) t i)

  pub digits_none : e ≡ i → None ≡ digits_at base t i
  unfolding digits_in
  digits_none h = rw (← q, eq-eqb e i h)

  module _ (n : e ≡ i → ⊥) where
    pub digits_within : e ≤ length t
    digits_within =
        below_or i (length t) (λ l. rw q (run_le (C.Digit base) t i (omega arith)))
        (λ l. absurd (n (q ∙ run_end_lem (C.Digit base) t i l)))

    pub digits_some : formed (number_form (with_digits (base_of base) t i (e - i) 0) (e - i)) e ≡ digits_at base t i
    unfolding digits_in
    digits_some = rw (← q, ne_eqb e i n)

    -- the same by what the digits come to

    digits_are : (f : FieldForm) → f ≡ number_form (with_digits (base_of base) t i (e - i) 0) (e - i)
        → formed f e ≡ digits_at base t i
    digits_are f h = ap (λ (g : FieldForm). formed g e) h ∙ digits_some

    pub digits_many : digits_most < e - i → formed F.LargeNumber e ≡ digits_at base t i
    digits_many l = digits_are F.LargeNumber (form_many (with_digits (base_of base) t i (e - i) 0) (e - i) l)

    -- v is the value, or one above the most where that is less
    module _ (v : ℕ)
        (m : v ≡ min (with_digits (base_of base) t i (e - i) 0) (number_most + 1))
        (l : e - i ≤ digits_most)
      where
        pub digits-large : number_most < v → formed F.LargeNumber e ≡ digits_at base t i
        digits-large h =
            digits_are F.LargeNumber (form_large (with_digits (base_of base) t i (e - i) 0) (e - i) v m h)

        pub digits-small : v ≤ number_most → formed (F.Number v) e ≡ digits_at base t i
        digits-small h =
            digits_are (F.Number v) (form_small (with_digits (base_of base) t i (e - i) 0) (e - i) v m l h)
