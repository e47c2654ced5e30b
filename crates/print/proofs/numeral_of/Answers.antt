-- `print::numeral_of` meets its contract, by the base and the sign.
-- Assumes nothing.
use mathlib.Core.Path.{◌≡◌, refl, ap, ◌∙◌}
use Prim.Native.Nat.{ℕ}
use native.Mathlib.Omega.{arith}
use mir.Syntax.{w32}
use mir.Val.{of_z}
use mir.Facts.{to_z-of_z}
use Rattle.expansion.specs.Print.{numeral}
use Rattle.print.proofs.NumeralLaws.{decimal_is, unsigned}
use Rattle.print.proofs.numeral_of.Goals as goal

pub returns-in-Decimal : goal.returns-in-Decimal
returns-in-Decimal c =
    let m = rw (to_z-of_z c.ranges.value) at c.unsigned_abs.ensures.value in
    rw (c.in-Decimal.is, to_z-of_z c.ranges.value) (decimal_is _ _ _ refl m)

pub returns-in-Octal : goal.returns-in-Octal
unfolding numeral
returns-in-Octal c =
    let bits : c.cast_unsigned-bits.result ≡ of_z w32 c.args.value = c.cast_unsigned-bits.ensures ∙ ap (of_z w32) (to_z-of_z c.ranges.value) in
    let q = bits in
    rw c.in-Octal.is (unsigned _ _ 8 97 _ refl refl (omega arith) (omega arith) (omega arith) (λ e. refl) c.ranges.value q)

pub returns-in-SmallHex : goal.returns-in-SmallHex
unfolding numeral
returns-in-SmallHex c =
    let bits : c.cast_unsigned-bits.result ≡ of_z w32 c.args.value = c.cast_unsigned-bits.ensures ∙ ap (of_z w32) (to_z-of_z c.ranges.value) in
    let q = bits in
    rw c.in-SmallHex.is (unsigned _ _ 16 97 _ refl refl (omega arith) (omega arith) (omega arith) (λ e. refl) c.ranges.value q)

pub returns-in-CapitalHex : goal.returns-in-CapitalHex
unfolding numeral
returns-in-CapitalHex c =
    let bits : c.cast_unsigned-bits.result ≡ of_z w32 c.args.value = c.cast_unsigned-bits.ensures ∙ ap (of_z w32) (to_z-of_z c.ranges.value) in
    let q = bits in
    let never : ◌≡◌ {A = ℕ} 16 10 → ◌≡◌ {A = ℕ} 65 97 = λ e. absurd (let z : ⊥ = omega arith in z) in
    rw c.in-CapitalHex.is (unsigned _ _ 16 65 _ refl refl (omega arith) (omega arith) (omega arith) never c.ranges.value q)
