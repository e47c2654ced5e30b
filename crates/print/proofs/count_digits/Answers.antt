-- `print::count_digits` meets its contract: limit is the radix to the count, so the number has no fewer digits, and at the end no more.
-- Assumes nothing.
use mathlib.Core.Path.{◌≡◌, sym, ap, ◌∙◌}
use Prim.Native.Nat.{ℕ, suc, ◌-◌, ◌*◌, ◌^◌, ◌≤◌, ◌<◌}
use native.Mathlib.Nat.{pow-suc}
use native.Mathlib.Numerals.{add-one}
use native.Mathlib.Omega.{arith}
use lib.ListN.{length}
use Rattle.expansion.specs.Print.{digits}
use Rattle.expansion_laws.specs.DigitCount.{power_one, digits_some, digits_above, digits_below, digits_word}
use Rattle.print.proofs.NumeralLaws.{product_below}
use Rattle.print.proofs.count_digits.Goals as goal

pub loop-limit-init : goal.loop-limit-init
loop-limit-init c = (
  sym (power_one c.args.radix),
  omega arith,
  omega arith,
  λ a. digits_some c.args.radix a c.args.n c.requires.0,
)

pub overflow_mul-limit : goal.overflow_mul-limit
overflow_mul-limit c = record { fits = product_below 32 (omega arith) (omega arith) }

pub overflow_add-count : goal.overflow_add-count
overflow_add-count c =
    let more : (a : ℕ) → c.loop-limit.count < length (digits c.args.radix a c.args.n) = λ a. (digits_above c.loop-limit.count c.args.radix a c.args.n c.requires.0 (rw c.loop-limit.invariant.0 at c.loop-limit-test.true)) in
    let few : length (digits c.args.radix 97 c.args.n) ≤ 32 = digits_word c.args.radix 97 c.args.n c.requires.0 (omega arith) in
    omega (arith, more 97, few)

pub loop-limit-smaller : goal.loop-limit-smaller
loop-limit-smaller c =
    let more : (a : ℕ) → c.loop-limit.count < length (digits c.args.radix a c.args.n) = λ a. (digits_above c.loop-limit.count c.args.radix a c.args.n c.requires.0 (rw c.loop-limit.invariant.0 at c.loop-limit-test.true)) in
    let few : length (digits c.args.radix 97 c.args.n) ≤ 32 = digits_word c.args.radix 97 c.args.n c.requires.0 (omega arith) in
    omega (arith, more 97, few)

pub loop-limit-preserved : goal.loop-limit-preserved
loop-limit-preserved c =
    let more : (a : ℕ) → c.loop-limit.count < length (digits c.args.radix a c.args.n) = λ a. (digits_above c.loop-limit.count c.args.radix a c.args.n c.requires.0 (rw c.loop-limit.invariant.0 at c.loop-limit-test.true)) in
    let few : length (digits c.args.radix 97 c.args.n) ≤ 32 = digits_word c.args.radix 97 c.args.n c.requires.0 (omega arith) in
    let r = c.args.radix in (
      ap (λ (x : ℕ). x * r) c.loop-limit.invariant.0 ∙ sym (pow-suc r c.loop-limit.count) ∙ ap (λ (k : ℕ). r ^ k) (sym (add-one c.loop-limit.count)),
      omega arith,
      omega (arith, more 97, few),
      λ a. omega (arith, more a),
    )

pub returns : goal.returns
returns c a =
    let p : suc (c.loop-limit.count - 1) ≡ c.loop-limit.count = omega arith in
    let u = digits_below (c.loop-limit.count - 1) c.args.radix c.args.radix a c.args.n c.requires.0 (omega arith) (rw (p, ← c.loop-limit.invariant.0) c.loop-limit-test.false) in
    omega (arith, u, c.loop-limit.invariant.3 a)
