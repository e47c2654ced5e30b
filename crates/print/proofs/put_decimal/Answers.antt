-- `print::put_decimal` meets its contract, by the test whether the digits fit.
-- Assumes nothing.
use mathlib.Core.Path.{◌≡◌, sym, ap, ◌∙◌}
use Prim.Native.Nat.{ℕ, ◌+◌, ◌-◌}
use native.Mathlib.Omega.{arith}
use lib.ListN.{length}
use Rattle.base.specs.Overwrite.{put_at}
use Rattle.expansion_laws.specs.DigitCount.{digits_ten}
use Rattle.decimals.specs.Decimals.{decimal_digits}
use Rattle.decimals.proofs.Laws.{one_digit}
use Rattle.print.specs.Emit.{emitted}
use Rattle.print.proofs.EmitLaws.{emitted_fits, emitted_not}
use Rattle.print.proofs.put_decimal.Goals as goal

pub returns-then-n-lt10 : goal.returns-then-n-lt10
returns-then-n-lt10 c =
    let d = one_digit c.args.n c.if-n-lt10.true in
    (sym (ap length d), c.put_byte.ensures ∙ ap (emitted c.args.out.now c.args.at) (sym d))

pub overflow_add-at : goal.overflow_add-at
overflow_add-at c =
    omega (arith, c.count-count.ensures, digits_ten 97 c.args.n c.ranges.n.fits)

pub returns-then-out-at : goal.returns-then-out-at
returns-then-out-at c =
    let e = c.count-count.ensures in
    (e, sym (emitted_not c.args.out.now c.args.at (decimal_digits c.args.n) (omega arith)))

pub returns : goal.returns
returns c =
    let k = c.count-count.result in
    let e = c.count-count.ensures in
    let p : c.args.at + k - k ≡ c.args.at = omega arith in
    let f = emitted_fits c.args.out.now c.args.at (decimal_digits c.args.n) (omega (arith, c.if-out-at.false)) in
    (e, c.put.ensures ∙ ap (λ (q : ℕ). put_at c.args.out.now q (decimal_digits c.args.n)) p ∙ sym f)
