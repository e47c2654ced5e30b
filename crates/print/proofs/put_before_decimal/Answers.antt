-- `print::put_before_decimal` meets its contract: a number without sign and width has nothing before its digits.
-- Assumes nothing.
use mathlib.Core.Path.{sym, ap, ◌∙◌}
use mathlib.Core.List.{List}
use Prim.Native.Nat.{ℕ}
use native.Mathlib.Omega.{arith}
use lib.ListN.{length}
use Rattle.expansion_laws.specs.DigitCount.{digits_ten}
use Rattle.decimals.specs.Decimals.{decimal_digits}
use Rattle.print.specs.Emit.{begun}
use Rattle.print.specs.Numeral.{before}
use Rattle.print.proofs.EmitLaws.{begun_none}
use Rattle.print.proofs.NumeralLaws.{before_none}
use Rattle.print.proofs.put_before_decimal.Goals as goal

pub returns-then-is_plain : goal.returns-then-is_plain
returns-then-is_plain c =
    let k : ℕ = length (decimal_digits c.args.n) in
    let n = before_none c.args.minus c.args.zero c.args.width k (sym c.is_plain.ensures ∙ c.if-is_plain.true) in
    (sym (ap length n), sym (ap (λ (xs : List ℕ). begun c.args.out.now c.args.at xs k) n ∙ begun_none c.args.out.now c.args.at k))

pub put_before-requires : goal.put_before-requires
put_before-requires c =
    (c.requires, omega (arith, c.count.ensures, digits_ten 97 c.args.n c.ranges.n.fits))

pub returns : goal.returns
returns c =
    let e = c.count.ensures in (
      c.put_before.ensures.0 ∙ ap (λ (k : ℕ). length (before c.args.minus c.args.zero c.args.width k)) e,
      c.put_before.ensures.1 ∙ ap (λ (k : ℕ). begun c.args.out.now c.args.at (before c.args.minus c.args.zero c.args.width k) k) e,
    )
