-- `print::put_before` meets its contract, by the test whether the digits fit behind it.
-- Assumes nothing.
use mathlib.Core.Path.{◌≡◌, sym, ap, ◌∙◌}
use Prim.Native.Nat.{ℕ, ◌+◌, ◌-◌}
use native.Mathlib.Omega.{arith}
use lib.ListN.{length}
use Rattle.base.specs.Overwrite.{put_at}
use Rattle.print.specs.Numeral.{minus_sign, before}
use Rattle.print.proofs.EmitLaws.{begun_fits, begun_not}
use Rattle.print.proofs.NumeralLaws.{sign_short, length_before, before_front}
use Rattle.print.proofs.put_before.Goals as goal

pub overflow_add-count : goal.overflow_add-count
overflow_add-count c = let k = sign_short c.args.minus in omega (arith, c.sign_length-sign.ensures, c.requires.1)

pub overflow_add-sign-2 : goal.overflow_add-sign-2
overflow_add-sign-2 c = let k = sign_short c.args.minus in omega (arith, c.sign_length-sign.ensures, c.missing_of-missing.ensures, c.requires.1)

pub overflow_add-at : goal.overflow_add-at
overflow_add-at c = let k = sign_short c.args.minus in omega (arith, c.sign_length-sign.ensures, c.missing_of-missing.ensures, c.requires.0, c.requires.1)

pub returns-then-out-at : goal.returns-then-out-at
returns-then-out-at c =
    let l = length_before c.args.minus c.args.zero c.args.width c.args.count in
    let r : c.sign_length-sign.result + c.missing_of-missing.result ≡ length (before c.args.minus c.args.zero c.args.width c.args.count) =
    omega (arith, l, c.sign_length-sign.ensures, c.missing_of-missing.ensures) in
    (r, sym (begun_not c.args.out.now c.args.at (before c.args.minus c.args.zero c.args.width c.args.count) c.args.count (omega (arith, r, c.if-out-at.true))))

pub returns : goal.returns
returns c =
    let l = length_before c.args.minus c.args.zero c.args.width c.args.count in
    let r : c.sign_length-sign.result + c.missing_of-missing.result ≡ length (before c.args.minus c.args.zero c.args.width c.args.count) =
    omega (arith, l, c.sign_length-sign.ensures, c.missing_of-missing.ensures) in
    let m : c.missing_of-missing.result ≡ c.args.width - (c.args.count + length (minus_sign c.args.minus)) =
    c.missing_of-missing.ensures ∙ ap (λ (k : ℕ). c.args.width - (c.args.count + k)) c.sign_length-sign.ensures in (
      r,
      c.put_front.ensures
          ∙ ap (put_at c.args.out.now c.args.at) (before_front c.args.minus c.args.zero c.args.width c.args.count _ m)
          ∙ sym (begun_fits c.args.out.now c.args.at (before c.args.minus c.args.zero c.args.width c.args.count) c.args.count (omega (arith, r, c.if-out-at.false))),
    )
