-- `print::put_front` meets its contract: two runs in a row are one.
-- Assumes nothing.
use mathlib.Core.Path.{◌≡◌, sym, ap, ◌∙◌}
use mathlib.Core.List.{◌++◌}
use Prim.Native.Nat.{ℕ, ◌+◌}
use native.Mathlib.Omega.{arith}
use lib.ListN.{length, replicate, length-replicate}
use Rattle.base.specs.Overwrite.{put_at}
use Rattle.base.proofs.OverwriteLaws.{put_run}
use Rattle.print.specs.Numeral.{minus_sign, front}
use Rattle.print.proofs.NumeralLaws.{front_none}
use Rattle.print.proofs.put_front.Goals as goal

pub returns-then-missing-eq0 : goal.returns-then-missing-eq0
returns-then-missing-eq0 c =
    let e = front_none c.args.minus c.args.zero in
    rw c.if-missing-eq0.true (c.put_sign.ensures ∙ ap (put_at c.args.out.now c.args.at) (sym e))

pub returns-then-zero : goal.returns-then-zero
unfolding front
returns-then-zero c =
    let more : front c.args.minus c.args.zero c.args.missing ≡ minus_sign c.args.minus ++ replicate c.args.missing 48 = rw c.if-zero.true in
    let p : c.args.at + c.sign_length.result ≡ c.args.at + length (minus_sign c.args.minus) = ap (λ (x : ℕ). c.args.at + x) c.sign_length.ensures in
    c.put_fill.ensures ∙ put_run c.args.out.now _ c.args.at _ _ _ _ c.put_sign-then-zero.ensures p more
    (rw (length-replicate {A = ℕ} c.args.missing 48) (omega (arith, p, c.requires)))

pub returns : goal.returns
unfolding front
returns c =
    let more : front c.args.minus c.args.zero c.args.missing ≡ replicate c.args.missing 32 ++ minus_sign c.args.minus = rw c.if-zero.false in
    let p : c.args.at + c.args.missing ≡ c.args.at + length {A = ℕ} (replicate c.args.missing 32) = rw (length-replicate {A = ℕ} c.args.missing 32) in
    c.put_sign-2.ensures ∙ put_run c.args.out.now _ c.args.at _ _ _ _ c.put_fill-2.ensures p more (omega (arith, c.requires))
