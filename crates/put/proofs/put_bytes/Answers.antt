-- `put::put_bytes` meets its contract. The loop's invariant: the bytes passed are put.
-- Assumes nothing.
use mathlib.Core.Path.{◌≡◌, refl, sym, ap, ◌∙◌}
use Prim.Native.Nat.{ℕ}
use native.Mathlib.Omega.{arith}
use lib.ListN.{length, take, length-set}
use lib.Seq.{take-length}
use Rattle.base.specs.Overwrite.{put_at}
use Rattle.base.proofs.OverwriteLaws.{put_nil, put_copy}
use Rattle.put.proofs.put_bytes.Goals as goal

pub loop-i-init : goal.loop-i-init
loop-i-init c = (refl, sym (put_nil _ _))

pub loop-i-preserved : goal.loop-i-preserved
loop-i-preserved c =
    (simp length-set c.loop-i.invariant.0, put_copy c.args.b.now c.loop-i.b c.args.at c.loop-i.i c.args.s.now 0 c.requires c.loop-i-test.true c.loop-i.invariant.1)

pub shape_of-b : goal.shape_of-b
shape_of-b c = c.loop-i.invariant.0

pub returns : goal.returns
returns c =
    let e : c.loop-i.i ≡ length c.args.s.now = let h = c.loop-i.auto.i-end in let g = c.loop-i-test.false in omega arith in
    c.loop-i.invariant.1 ∙ ap (λ (k : ℕ). put_at c.args.b.now c.args.at (take k c.args.s.now)) e ∙ ap (put_at c.args.b.now c.args.at) (take-length c.args.s.now)
