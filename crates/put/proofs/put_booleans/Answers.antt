-- `put::put_booleans` meets its contract. The loop's invariant: the booleans passed are put.
-- Assumes nothing.
use mathlib.Core.Path.{◌≡◌, refl, sym, ap, ◌∙◌}
use mathlib.Core.List.{map}
use Prim.Native.Nat.{ℕ}
use native.Mathlib.Omega.{arith}
use lib.ListN.{get_or, length-set}
use Rattle.base.specs.Tabulate.{tabulate}
use Rattle.base.specs.Overwrite.{put_at}
use Rattle.base.proofs.OverwriteLaws.{put_nil}
use Rattle.entry.specs.State.{boolean_code}
use Rattle.entry.specs.Writing.{state_of}
use Rattle.put.specs.Table.{booleans_of}
use Rattle.put.proofs.TableLaws.{byte_turn}
use Rattle.put.proofs.put_booleans.Goals as goal

pub loop-i-init : goal.loop-i-init
unfolding tabulate
loop-i-init c = (refl, sym (put_nil _ _))

pub loop-i-preserved : goal.loop-i-preserved
loop-i-preserved c =
    (simp length-set c.loop-i.invariant.0, byte_turn boolean_code (λ (j : ℕ). state_of (get_or c.args.kinds.now j 0) tt) c.args.b.now c.loop-i.b c.args.at c.loop-i.i c.args.n c.boolean_code.result c.requires.0 c.loop-i-test.true c.loop-i.invariant.1 c.boolean_code.ensures)

pub shape_of-b : goal.shape_of-b
shape_of-b c = c.loop-i.invariant.0

pub returns : goal.returns
returns c =
    let e : c.loop-i.i ≡ c.args.n = let h = c.loop-i.auto.i-end in let g = c.loop-i-test.false in omega arith in
    c.loop-i.invariant.1 ∙ ap (λ (k : ℕ). put_at c.args.b.now c.args.at (map boolean_code (booleans_of c.args.kinds.now k))) e
