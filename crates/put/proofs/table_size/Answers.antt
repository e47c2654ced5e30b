-- `put::table_size` meets its contract. The loop's invariant: the sum is that of the strings passed, which is at most that of all.
-- Assumes nothing.
use mathlib.Core.Path.{◌≡◌, refl, ap, ◌∙◌}
use native.Mathlib.Omega.{arith}
use Rattle.put.specs.Table.{total}
use Rattle.put.proofs.TableLaws.{total_more, total_below}
use Rattle.put.proofs.table_size.Goals as goal

pub loop-i-init : goal.loop-i-init
unfolding total
loop-i-init c = refl

pub bytes_in_table-sum-requires : goal.bytes_in_table-sum-requires
bytes_in_table-sum-requires c =
    let h = total_below c.args.kinds.now c.args.lengths.now c.loop-i.i c.args.n c.loop-i-test.true in
    omega (arith, c.requires)

pub overflow_add-sum : goal.overflow_add-sum
overflow_add-sum c =
    let h = total_below c.args.kinds.now c.args.lengths.now c.loop-i.i c.args.n c.loop-i-test.true in
    let q = c.bytes_in_table-sum.ensures in
    omega (arith, c.requires)

pub loop-i-preserved : goal.loop-i-preserved
loop-i-preserved c =
    let q = c.bytes_in_table-sum.ensures in
    let m = total_more c.args.kinds.now c.args.lengths.now c.loop-i.i in
    omega arith

pub returns : goal.returns
returns c =
    let e : c.loop-i.i ≡ c.args.n = let h = c.loop-i.auto.i-end in let g = c.loop-i-test.false in omega arith in
    c.loop-i.invariant ∙ ap (total c.args.kinds.now c.args.lengths.now) e
