-- `text_items::count` meets its contract. The loop's invariant: the items counted and those left are the string's, and
-- no more are counted than bytes are passed. The measure is what is left of the string. Assumes nothing.
use mathlib.Core.Path.{ap}
use Prim.Native.Nat.{◌-◌}
use native.Mathlib.Omega.{arith}
use Rattle.expansion.specs.declared.Classed.{Classed}
use Rattle.expansion.specs.Counting.{prints_text}
use Rattle.expansion_laws.specs.Forms.{class_on}
use Rattle.expansion_laws.specs.Counts.{count_start, count_end}
use Rattle.text_items.proofs.Laws.{one_most, counted_on}
use Rattle.text_items.proofs.count.Goals as goal

pub loop-i-init : goal.loop-i-init
loop-i-init c = (omega (arith, count_start prints_text c.args.s.now), omega arith)

pub texts_at-n-requires : goal.texts_at-n-requires
texts_at-n-requires c = omega arith

pub overflow_add-n : goal.overflow_add-n
overflow_add-n c = omega (arith, c.texts_at-n.ensures, one_most c.args.s.now c.loop-i.i)

pub class_at-i-requires : goal.class_at-i-requires
class_at-i-requires c = omega arith

pub loop-i-smaller : goal.loop-i-smaller
loop-i-smaller c =
    let e = ap (λ (x : Classed). x.next) c.class_at-i.ensures in
    omega (arith, e, class_on c.args.s.now c.loop-i.i (omega arith))

pub loop-i-preserved : goal.loop-i-preserved
loop-i-preserved c =
    let s = c.args.s.now in
    let i = c.loop-i.i in
    let e = ap (λ (x : Classed). x.next) c.class_at-i.ensures in (
      counted_on s i c.loop-i.n c.texts_at-n.result c.class_at-i.result (omega arith) c.texts_at-n.ensures c.class_at-i.ensures c.loop-i.invariant.0,
      omega (arith, e, class_on s i (omega arith), c.texts_at-n.ensures, one_most s i),
    )

pub returns : goal.returns
returns c = omega (arith, count_end prints_text c.args.s.now c.loop-i.i (omega arith))
