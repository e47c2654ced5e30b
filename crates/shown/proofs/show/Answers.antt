-- `shown::show` meets its contract. The loop's invariant: the bytes passed are put as they are shown.
-- Assumes nothing.
use mathlib.Core.Path.{refl, ◌∙◌}
use native.Mathlib.Omega.{arith}
use Rattle.shown.proofs.Laws.{shows_start, shows_next, shows_end}
use Rattle.shown.proofs.show.Goals as goal

pub loop-c-init : goal.loop-c-init
loop-c-init c = (refl, shows_start c.args.least c.args.bytes.now c.args.out.now c.args.at)

pub put_shown-end-requires : goal.put_shown-end-requires
put_shown-end-requires c =
    let h = c.requires in
    let l = c.loop-c-test.true in
    let e = c.loop-c.invariant.0 in
    let m = c.loop-c.invariant.1.few in
    omega arith

pub loop-c-preserved : goal.loop-c-preserved
loop-c-preserved c =
    (c.put_shown-end.auto.out ∙ c.loop-c.invariant.0, shows_next c.args.least c.args.bytes.now c.args.out.now c.loop-c.out c.put_shown-end.new.out c.args.at c.loop-c.c-index c.loop-c.end c.put_shown-end.result c.requires c.loop-c-test.true c.loop-c.invariant.1 c.put_shown-end.ensures)

pub shape_of-out : goal.shape_of-out
shape_of-out c = c.loop-c.invariant.0

pub returns : goal.returns
returns c =
    shows_end c.args.least c.args.bytes.now c.args.out.now c.loop-c.out c.args.at c.loop-c.c-index c.loop-c.end (omega arith) c.loop-c.invariant.1
