use mathlib.Core.Path.{ap, ◌∙◌}
use mathlib.Core.Bool.{not}
use Rattle.text_laws.specs.Runs.{run_goes, run_stops, run_past}
use Rattle.text_bytes.proofs.class_end.Goals as goal

pub returns-then-not-is_in : goal.returns-then-not-is_in
returns-then-not-is_in c =
    run_stops c.args.class c.args.text.now _ _ c.loop-i.invariant _ c.is_in.ensures c.loop-i-test.true
    (ap not c.if-not-is_in.true)

pub loop-i-preserved : goal.loop-i-preserved
loop-i-preserved c =
    run_goes c.args.class c.args.text.now _ _ c.loop-i.invariant _ c.is_in.ensures c.loop-i-test.true
    (ap not c.if-not-is_in.false)

pub returns : goal.returns
returns c =
    c.max.ensures
    ∙ run_past c.args.class c.args.text.now _ _ c.loop-i.invariant c.loop-i-test.false c.loop-i.auto.i
    c.loop-i.auto.i-end
