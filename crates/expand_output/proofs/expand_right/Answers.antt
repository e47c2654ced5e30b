-- `expand_output::expand_right` meets its contract: a run into as many of the buffer's bytes as the short buffer keeps decides, and a longer output that
-- fits is run once more; before each turn the variables and the bytes that no run was lent are as they came.
-- Assumes nothing.
use mathlib.Core.Path.{refl}
use native.Mathlib.Omega.{arith}
use Rattle.expand_output.proofs.TurnLaws as T
use Rattle.expand_output.proofs.expand_right.Goals as goal

pub loop-refusal-init : goal.loop-refusal-init
loop-refusal-init c = T.trying_start c.keep-end.ensures c.keep-end.auto.short

pub slice_bounds-run-end : goal.slice_bounds-run-end
slice_bounds-run-end c = omega (arith, c.loop-refusal.invariant.inside, c.loop-refusal.invariant.same)

pub returns-in-Err : goal.returns-in-Err
returns-in-Err c =
    T.turn_refused c.loop-refusal.invariant c.run.ensures c.run.auto.out (T.stopped c.in-Err.refusal c.in-Err.is c.refused.ensures) c.copy_from_slice.ensures.after

pub returns-then-out-output : goal.returns-then-out-output
returns-then-out-output c =
    T.turn_refused c.loop-refusal.invariant c.run.ensures c.run.auto.out (T.no_room c.in-Ok.output c.in-Ok.is c.if-out-output.true refl) c.copy_from_slice-then-out-output.ensures.after

pub returns-then-output-end : goal.returns-then-output-end
returns-then-output-end c = T.turn_done c.loop-refusal.invariant c.run.ensures c.run.auto.out c.in-Ok.is c.if-output-end.true

pub loop-refusal-preserved : goal.loop-refusal-preserved
loop-refusal-preserved c = T.turn_again c.loop-refusal.invariant c.run.ensures c.run.auto.out c.in-Ok.is c.if-out-output.false c.if-output-end.false
