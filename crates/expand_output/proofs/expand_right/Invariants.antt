-- `expand_output::expand_right` meets its contract: a run into as many of the buffer's bytes as the short buffer keeps decides, and a longer output that
-- fits is run once more; before each turn the variables and the bytes that no run was lent are as they came.
-- Assumes nothing.
use Prim.Native.Nat.{◌-◌}
use lib.ListN.{length}
use Rattle.expansion.specs.Machine.{run}
use Rattle.expansion.specs.Arguments.{values_of}
use Rattle.expand_output.proofs.TurnLaws.{Trying}
use Rattle.expand_output.proofs.expand_right.Given as goal

abbrev pub invariant-loop-refusal : goal.invariant-loop-refusal
invariant-loop-refusal l =
    Trying (run l.s (values_of l.texts l.arguments)) l.initial.lasting l.lasting l.short l.initial.out l.out l.initial.end l.end

abbrev pub decreases-loop-refusal : goal.decreases-loop-refusal
decreases-loop-refusal l = length l.initial.out - l.end
