-- The block keeps its length.
use Rattle.std.proofs.Common.{◌≡◌, length}
use Rattle.ti_arguments.proofs.take.Given as goal

abbrev pub invariant-loop-k : goal.invariant-loop-k
invariant-loop-k l = length l.block ≡ length l.initial.block
