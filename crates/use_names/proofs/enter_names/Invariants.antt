-- `use_names::enter_names` meets its contract. The loop's invariant: the names before b are entered.
-- Assumes nothing.
use Rattle.use_names.proofs.HashLaws.{Entering}
use Rattle.use_names.proofs.enter_names.Given as goal

abbrev pub invariant-loop-b : goal.invariant-loop-b
invariant-loop-b l = Entering l.names l.d l.initial.firsts l.firsts l.hash l.b-index
