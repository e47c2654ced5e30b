-- `positions::position_of` meets its contract. The loop's invariant: line and column are those of the place passed.
-- Assumes nothing.
use Rattle.positions.proofs.Laws.{At}
use Rattle.positions.proofs.position_of.Given as goal

abbrev pub invariant-loop-c : goal.invariant-loop-c
invariant-loop-c l = At l.text l.c-index l.line l.column
