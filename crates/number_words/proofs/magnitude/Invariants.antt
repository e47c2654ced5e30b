-- `number_words::magnitude` meets its contract: a digit a turn.
-- Assumes nothing.
use Prim.Native.Nat.{◌≤◌}
use Rattle.number_words.proofs.Laws.{Magnitude}
use Rattle.number_words.proofs.magnitude.Given as goal

abbrev pub invariant-loop-c : goal.invariant-loop-c
invariant-loop-c l = Magnitude l.digits l.c-index l.n × (l.n ≤ 2147483649)
