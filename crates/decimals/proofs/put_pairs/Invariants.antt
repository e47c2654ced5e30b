-- `decimals::put_pairs` meets its contract: each round puts the last pair of what is left before the pairs put so far.
-- Assumes nothing.
use Prim.Native.Nat.{◌-◌}
use Rattle.decimals.proofs.Rounds.{Round}
use Rattle.decimals.proofs.put_pairs.Given as goal

abbrev pub invariant-loop : goal.invariant-loop
invariant-loop l = Round l.n l.end l.rounds l.counter l.at l.left l.initial.out l.out

abbrev pub decreases-loop : goal.decreases-loop
decreases-loop l = l.rounds - l.counter
