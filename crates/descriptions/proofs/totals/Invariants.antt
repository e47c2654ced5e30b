-- `descriptions::totals` meets its contract. The loop's invariant: the totals of the descriptions passed fit.
-- Assumes nothing.
use Rattle.descriptions.proofs.TotalLaws.{FitBefore}
use Rattle.descriptions.proofs.totals.Given as goal

abbrev pub invariant-loop-d : goal.invariant-loop-d
invariant-loop-d l = FitBefore l.heads l.commas l.count l.d
