-- `signed::quotient` meets its contract: a zero divisor gives 0.
-- Assumes nothing.
use Rattle.signed.specs.Signed.{divide}
use Rattle.signed.proofs.Laws.{zero_of}
use Rattle.signed.proofs.quotient.Goals as goal

pub returns-then-b-eq0 : goal.returns-then-b-eq0
unfolding divide
returns-then-b-eq0 c = rw (zero_of _ c.ranges.b c.if-b-eq0.true)
