-- `wanted::is_wanted` meets its contract: by whether a name is wanted.
-- Assumes nothing.
use Rattle.wanted.specs.Wanted.{wants}
use Rattle.wanted.proofs.is_wanted.Goals as goal

pub returns-in-Some : goal.returns-in-Some
unfolding wants
returns-in-Some c = rw c.in-Some.is c.has_name.ensures

pub returns-in-None : goal.returns-in-None
unfolding wants
returns-in-None c = rw c.in-None.is
