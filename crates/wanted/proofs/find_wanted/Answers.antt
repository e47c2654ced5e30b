-- `wanted::find_wanted` meets its contract: by whether a name is wanted.
-- Assumes nothing.
use mathlib.Core.Path.{ap}
use Rattle.text.specs.Building.{wanted_as}
use Rattle.wanted.proofs.find_wanted.Goals as goal

pub returns-in-Some : goal.returns-in-Some
returns-in-Some c = λ e ds l. rw c.in-Some.is (ap wanted_as (c.find.ensures e ds l))
