-- `use_walk::put_own` meets its contract.
-- Assumes nothing.
use Rattle.use_walk.proofs.WalkLaws.{put_own_lem}
use Rattle.use_walk.proofs.put_own.Goals as goal

pub returns-clause-put : goal.returns-clause-put
returns-clause-put c = put_own_lem _ _ _ _ _ _ c.requires.1.0 c.walk.ensures.walked
