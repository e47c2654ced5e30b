-- `descriptions::list` meets its contract.
-- Assumes nothing.
use mathlib.Core.Path.{refl}
use Rattle.descriptions.proofs.list.Goals as goal

pub returns : goal.returns
returns c = (refl, (refl, refl))
