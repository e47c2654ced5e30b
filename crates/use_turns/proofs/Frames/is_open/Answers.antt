-- `use_turns::Frames::is_open` meets its contract.
-- Assumes nothing.
use mathlib.Core.Path.{◌∙◌}
use native.Mathlib.Omega.{arith}
use Rattle.use_turns.proofs.ReadLaws.{open_any}
use Rattle.use_turns.proofs.Frames.is_open.Goals as goal

pub returns : goal.returns
returns c = c.contains.ensures.value ∙ open_any _ _ _ (omega arith)
