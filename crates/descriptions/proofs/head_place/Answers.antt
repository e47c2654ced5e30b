-- `descriptions::head_place` meets its contract.
-- Assumes nothing.
use Rattle.descriptions.proofs.ReadLaws.{head_first, head_later}
use Rattle.descriptions.proofs.head_place.Goals as goal

pub returns-then-d-eq0 : goal.returns-then-d-eq0
returns-then-d-eq0 c = head_first _ _ c.if-d-eq0.true

pub returns : goal.returns
returns c = head_later _ _ c.if-d-eq0.false
