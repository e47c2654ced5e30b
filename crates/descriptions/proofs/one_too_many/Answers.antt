-- `descriptions::one_too_many` meets its contract: each arm is a case of the definition.
-- Assumes nothing.
use mathlib.Core.Path.{sym, ap, ◌∙◌}
use Rattle.text.specs.Describing.{one_too_many}
use Rattle.descriptions.proofs.one_too_many.Goals as goal

pub returns-in-Ok : goal.returns-in-Ok
returns-in-Ok c = λ p. ap (one_too_many p) (sym c.header_at.ensures ∙ c.in-Ok.is)

pub returns-in-Err : goal.returns-in-Err
returns-in-Err c = λ p. ap (one_too_many p) (sym c.header_at.ensures ∙ c.in-Err.is)
