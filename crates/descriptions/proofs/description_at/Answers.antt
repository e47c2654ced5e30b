-- `descriptions::description_at` meets its contract.
-- Assumes nothing.
use mathlib.Core.Path.{sym, ◌∙◌}
use native.Mathlib.Omega.{arith}
use Rattle.text_laws.specs.HeadingLaws.{header_right}
use Rattle.descriptions.proofs.ReadLaws.{refused_header}
use Rattle.descriptions.proofs.description_at.Goals as goal

pub overflow_add-comma : goal.overflow_add-comma
overflow_add-comma c = let h = (header_right _ _ _ (sym c.header_at.ensures ∙ c.in-Ok.is)).within in omega arith

pub check-requires : goal.check-requires
check-requires c =
    let h = header_right _ _ _ (sym c.header_at.ensures ∙ c.in-Ok.is) in
    let h₁ = h.place in
    let h₂ = h.within in
    omega arith

pub returns-in-Err : goal.returns-in-Err
returns-in-Err c = λ later. refused_header _ _ _ _ later _ (sym c.header_at.ensures ∙ c.in-Err.is)
