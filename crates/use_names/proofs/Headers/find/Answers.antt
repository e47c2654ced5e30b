-- `use_names::Headers::find` meets its contract.
-- Assumes nothing.
use native.Mathlib.Omega.{arith}
use Rattle.use_names.proofs.HavingLaws.{found_having}
use Rattle.use_names.proofs.Headers.find.Goals as goal

pub returns : goal.returns
returns c =
    λ e ds l. found_having e _ _ _ _ ds l _ 0 (λ d m k. absurd (let z : ⊥ = omega arith in z)) _ c.find_from.ensures
