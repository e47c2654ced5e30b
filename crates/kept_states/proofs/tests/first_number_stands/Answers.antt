-- `kept_states::tests::first_number_stands`: the states that are all absent hold what the writer asks for.
-- Assumes nothing.
use mathlib.Core.Path.{refl, sym, subst}
use mathlib.Core.List.{[]}
use native.Mathlib.Omega.{arith}
use Rattle.edition.specs.Edition.{ok_edition}
use Rattle.compile_laws.specs.Held.{Holds}
use Rattle.compile_laws.proofs.ClearedLaws.{cleared_holds}
use Rattle.kept_states.specs.declared.States.{States}
use Rattle.kept_states.specs.States.{held}
use Rattle.kept_states.proofs.tests.first_number_stands.Goals as goal

pub keep-requires : goal.keep-requires
unfolding ok_edition
keep-requires g c = (
  omega arith,
  subst (λ (s : States). Holds _ (held s [] [])) (sym c.new-states.ensures) (cleared_holds _ [] refl),
)
