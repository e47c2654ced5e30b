-- `use_names::Headers::find_used` meets its contract.
-- Assumes nothing.
use mathlib.Core.Path.{sym, ap, ◌∙◌}
use mathlib.Core.List.{List}
use Prim.Native.Nat.{ℕ}
use native.Mathlib.Omega.{arith}
use Rattle.std.proofs.lemmas.Grind.{common_steps}
use Rattle.text.specs.Building.{having}
use Rattle.use_names.specs.Having.{says_named}
use Rattle.use_names.proofs.HavingLaws.{nobody_has}
use Rattle.use_names.proofs.UseLaws.{reads_name, reads_long}
use Rattle.use_names.proofs.Headers.find_used.Goals as goal

pub returns-in_err-n-clause-named : goal.returns-in_err-n-clause-named
returns-in_err-n-clause-named c =
    λ f e ds l. ap says_named c.from_residual.ensures
    ∙ sym (nobody_has e _ _ _ _ ds l _ (reads_long _ _ _ _ c.read.ensures c.in_err-n.was))

pub returns-clause-named : goal.returns-clause-named
returns-clause-named c =
    λ f e ds l. ap says_named (grind (arith, common_steps)) ∙ c.find_entered.ensures.named f e ds l
    ∙ ap (λ (s : List ℕ). having s ds) (reads_name _ _ _ _ c.read.ensures _ c.in_ok-n.was).1
