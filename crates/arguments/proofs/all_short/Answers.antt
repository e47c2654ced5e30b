-- `arguments::all_short` meets its contract: each argument is tested.
-- Assumes nothing.
use mathlib.Core.Path.{◌≡◌}
use mathlib.Core.Bool.{true, false}
use borrow.Author.Rules.{rules}
use borrow.Author.Tests.{tests}
use Rattle.std.proofs.lemmas.Iterator.{cases_from_all, YieldsList-from_slice}
use Rattle.expansion.specs.declared.Argument.{Argument}
use Rattle.expansion.specs.Arguments.{is_short}
use Rattle.arguments.proofs.Laws.{all_passes}
use Rattle.arguments.proofs.all_short.Goals as goal

pub returns : goal.returns
returns c =
    all_passes is_short c.args.arguments c.all.result
    (cases_from_all _ _ _ (λ (a : Argument). is_short a.operand ≡ true) (λ (a : Argument). is_short a.operand ≡ false) c.all.ensures.ran
    (YieldsList-from_slice c.args.arguments cc) (λ x q k. search (rules, tests)) (λ x q k. search (rules, tests)))
