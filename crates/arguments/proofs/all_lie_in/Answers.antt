-- `arguments::all_lie_in` meets its contract: each argument is tested.
-- Assumes nothing.
use mathlib.Core.Path.{◌≡◌}
use mathlib.Core.Bool.{true, false}
use borrow.Author.Rules.{rules}
use borrow.Author.Tests.{tests}
use Rattle.std.proofs.lemmas.Iterator.{cases_from_all, YieldsList-from_slice}
use Rattle.expansion.specs.declared.Argument.{Argument}
use Rattle.expansion.specs.Arguments.{lies_in}
use Rattle.arguments.proofs.Laws.{all_passes}
use Rattle.arguments.proofs.all_lie_in.Goals as goal

pub returns : goal.returns
returns c block e =
    all_passes (lies_in block) c.args.arguments c.all.result
    (cases_from_all _ _ _ (λ (a : Argument). lies_in block a.operand ≡ true) (λ (a : Argument). lies_in block a.operand ≡ false) c.all.ensures.ran
    (YieldsList-from_slice c.args.arguments cc) (λ x q k. search (rules, tests)) (λ x q k. search (rules, tests)))
