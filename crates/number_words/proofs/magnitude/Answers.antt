-- `number_words::magnitude` meets its contract: a digit a turn.
-- Assumes nothing.
use mathlib.Core.Path.{sym, ◌∙◌}
use borrow.Author.Rules.{rules}
use native.Mathlib.Omega.{arith}
use Rattle.number_words.proofs.Laws.{magnitude_start, magnitude_none, magnitude_next}
use Rattle.number_words.proofs.magnitude.Goals as goal

pub loop-c-init : goal.loop-c-init
loop-c-init c = (magnitude_start c.args.digits.now, omega arith)

pub returns-in_err-n : goal.returns-in_err-n
returns-in_err-n c =
    c.from_residual.ensures ∙ magnitude_none c.args.digits.now c.loop-c.c-index c.loop-c.n (search rules) c.loop-c.invariant.0 (sym c.in_err-n.was ∙ c.with_digit.ensures.value)

pub loop-c-preserved : goal.loop-c-preserved
loop-c-preserved c =
    (magnitude_next c.args.digits.now c.loop-c.c-index c.loop-c.n c.in_ok-n.n (search rules) c.loop-c.invariant.0 c.in_ok-n.ensures.value, c.in_ok-n.ensures.few)
