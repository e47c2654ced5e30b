use mathlib.Core.Path.{sym, ◌∙◌}
use native.Mathlib.Omega.{arith}
use Rattle.text_lines.proofs.UsualLaws.{usual_within, next_usual}
use Rattle.text_lines.proofs.next_at.Goals as goal

pub overflow_add-result : goal.overflow_add-result
overflow_add-result c = omega (arith, usual_within c.args.text.now c.args.at (sym c.is_usual.ensures ∙ c.if-is_usual.true))

pub returns-then-is_usual : goal.returns-then-is_usual
returns-then-is_usual c = sym (next_usual c.args.text.now c.args.at (sym c.is_usual.ensures ∙ c.if-is_usual.true))

pub returns : goal.returns
returns c = c.next_past_blanks.ensures
