use mathlib.Core.Path.{sym, ◌∙◌}
use Rattle.contents.proofs.UsualLaws.{tells_control, tells_escape, tells_octal}
use Rattle.contents.proofs.usual_escape.Goals as goal

pub returns-then-is_control_at : goal.returns-then-is_control_at
returns-then-is_control_at c = tells_control _ _ (sym c.is_control_at.ensures ∙ c.if-is_control_at.true)

pub returns-then-is_escape : goal.returns-then-is_escape
returns-then-is_escape c = tells_escape _ _ (sym c.is_escape.ensures ∙ c.if-is_escape.true)

pub returns-then-is_octal : goal.returns-then-is_octal
returns-then-is_octal c = tells_octal _ _ (sym c.is_octal.ensures ∙ c.if-is_octal.true)
