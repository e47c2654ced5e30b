-- `expand_output::expand_into` meets its contract: the form decides, and a string whose form is right is expanded.
-- Assumes nothing.
use mathlib.Core.Path.{sym, ◌∙◌}
use Rattle.expansion.specs.Expanding.{formed}
use Rattle.expand_output.proofs.AnswerLaws.{answer_malformed}
use Rattle.expand_output.proofs.expand_into.Goals as goal

pub expand_right-requires : goal.expand_right-requires
expand_right-requires c = (c.requires.0, sym c.form_of.ensures ∙ c.in-Ok.is, c.requires.1)

pub returns-in-Ok : goal.returns-in-Ok
unfolding formed
returns-in-Ok c = rw (sym c.form_of.ensures ∙ c.in-Ok.is) c.expand_right.ensures

pub returns-in-Err : goal.returns-in-Err
returns-in-Err c most j = answer_malformed c.args.s.now _ _ _ (sym c.form_of.ensures ∙ c.in-Err.is)
