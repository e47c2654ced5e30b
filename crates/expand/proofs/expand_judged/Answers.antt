-- `expand::expand_judged` meets its contract: the part that is lent is the buffer from the place on.
-- Assumes nothing.
use borrow.Author.Rules.{rules}
use Rattle.expansion.specs.Form.{form_of}
use Rattle.expansion.specs.Machine.{run}
use Rattle.expansion.specs.Arguments.{values_of}
use Rattle.expand_output.proofs.AnswerLaws.{answer_part}
use Rattle.expand.proofs.expand_judged.Goals as goal

pub returns : goal.returns
returns c most j =
    answer_part (form_of c.args.string.now) (run c.args.string.now (values_of c.args.texts.now c.args.arguments) c.args.lasting.now) c.args.out.now c.args.at c.requires.0 (c.expand_into.ensures most j)
