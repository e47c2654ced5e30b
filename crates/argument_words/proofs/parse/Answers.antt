-- `argument_words::parse` meets its contract, by its tests in order.
-- Assumes nothing.
use mathlib.Core.Path.{sym, ap, ◌∙◌}
use native.Mathlib.Omega.{arith}
use Rattle.number_words.proofs.Laws.{begins, begins_not}
use Rattle.argument_words.specs.Argument.{number_of}
use Rattle.argument_words.proofs.Laws.{word_equals, word_number, word_text}
use Rattle.argument_words.proofs.parse.Goals as goal

pub returns-in-Some : goal.returns-in-Some
returns-in-Some c =
    let w = c.args.word.now in
    word_equals w (begins 61 w c.in-Some.ensures.cases.0)

pub returns-in-None : goal.returns-in-None
returns-in-None c =
    let w = c.args.word.now in
    let e = sym c.is_decimal.ensures ∙ c.if-is_decimal.true in
    c.number.ensures ∙ ap number_of c.parse.ensures ∙ word_number w (begins_not 61 w c.in-None.ensures.cases (omega arith)) e

pub returns-in-None-2 : goal.returns-in-None-2
returns-in-None-2 c =
    let w = c.args.word.now in
    word_text w (begins_not 61 w c.in-None-2.ensures.cases (omega arith)) (sym c.is_decimal.ensures ∙ c.if-is_decimal.false)
