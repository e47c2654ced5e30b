-- `argument_words::is_decimal` meets its contract, by the word's first byte.
-- Assumes nothing.
use mathlib.Core.Path.{ap, ◌∙◌}
use native.Mathlib.Omega.{arith}
use Rattle.number_words.specs.Number.{is_numeral}
use Rattle.number_words.proofs.Laws.{begins, begins_not}
use Rattle.argument_words.proofs.Laws.{decimal_plain, decimal_minus}
use Rattle.argument_words.proofs.is_decimal.Goals as goal

pub returns-in-Some : goal.returns-in-Some
returns-in-Some c =
    let w = c.args.word.now in
    let s = c.in-Some.ensures.cases in
    c.is_numeral.ensures ∙ ap is_numeral s.1 ∙ decimal_minus w (begins 45 w s.0)

pub returns-in-None : goal.returns-in-None
returns-in-None c =
    let w = c.args.word.now in
    c.is_numeral-in-None.ensures ∙ decimal_plain w (begins_not 45 w c.in-None.ensures.cases (omega arith))
