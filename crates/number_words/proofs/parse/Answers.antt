-- `number_words::parse` meets its contract, by the word's first byte.
-- Assumes nothing.
use mathlib.Core.Path.{sym, ap, ◌∙◌}
use mathlib.Core.Bool.{true, false}
use native.Mathlib.Omega.{arith}
use Rattle.number_words.specs.Number.{numeral_in}
use Rattle.number_words.proofs.Laws.{begins, begins_not, numeral_fits, numeral_wrong, word_positive, word_negative}
use Rattle.number_words.proofs.parse.Goals as goal

pub returns-in_ok-numeral-in-Some : goal.returns-in_ok-numeral-in-Some
returns-in_ok-numeral-in-Some c =
    let w = c.args.word.now in
    let s = c.in-Some.ensures.cases in
    c.negative.ensures
    ∙ numeral_fits true _ _ (sym c.in_ok-numeral-in-Some.was ∙ c.numeral.ensures ∙ ap numeral_in s.1)
    ∙ word_negative w (begins 45 w s.0)

pub returns-in_err-numeral-in-Some : goal.returns-in_err-numeral-in-Some
returns-in_err-numeral-in-Some c =
    let w = c.args.word.now in
    let s = c.in-Some.ensures.cases in
    c.from_residual.ensures
    ∙ numeral_wrong true _ (sym c.in_err-numeral-in-Some.was ∙ c.numeral.ensures ∙ ap numeral_in s.1)
    ∙ word_negative w (begins 45 w s.0)

pub returns-in_ok-numeral-in-None : goal.returns-in_ok-numeral-in-None
returns-in_ok-numeral-in-None c =
    let w = c.args.word.now in
    c.positive.ensures
    ∙ numeral_fits false w _ (sym c.in_ok-numeral-in-None.was ∙ c.numeral-in-None.ensures)
    ∙ word_positive w (begins_not 45 w c.in-None.ensures.cases (omega arith))

pub returns-in_err-numeral-in-None : goal.returns-in_err-numeral-in-None
returns-in_err-numeral-in-None c =
    let w = c.args.word.now in
    c.from_residual-in_err-numeral-in-None.ensures
    ∙ numeral_wrong false w (sym c.in_err-numeral-in-None.was ∙ c.numeral-in-None.ensures)
    ∙ word_positive w (begins_not 45 w c.in-None.ensures.cases (omega arith))
