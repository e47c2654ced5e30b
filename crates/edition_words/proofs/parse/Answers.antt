-- `edition_words::parse` meets its contract: a word of two parts.
-- Assumes nothing.
use mathlib.Core.Path.{◌∙◌}
use Rattle.edition_words.proofs.Laws.{word_two}
use Rattle.edition_words.proofs.parse.Goals as goal

pub returns-in_err-numbers : goal.returns-in_err-numbers
returns-in_err-numbers c =
    let b = c.in_ok-booleans in
    c.from_residual-in_err-numbers.ensures
    ∙ word_two c.args.word.now c.if-word-eq1.false b.booleans.now b.rest.now b.ensures c.in_err-numbers.ensures
