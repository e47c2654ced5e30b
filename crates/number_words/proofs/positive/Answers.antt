-- `number_words::positive` meets its contract, by its test.
-- Assumes nothing.
use mathlib.Core.Path.{◌∙◌}
use Rattle.signed.proofs.Laws.{again}
use Rattle.number_words.proofs.Laws.{positive_large, positive_fits}
use Rattle.number_words.proofs.positive.Goals as goal

pub returns-then-n-ge-MAGNITUDE_MOST : goal.returns-then-n-ge-MAGNITUDE_MOST
returns-then-n-ge-MAGNITUDE_MOST c = positive_large c.args.n c.if-n-ge-MAGNITUDE_MOST.true

pub returns : goal.returns
returns c = positive_fits c.args.n _ c.if-n-ge-MAGNITUDE_MOST.false (again c.value_of.result c.value_of.type_inv ∙ c.value_of.ensures)
