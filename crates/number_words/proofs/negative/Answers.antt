-- `number_words::negative` meets its contract, by its tests in order.
-- Assumes nothing.
use mathlib.Core.Path.{◌∙◌}
use Rattle.signed.proofs.Laws.{again}
use Rattle.number_words.proofs.Laws.{negative_large, negative_none, negative_fits}
use Rattle.number_words.proofs.negative.Goals as goal

pub returns-then-n-gt-MAGNITUDE_MOST : goal.returns-then-n-gt-MAGNITUDE_MOST
returns-then-n-gt-MAGNITUDE_MOST c = negative_large c.args.n c.if-n-gt-MAGNITUDE_MOST.true

pub returns-then-n-eq0 : goal.returns-then-n-eq0
returns-then-n-eq0 c = negative_none c.args.n c.if-n-eq0.true

pub returns : goal.returns
returns c = negative_fits c.args.n _ c.if-n-eq0.false c.if-n-gt-MAGNITUDE_MOST.false (again c.value_of.result c.value_of.type_inv ∙ c.value_of.ensures)
