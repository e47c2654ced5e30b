-- `variables::value_at` meets its contract: a list reads as its default past its end.
-- Assumes nothing.
use mathlib.Core.Path.{sym}
use lib.IntN.{pos}
use lib.ListN.{get_or-eq_default}
use Rattle.variables.proofs.value_at.Goals as goal

pub returns-else-k-values : goal.returns-else-k-values
returns-else-k-values c = sym (get_or-eq_default c.args.values.now (pos 0) c.if-k-values.false)
