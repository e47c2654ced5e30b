-- `variables::set_value` meets its contract: nothing is set past a list's end.
-- Assumes nothing.
use mathlib.Core.Path.{sym}
use lib.Seq.{set_out}
use Rattle.variables.proofs.set_value.Goals as goal

pub returns-else-k-values : goal.returns-else-k-values
returns-else-k-values c = sym (set_out c.args.values.now c.args.k c.args.v c.if-k-values.false)
