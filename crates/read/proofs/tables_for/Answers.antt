-- `read::tables_for` meets its contract.
use mathlib.Core.Path.{refl}
use Rattle.entry.specs.Layout.{tables_of}
use Rattle.read.proofs.tables_for.Goals as goal

pub returns : goal.returns
unfolding tables_of
returns c = refl
