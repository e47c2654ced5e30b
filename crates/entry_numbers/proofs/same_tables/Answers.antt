-- `entry_numbers::same_tables` meets its contract.
use mathlib.Core.Path.{refl}
use Rattle.entry_numbers.specs.Entries.{same_tables}
use Rattle.entry_numbers.proofs.same_tables.Goals as goal

pub returns : goal.returns
unfolding same_tables
returns c = refl
