-- `entry_numbers::same_beyond` meets its contract.
use mathlib.Core.Path.{refl}
use Rattle.entry_numbers.specs.Entries.{same_beyond}
use Rattle.entry_numbers.proofs.same_beyond.Goals as goal

pub returns : goal.returns
unfolding same_beyond
returns c = refl
