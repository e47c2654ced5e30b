-- `entry_numbers::same_edition` meets its contract.
use mathlib.Core.Path.{refl}
use Rattle.entry_numbers.specs.Entries.{same_edition}
use Rattle.entry_numbers.proofs.same_edition.Goals as goal

pub returns : goal.returns
unfolding same_edition
returns c = refl
