-- `list_states::list_booleans` meets its contract. The loop's invariant: the places passed are filled.
use mathlib.Core.Path.{◌≡◌}
use Rattle.base.specs.Tabulate.{tabulate}
use Rattle.base.specs.Overwrite.{put_at}
use Rattle.edition.specs.Edition.{place}
use Rattle.entry.specs.Asking.{asking_boolean}
use Rattle.list_states.specs.Listing.{kind_given}
use Rattle.list_states.proofs.list_booleans.Given as goal

abbrev pub invariant-loop-i : goal.invariant-loop-i
invariant-loop-i l = l.kinds ≡ put_at l.initial.kinds 0 (tabulate (λ j. kind_given (asking_boolean l.edition l.file (place j))) l.i)
