-- `list_states::list_numbers` meets its contract. The loop's invariant: the places passed are filled.
use mathlib.Core.Path.{◌≡◌}
use Rattle.base.specs.Tabulate.{tabulate}
use Rattle.base.specs.Overwrite.{put_at}
use Rattle.edition.specs.Edition.{place}
use Rattle.entry.specs.Asking.{asking_number}
use Rattle.list_states.specs.Listing.{kind_given, value_given}
use Rattle.list_states.proofs.list_numbers.Given as goal

abbrev pub invariant-loop-i : goal.invariant-loop-i
invariant-loop-i l =
    record {
      kinds : l.kinds ≡ put_at l.initial.kinds 0 (tabulate (λ j. kind_given (asking_number l.edition l.file (place j))) l.i);
      values : l.values ≡ put_at l.initial.values 0 (tabulate (λ j. value_given (asking_number l.edition l.file (place j))) l.i);
    }
