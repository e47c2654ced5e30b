-- `list_states::list_strings` meets its contract. The loop's invariant: the places passed are filled.
use mathlib.Core.Path.{◌≡◌}
use Rattle.base.specs.Tabulate.{tabulate}
use Rattle.base.specs.Overwrite.{put_at}
use Rattle.edition.specs.Edition.{place}
use Rattle.entry.specs.Asking.{asking_string, part_given}
use Rattle.list_states.specs.Listing.{kind_given}
use Rattle.list_states.proofs.list_strings.Given as goal

abbrev pub invariant-loop-i : goal.invariant-loop-i
invariant-loop-i l =
    record {
      kinds : l.kinds ≡ put_at l.initial.kinds 0 (tabulate (λ j. kind_given (asking_string l.edition l.file (place j))) l.i);
      starts : l.starts ≡ put_at l.initial.starts 0 (tabulate (λ j. (part_given (asking_string l.edition l.file (place j))).start) l.i);
      lengths : l.lengths ≡ put_at l.initial.lengths 0 (tabulate (λ j. (part_given (asking_string l.edition l.file (place j))).length) l.i);
    }
