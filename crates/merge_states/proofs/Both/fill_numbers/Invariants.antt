-- `merge_states::Both::fill_numbers` meets its contract. The loop's invariant: the places passed are filled.
use mathlib.Core.Path.{◌≡◌}
use lib.ListN.{length}
use Rattle.merge_states.specs.Filled.{NumbersFilled}
use Rattle.merge_states.proofs.Both.fill_numbers.Given as goal

abbrev pub invariant-loop-i : goal.invariant-loop-i
invariant-loop-i l = (length l.kinds ≡ length l.initial.kinds) × (length l.values ≡ length l.initial.values) × NumbersFilled l.i l.self.first.now l.self.second.now l.kinds l.values
