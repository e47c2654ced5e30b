-- `merge_states::Both::fill_booleans` meets its contract. The loop's invariant: the places passed are filled.
use mathlib.Core.Path.{◌≡◌}
use lib.ListN.{length}
use Rattle.merge_states.specs.Filled.{BooleansFilled}
use Rattle.merge_states.proofs.Both.fill_booleans.Given as goal

abbrev pub invariant-loop-i : goal.invariant-loop-i
invariant-loop-i l = (length l.kinds ≡ length l.initial.kinds) × BooleansFilled l.i l.self.first.now l.self.second.now l.kinds
