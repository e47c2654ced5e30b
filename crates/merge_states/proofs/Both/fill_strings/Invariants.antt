-- `merge_states::Both::fill_strings` meets its contract. The loop's invariant: the places passed are filled, and the sum is the length of
-- their string table, which is no longer than a file may be.
use mathlib.Core.Path.{◌≡◌}
use Prim.Native.Nat.{◌≤◌}
use lib.ListN.{length}
use Rattle.entry.specs.Limits.{file_most}
use Rattle.merge_states.specs.Filled.{StringsFilled}
use Rattle.merge_states.proofs.Laws.{table_of}
use Rattle.merge_states.proofs.Both.fill_strings.Given as goal

abbrev pub invariant-loop-i : goal.invariant-loop-i
invariant-loop-i l = (length l.kinds ≡ length l.initial.kinds) × (length l.starts ≡ length l.initial.starts) × (length l.lengths ≡ length l.initial.lengths) × StringsFilled l.i l.self.first.now l.self.second.now l.kinds l.starts l.lengths × (l.table ≡ table_of l.self.first.now l.self.second.now l.i) × (l.table ≤ file_most)
