-- `put::put_table` meets its contract. The loop's invariant: the strings passed are put, and the next place is behind their total.
-- Assumes nothing.
use mathlib.Core.Path.{◌≡◌}
use mathlib.Core.List.{◌++◌}
use Prim.Native.Nat.{◌+◌}
use lib.ListN.{length}
use Rattle.base.specs.Overwrite.{put_at}
use Rattle.entry.specs.Writing.{string_table}
use Rattle.put.specs.Table.{strings_of, total}
use Rattle.put.proofs.put_table.Given as goal

abbrev pub invariant-loop-i : goal.invariant-loop-i
invariant-loop-i l = (length l.b ≡ length l.initial.b) × (l.p ≡ l.at + total l.strings.kinds.now l.strings.lengths.now l.i) × (l.b ≡ put_at l.initial.b l.at (string_table (strings_of l.strings.kinds.now l.strings.starts.now l.strings.lengths.now (l.first ++ l.second) l.i)))
