-- `put::table_size` meets its contract. The loop's invariant: the sum is that of the strings passed, which is at most that of all.
-- Assumes nothing.
use mathlib.Core.Path.{◌≡◌}
use Rattle.put.specs.Table.{total}
use Rattle.put.proofs.table_size.Given as goal

abbrev pub invariant-loop-i : goal.invariant-loop-i
invariant-loop-i l = (l.sum ≡ total l.kinds l.lengths l.i)
