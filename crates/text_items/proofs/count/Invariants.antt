-- `text_items::count` meets its contract. The loop's invariant: the items counted and those left are the string's, and
-- no more are counted than bytes are passed. The measure is what is left of the string. Assumes nothing.
use mathlib.Core.Path.{◌≡◌}
use Prim.Native.Nat.{◌+◌, ◌-◌, ◌≤◌}
use lib.ListN.{length}
use Rattle.expansion.specs.Counting.{count_of, prints_text}
use Rattle.expansion_laws.specs.Counts.{count_of_rest}
use Rattle.text_items.proofs.count.Given as goal

abbrev pub invariant-loop-i : goal.invariant-loop-i
invariant-loop-i l = (count_of prints_text l.s ≡ l.n + count_of_rest prints_text l.s l.i) × (l.n ≤ l.i)

abbrev pub decreases-loop-i : goal.decreases-loop-i
decreases-loop-i l = length l.s - l.i
