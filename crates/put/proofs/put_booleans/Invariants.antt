-- `put::put_booleans` meets its contract. The loop's invariant: the booleans passed are put.
-- Assumes nothing.
use mathlib.Core.Path.{◌≡◌}
use mathlib.Core.List.{map}
use lib.ListN.{length}
use Rattle.base.specs.Overwrite.{put_at}
use Rattle.entry.specs.State.{boolean_code}
use Rattle.put.specs.Table.{booleans_of}
use Rattle.put.proofs.put_booleans.Given as goal

abbrev pub invariant-loop-i : goal.invariant-loop-i
invariant-loop-i l = (length l.b ≡ length l.initial.b) × (l.b ≡ put_at l.initial.b l.at (map boolean_code (booleans_of l.kinds l.i)))
