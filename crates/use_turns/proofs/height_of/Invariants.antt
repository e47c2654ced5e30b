-- `use_turns::height_of` meets its contract: the height is that of the uses read, with those that are left.
-- Assumes nothing.
use mathlib.Core.Path.{◌≡◌}
use mathlib.Core.List.{List}
use Prim.Native.Nat.{ℕ, ◌≤◌, ◌-◌}
use Rattle.uses.specs.Heights.{height_of}
use Rattle.use_turns.specs.Frames.{uses_from, heights_of}
use Rattle.use_turns.proofs.ReadLaws.{joined}
use Rattle.use_turns.proofs.height_of.Given as goal

abbrev pub invariant-loop-i : goal.invariant-loop-i
invariant-loop-i l = (l.h ≤ 255)
    × ((places : List ℕ) → height_of (heights_of l.heights) (uses_from places l.targets l.from (l.end - l.from))
    ≡ joined l.h (height_of (heights_of l.heights) (uses_from places l.targets l.i (l.end - l.i))))
