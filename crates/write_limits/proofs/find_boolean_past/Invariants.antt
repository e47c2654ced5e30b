-- `judge::find_boolean_past` meets its contract. The loop's invariant: the scan from the first place is the scan from i on.
-- Assumes nothing.
use mathlib.Core.Path.{◌≡◌}
use mathlib.Core.Bool.{Bool}
use mathlib.Core.List.{List}
use Prim.Native.Nat.{ℕ, ◌-◌}
use Rattle.base.specs.Scan.{scan}
use Rattle.entry.specs.Writing.{boolean_fits_at}
use Rattle.entry.specs.Handed.{booleans_handed}
use Rattle.write_limits.proofs.find_boolean_past.Given as goal

abbrev okAt : List ℕ → ℕ → Bool
okAt kinds = boolean_fits_at (booleans_handed kinds)

abbrev pub invariant-loop-i : goal.invariant-loop-i
invariant-loop-i l = scan (okAt l.kinds) 0 l.n ≡ scan (okAt l.kinds) l.i (l.n - l.i)
