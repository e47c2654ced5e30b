-- `judge::find_not_lent` meets its contract. The loop's invariant: the scan from the first place is the scan from i on.
-- Assumes nothing.
use mathlib.Core.Path.{◌≡◌}
use Prim.Native.Nat.{◌-◌}
use Rattle.base.specs.Scan.{scan}
use Rattle.entry.specs.Writing.{is_lent}
use Rattle.entry.specs.Handed.{strings_by}
use Rattle.write_limits.proofs.find_not_lent.Given as goal

abbrev pub invariant-loop-i : goal.invariant-loop-i
invariant-loop-i l = scan (is_lent (strings_by l.strings l.lent)) 0 l.n ≡ scan (is_lent (strings_by l.strings l.lent)) l.i (l.n - l.i)
