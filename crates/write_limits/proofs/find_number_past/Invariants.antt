-- `judge::find_number_past` meets its contract. The loop's invariant: the scan from the first place is the scan from i on.
-- Assumes nothing.
use mathlib.Core.Path.{◌≡◌}
use Prim.Native.Nat.{◌-◌}
use Rattle.base.specs.Scan.{scan}
use Rattle.entry.specs.Writing.{number_fits_at}
use Rattle.entry.specs.Handed.{numbers_by}
use Rattle.write_limits.proofs.find_number_past.Given as goal

abbrev pub invariant-loop-i : goal.invariant-loop-i
invariant-loop-i l = scan (number_fits_at (numbers_by l.numbers)) 0 l.n ≡ scan (number_fits_at (numbers_by l.numbers)) l.i (l.n - l.i)
