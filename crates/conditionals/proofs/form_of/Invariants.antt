-- `conditionals::form_of` meets its contract. The loop's invariant: what is left from here has the form of the string.
-- The measure is what is left of the string. Assumes nothing.
use mathlib.Core.Path.{◌≡◌}
use Prim.Native.Nat.{◌-◌, ◌≤◌}
use lib.ListN.{length}
use Rattle.expansion.specs.Form.{form_of}
use Rattle.conditionals.specs.Walk.{nested_most, form_left}
use Rattle.conditionals.proofs.form_of.Given as goal

abbrev pub invariant-loop-p : goal.invariant-loop-p
invariant-loop-p l = (form_of l.s ≡ form_left l.s l.i l.kept) × (l.kept ≤ nested_most)

abbrev pub decreases-loop-p : goal.decreases-loop-p
decreases-loop-p l = length l.s - l.i
