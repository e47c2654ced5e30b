-- `item_parts::braced_at` meets its contract. The loop's invariant: the digits from here on, behind the value so far, are the constant.
-- Assumes nothing.
use mathlib.Core.Path.{◌≡◌}
use mathlib.Core.Bool.{true}
use Prim.Native.Nat.{◌+◌, ◌≤◌}
use Rattle.expansion.specs.Limits.{constant_most}
use Rattle.expansion.specs.Items.{byte_at, is_digit, braced_at}
use Rattle.item_parts.proofs.Cases.{braced_from}
use Rattle.item_parts.proofs.braced_at.Given as goal

abbrev pub invariant-loop-i : goal.invariant-loop-i
invariant-loop-i l = (l.v ≤ constant_most) × (is_digit (byte_at l.s (l.j + 1)) ≡ true) × (braced_at l.s l.j ≡ braced_from l.s l.j l.i l.v)
