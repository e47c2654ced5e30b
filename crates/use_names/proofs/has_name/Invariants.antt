-- `use_names::has_name` meets its contract. The loop's invariant: the name is one of those left if it is one of all.
-- Assumes nothing.
use mathlib.Core.Path.{◌≡◌}
use Prim.Native.Nat.{◌≤◌}
use lib.ListN.{length}
use Rattle.text.specs.Building.{has_name}
use Rattle.use_names.proofs.NameLaws.{is_left}
use Rattle.use_names.proofs.has_name.Given as goal

abbrev pub invariant-loop-bar : goal.invariant-loop-bar
invariant-loop-bar l = (length l.rest ≤ length l.names) × (is_left l.name l.rest ≡ has_name l.name l.names)

abbrev pub decreases-loop-bar : goal.decreases-loop-bar
decreases-loop-bar l = length l.rest
