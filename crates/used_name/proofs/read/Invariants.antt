-- `used_name::read` meets its contract.
-- Assumes nothing.
use mathlib.Core.Path.{◌≡◌}
use Prim.Native.Nat.{◌-◌, ◌≤◌}
use lib.ListN.{length}
use Rattle.text.specs.Heading.{alias_most}
use Rattle.used_name.proofs.NameLaws.{ReadTo}
use Rattle.used_name.proofs.read.Given as goal

abbrev pub invariant-loop-i : goal.invariant-loop-i
invariant-loop-i l = ReadTo l.text l.start l.i l.name l.n × (length l.name ≡ length l.initial.name) × (l.n ≤ alias_most)

abbrev pub decreases-loop-i : goal.decreases-loop-i
decreases-loop-i l = length l.text - l.i
