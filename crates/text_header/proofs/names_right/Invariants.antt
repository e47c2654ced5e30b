use Prim.Native.Nat.{◌-◌}
use lib.ListN.{length}
use Rattle.text_laws.specs.HeadingLaws.{NamesAt}
use Rattle.text_header.proofs.names_right.Given as goal

abbrev pub invariant-loop-at : goal.invariant-loop-at
invariant-loop-at l = NamesAt l.names l.several l.at

abbrev pub decreases-loop-at : goal.decreases-loop-at
decreases-loop-at l = length l.names - l.at
