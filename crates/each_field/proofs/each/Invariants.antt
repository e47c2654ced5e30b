-- `each_field::each` meets its contract. The loop's invariant: what is kept of the fields passed.
-- Assumes nothing.
use Prim.Native.Nat.{◌-◌, ◌≤◌}
use lib.ListN.{length}
use Rattle.kept_states.specs.States.{SameArrays}
use Rattle.each_field.specs.Keeping.{SameLent}
use Rattle.each_field.proofs.KeepingLaws.{Going}
use Rattle.each_field.proofs.each.Given as goal

abbrev pub invariant-loop-p : goal.invariant-loop-p
invariant-loop-p l =
    record {
      few : l.count ≤ l.i;
      lent : SameLent l.initial.keeping l.keeping;
      arrays : SameArrays l.initial.states l.states;
      going : Going l.edition l.text l.at l.initial.keeping l.initial.states l.uses l.i l.keeping l.states l.count;
    }

abbrev pub decreases-loop-p : goal.decreases-loop-p
decreases-loop-p l =
    length l.text - l.i
