-- `use_walk::walk` meets its contract. The loop's invariant: the walk has come to the frames, and the states of each
-- description that was entered are put, in the caller's arrays.
-- Assumes nothing.
use Rattle.kept_states.specs.States.{held_in, SameArrays}
use Rattle.use_turns.specs.Held.{arrays_of}
use Rattle.use_turns.specs.Weight.{weight_at}
use Rattle.use_walk.proofs.WalkLaws.{Walking}
use Rattle.use_walk.proofs.walk.Given as goal

abbrev pub invariant-loop-d : goal.invariant-loop-d
invariant-loop-d l =
    record {
      lent : SameArrays l.fn.states l.states;
      walking :
          Walking l.edition (arrays_of l.uses) l.wanted (held_in l.fn.states l.text) (held_in l.states l.text)
          l.frames;
    }

abbrev pub decreases-loop-d : goal.decreases-loop-d
decreases-loop-d l = weight_at (arrays_of l.uses) l.frames
