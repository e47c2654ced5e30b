-- `use_turns::Frames::advance` meets its contract: from the first frames the walk goes on from those of each turn.
-- Assumes nothing.
use Rattle.use_turns.specs.Frames.{use_arrays}
use Rattle.use_turns.specs.Weight.{weight_at}
use Rattle.use_turns.proofs.AdvanceLaws.{Along}
use Rattle.use_turns.proofs.Frames.advance.Given as goal

abbrev pub invariant-loop-self : goal.invariant-loop-self
invariant-loop-self l =
    Along (use_arrays l.uses.starts.now l.uses.places.now l.uses.targets.now l.uses.count) l.initial.self l.self

abbrev pub decreases-loop-self : goal.decreases-loop-self
decreases-loop-self l =
    weight_at (use_arrays l.uses.starts.now l.uses.places.now l.uses.targets.now l.uses.count) l.self
