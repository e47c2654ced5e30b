-- The uses that the struct of them holds.
-- Assumes nothing.
use Rattle.use_turns.specs.declared.Uses.{Uses}
use Rattle.use_turns.specs.Frames.{UseArrays, use_arrays}

abbrev pub arrays_of : Uses → UseArrays
arrays_of u = use_arrays u.starts.now u.places.now u.targets.now u.count
