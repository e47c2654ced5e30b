-- `use_names::hash_of` meets its contract. The loop's invariant: the bytes before b are hashed.
-- Assumes nothing.
use Rattle.use_names.proofs.HashLaws.{Hashing}
use Rattle.use_names.proofs.hash_of.Given as goal

abbrev pub invariant-loop-b : goal.invariant-loop-b
invariant-loop-b l = Hashing l.name l.hash l.b-index
