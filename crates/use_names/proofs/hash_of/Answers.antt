-- `use_names::hash_of` meets its contract. The loop's invariant: the bytes before b are hashed.
-- Assumes nothing.
use Rattle.use_names.proofs.HashLaws.{hash_more_lem, hash_all}
use Rattle.use_names.proofs.hash_of.Goals as goal

pub loop-b-preserved : goal.loop-b-preserved
loop-b-preserved c =
    hash_more_lem _ _ _ _ c.loop-b.invariant c.loop-b-test.true c.hash_more-hash.ensures.0 c.hash_more-hash.ensures.1

pub returns : goal.returns
returns c = (hash_all _ _ _ c.loop-b.invariant c.loop-b-test.false, c.loop-b.invariant.1)
