-- `use_names::Headers::find_entered` meets its contract: none before the one where the search starts has the name.
-- Assumes nothing.
use Rattle.use_names.proofs.HavingLaws.{found_having}
use Rattle.use_names.proofs.HashLaws.{firsts_before}
use Rattle.use_names.proofs.Headers.find_entered.Goals as goal

pub returns-clause-named : goal.returns-clause-named
returns-clause-named c =
    λ f e ds l. found_having e _ _ _ _ ds l _ _
    (λ d m k. firsts_before _ _ _ _ _ f _ d m (rw c.hash_of.ensures.0 at k)) _ c.find_from.ensures
