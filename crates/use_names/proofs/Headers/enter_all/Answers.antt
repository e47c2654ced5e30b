-- `use_names::Headers::enter_all` meets its contract. The loop's invariant: the descriptions from d on are entered, if
-- there are no more than a text may have.
-- Assumes nothing.
use mathlib.Core.Path.{sym, ◌∙◌}
use native.Mathlib.Omega.{arith}
use Rattle.use_names.proofs.HashLaws.{firsts_more}
use Rattle.use_names.proofs.Headers.enter_all.Goals as goal

pub loop-d-preserved : goal.loop-d-preserved
loop-d-preserved c =
    record {
      long = c.enter_names.array_long;
      entered =
          λ f. firsts_more _ _ _ _ _ _ _ _ (omega arith) (c.loop-d.invariant.entered f)
          (c.enter_names.array_long ∙ sym c.loop-d.invariant.long)
          (rw (c.names.ensures, c.byte_of.ensures (omega arith)) at c.enter_names.ensures);
    }
