-- `use_names::enter_names` meets its contract. The loop's invariant: the names before b are entered.
-- Assumes nothing.
use native.Mathlib.Omega.{arith}
use Rattle.use_names.proofs.HashLaws.{entering_bar, entering_byte, entering_all}
use Rattle.use_names.proofs.enter_names.Goals.{then-b-eq124, else-b-eq124}
use Rattle.use_names.proofs.enter_names.Goals as goal

pub loop-b-preserved : goal.loop-b-preserved
loop-b-preserved c =
    elim c.if-b-eq124.branch [
      | then-b-eq124 w ↦ rw (w.firsts-is, w.hash-is)
          (entering_bar _ _ _ _ _ _ c.loop-b.invariant c.loop-b-test.true w.if-b-eq124.true
          (omega (arith, c.loop-b.invariant.kept, c.loop-b.invariant.below, c.requires)))
      | else-b-eq124 w ↦ rw (w.firsts-is, w.hash-is)
          (entering_byte _ _ _ _ _ _ c.loop-b.invariant c.loop-b-test.true w.if-b-eq124.false
          w.hash_more-hash.result w.hash_more-hash.ensures.0 w.hash_more-hash.ensures.1)
    ]

pub returns : goal.returns
returns c = entering_all _ _ _ _ _ _ c.loop-b.invariant c.loop-b-test.false
