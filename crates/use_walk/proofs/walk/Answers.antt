-- `use_walk::walk` meets its contract. The loop's invariant: the walk has come to the frames, and the states of each
-- description that was entered are put, in the caller's arrays.
-- Assumes nothing.
use mathlib.Core.Path.{refl}
use Rattle.kept_states.proofs.ArrayLaws.{arrays_on}
use Rattle.use_walk.proofs.WalkLaws.{walking_start, walking_entered}
use Rattle.use_walk.proofs.walk.Goals as goal

pub loop-d-init : goal.loop-d-init
loop-d-init c =
    record {
      lent = c.put_own.ensures.lent;
      walking =
          rw c.start-frames.ensures (walking_start c.args.wanted _ _ c.requires.1.0 c.requires.0 c.put_own.ensures.put);
    }

pub loop-d-smaller : goal.loop-d-smaller
loop-d-smaller c =
    let j = rw (c.in_ok-d.was, c.in-Some.is) at c.advance.ensures in
    (j.1 (λ s d. s)).falls

pub loop-d-preserved : goal.loop-d-preserved
loop-d-preserved c =
    let j = rw (c.in_ok-d.was, c.in-Some.is) at c.advance.ensures in
    record {
      lent = arrays_on _ _ _ c.loop-d.invariant.lent c.put_own-in-Some.ensures.lent;
      walking = walking_entered c.loop-d.invariant.walking _ j.1 c.put_own-in-Some.ensures.put refl;
    }
