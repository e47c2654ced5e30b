-- `use_turns::Frames::advance` meets its contract: from the first frames the walk goes on from those of each turn.
-- Assumes nothing.
use native.Mathlib.Omega.{arith}
use Rattle.use_turns.proofs.AdvanceLaws.{bounds, along_finished, falls_finished, along_passed, falls_passed}
use Rattle.use_turns.proofs.AdvanceLaws.{along_entered, along_done}
use Rattle.use_turns.proofs.Frames.advance.Goals as goal

pub loop-self-smaller-in-End : goal.loop-self-smaller-in-End
loop-self-smaller-in-End c =
    falls_finished c.loop-self.invariant c.args.uses.now.held c.loop-self-test.true
    (rw (c.in_ok-next_use.was, c.in-End.is) at c.next_use.ensures) c.finish.ensures

pub loop-self-preserved-in-End : goal.loop-self-preserved-in-End
loop-self-preserved-in-End c =
    along_finished c.loop-self.invariant c.args.uses.now.held c.loop-self-test.true
    (rw (c.in_ok-next_use.was, c.in-End.is) at c.next_use.ensures) c.finish.ensures

pub pass-requires : goal.pass-requires
pass-requires c =
    let j = rw (c.in_ok-next_use.was, c.in-Pass.is) at c.next_use.ensures in
    let b = bounds c.args.uses.now.held c.loop-self.invariant.framed c.loop-self-test.true in
    let m = j.0 in
    let f = c.args.uses.now.fits in
    let d = c.loop-self.invariant.framed.deep in
    let n = c.loop-self.invariant.framed.nexts in
    (c.loop-self-test.true, (omega arith, omega arith))

pub loop-self-smaller : goal.loop-self-smaller
loop-self-smaller c =
    rw c.pass.ensures
    (falls_passed c.loop-self.invariant (rw (c.in_ok-next_use.was, c.in-Pass.is) at c.next_use.ensures))

pub loop-self-preserved : goal.loop-self-preserved
loop-self-preserved c =
    rw c.pass.ensures
    (along_passed c.loop-self.invariant (rw (c.in_ok-next_use.was, c.in-Pass.is) at c.next_use.ensures))

pub enter-requires : goal.enter-requires
enter-requires c =
    let j = rw (c.in_ok-next_use.was, c.in-Enter.is) at c.next_use.ensures in
    let b = bounds c.args.uses.now.held c.loop-self.invariant.framed c.loop-self-test.true in
    let m = j.0 in
    let f = c.args.uses.now.fits in
    let o = c.loop-self.invariant.framed in
    (c.loop-self-test.true, (j.1.1.0, (o.nexts, (o.stacks, (omega arith, j.1.0)))))

pub returns-in-Enter : goal.returns-in-Enter
returns-in-Enter c =
    rw c.enter.ensures
    (along_entered c.loop-self.invariant _ (rw (c.in_ok-next_use.was, c.in-Enter.is) at c.next_use.ensures))

pub returns : goal.returns
returns c = along_done c.loop-self.invariant c.loop-self-test.false
