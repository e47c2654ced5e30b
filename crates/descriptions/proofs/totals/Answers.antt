-- `descriptions::totals` meets its contract. The loop's invariant: the totals of the descriptions passed fit.
-- Assumes nothing.
use Rattle.descriptions.proofs.TotalLaws.{totals_start, totals_fit, totals_over, totals_end}
use Rattle.descriptions.proofs.totals.Goals as goal

pub loop-d-init : goal.loop-d-init
loop-d-init c = totals_start _ _ _

pub returns-then-commas-d-gt-GIVEN_NAMES_MOST : goal.returns-then-commas-d-gt-GIVEN_NAMES_MOST
returns-then-commas-d-gt-GIVEN_NAMES_MOST c =
    totals_over _ _ _ _ c.loop-d.invariant c.loop-d-test.true c.if-commas-d-gt-GIVEN_NAMES_MOST.true _ c.head_place.ensures

pub loop-d-preserved : goal.loop-d-preserved
loop-d-preserved c =
    totals_fit _ _ _ _ c.loop-d.invariant c.loop-d-test.true c.if-commas-d-gt-GIVEN_NAMES_MOST.false

pub returns : goal.returns
returns c = totals_end _ _ _ _ c.loop-d.invariant c.loop-d-test.false
