-- `print::put_in_base` meets its contract: each turn puts the last digit of what is left before the digits put so far.
-- Assumes nothing.
use native.Mathlib.Nat.{mod-lt, lt_of_lt_of_le}
use native.Mathlib.Omega.{arith}
use lib.ListN.{length-set}
use Rattle.expansion_laws.specs.Digits.{div_falls}
use Rattle.print.proofs.DigitLaws.{placed_none, placed_some, placed_length, placed_fits, placed_more, placed_all}
use Rattle.print.proofs.put_in_base.Goals as goal

pub loop-left-init : goal.loop-left-init
loop-left-init c = placed_none c.requires.0 c.requires.3 c.requires.4

pub overflow_sub-at : goal.overflow_sub-at
overflow_sub-at c = placed_some c.loop-left.invariant

pub nonzero_rem-left : goal.nonzero_rem-left
nonzero_rem-left c = omega arith

pub digit_byte-requires : goal.digit_byte-requires
digit_byte-requires c =
    (c.requires.2, lt_of_lt_of_le (mod-lt c.loop-left.left (omega arith)) c.requires.1)

pub bounds-out-at : goal.bounds-out-at
bounds-out-at c = placed_fits c.loop-left.invariant

pub nonzero_div-left : goal.nonzero_div-left
nonzero_div-left c = omega arith

pub loop-left-smaller : goal.loop-left-smaller
loop-left-smaller c = div_falls _ _ c.requires.0 c.loop-left-test.true

pub loop-left-preserved : goal.loop-left-preserved
loop-left-preserved c = placed_more _ c.loop-left.invariant c.loop-left-test.true c.digit_byte.ensures

pub overflow_sub-at-2 : goal.overflow_sub-at-2
overflow_sub-at-2 c = placed_some c.loop-left.invariant

pub digit_byte-requires-2 : goal.digit_byte-requires-2
digit_byte-requires-2 c = (c.requires.2, lt_of_lt_of_le c.loop-left-test.false c.requires.1)

pub bounds-out-at-2 : goal.bounds-out-at-2
bounds-out-at-2 c = placed_fits c.loop-left.invariant

pub shape_of-out : goal.shape_of-out
shape_of-out c = simp length-set (placed_length c.loop-left.invariant)

pub returns : goal.returns
returns c = placed_all _ c.loop-left.invariant c.loop-left-test.false c.digit_byte-2.ensures
