-- `decimals::put_pairs` meets its contract: each round puts the last pair of what is left before the pairs put so far.
-- Assumes nothing.
use Prim.Native.Nat.{◌-◌}
use native.Mathlib.Omega.{arith}
use lib.ListN.{length-set}
use Rattle.decimals.proofs.Laws.{below_100, pair_bytes}
use Rattle.decimals.proofs.Rounds.{round_none, round_length, round_room, round_more, round_all}
use Rattle.decimals.proofs.put_pairs.Goals as goal

pub loop-init : goal.loop-init
loop-init c = round_none c.requires.1.0 c.requires.1.1

pub pair_of-pair-requires : goal.pair_of-pair-requires
pair_of-pair-requires c = below_100 _

pub overflow_sub-at : goal.overflow_sub-at
overflow_sub-at c = round_room c.loop.invariant c.loop-test.true

pub overflow_cast-out : goal.overflow_cast-out
overflow_cast-out c = let p = (pair_bytes _ _ (below_100 _) c.pair_of-pair.ensures).0 in omega arith

pub overflow_add-out : goal.overflow_add-out
overflow_add-out c = let s = round_room c.loop.invariant c.loop-test.true in omega arith

pub bounds-out-at : goal.bounds-out-at
bounds-out-at c =
    let i = c.loop.invariant in
    omega (arith, round_room i c.loop-test.true, round_length i, c.loop.invariant.places, c.loop.invariant.room)

pub overflow_cast-out-in-loop : goal.overflow_cast-out-in-loop
overflow_cast-out-in-loop c = omega arith

pub bounds-out-at-in-loop : goal.bounds-out-at-in-loop
bounds-out-at-in-loop c =
    let i = c.loop.invariant in
    simp length-set (omega (arith, round_room i c.loop-test.true, round_length i, c.loop.invariant.places, c.loop.invariant.room))

pub overflow_step : goal.overflow_step
overflow_step c = omega arith

pub loop-smaller : goal.loop-smaller
loop-smaller c = omega arith

pub loop-preserved : goal.loop-preserved
loop-preserved c = round_more c.loop.invariant c.loop-test.true _ c.pair_of-pair.ensures

pub shape_of-out : goal.shape_of-out
shape_of-out c = round_length c.loop.invariant

pub returns : goal.returns
returns c = round_all c.loop.invariant c.loop-test.false
