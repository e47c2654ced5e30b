-- `merge_states::Both::fill_numbers` meets its contract. The loop's invariant: the places passed are filled.
use mathlib.Core.Path.{refl}
use native.Mathlib.Omega.{arith}
use lib.ListN.{length-set}
use Rattle.merge_states.proofs.Laws.{given_number, numbers_turn}
use Rattle.merge_states.proofs.Both.fill_numbers.Goals as goal

pub loop-i-init : goal.loop-i-init
loop-i-init c = (refl, refl, λ j h. absurd (let z : ⊥ = omega arith in z))

pub number-s-requires : goal.number-s-requires
number-s-requires c = (c.requires.0, c.loop-i-test.true)

pub bounds-kinds-i : goal.bounds-kinds-i
bounds-kinds-i c = omega arith

pub offset_bounds-values-i : goal.offset_bounds-values-i
offset_bounds-values-i c = omega arith

pub bounds-values-i : goal.bounds-values-i
bounds-values-i c = omega arith

pub loop-i-preserved : goal.loop-i-preserved
loop-i-preserved c =
    (rw length-set c.loop-i.invariant.0, rw length-set c.loop-i.invariant.1, numbers_turn c.args.self.now.first.now c.args.self.now.second.now c.loop-i.i c.loop-i.kinds c.loop-i.values c.kind_of.result c.present_or.result (omega arith) (omega arith) c.loop-i.invariant.2 (given_number _ _ _ _ c.number-s.ensures c.kind_of.ensures c.present_or.ensures))

pub shape_of-kinds : goal.shape_of-kinds
shape_of-kinds c = c.loop-i.invariant.0

pub shape_of-values : goal.shape_of-values
shape_of-values c = c.loop-i.invariant.1

pub returns : goal.returns
returns c =
    λ j h. c.loop-i.invariant.2 j (omega arith)
