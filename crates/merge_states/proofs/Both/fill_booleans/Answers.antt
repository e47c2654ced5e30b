-- `merge_states::Both::fill_booleans` meets its contract. The loop's invariant: the places passed are filled.
use mathlib.Core.Path.{refl}
use native.Mathlib.Omega.{arith}
use lib.ListN.{length-set}
use Rattle.merge_states.proofs.Laws.{given_boolean, booleans_turn}
use Rattle.merge_states.proofs.Both.fill_booleans.Goals as goal

pub loop-i-init : goal.loop-i-init
loop-i-init c = (refl, λ j h. absurd (let z : ⊥ = omega arith in z))

pub boolean-requires : goal.boolean-requires
boolean-requires c = (c.requires.0, c.loop-i-test.true)

pub bounds-kinds-i : goal.bounds-kinds-i
bounds-kinds-i c = omega arith

pub loop-i-preserved : goal.loop-i-preserved
loop-i-preserved c =
    (rw length-set c.loop-i.invariant.0, booleans_turn c.args.self.now.first.now c.args.self.now.second.now c.loop-i.i c.loop-i.kinds c.kind_of.result (omega arith) c.loop-i.invariant.1 (given_boolean _ _ _ c.boolean.ensures c.kind_of.ensures))

pub shape_of-kinds : goal.shape_of-kinds
shape_of-kinds c = c.loop-i.invariant.0

pub returns : goal.returns
returns c =
    λ j h. c.loop-i.invariant.1 j (omega arith)
