-- `right_classes::braced_end` meets its contract. The loop's invariant: the digits from `i` on end where those from `j`
-- on do. The measure is what is left of the string.
-- Assumes nothing.
use mathlib.Core.Path.{refl, ap}
use Prim.Native.Nat.{ℕ, ◌+◌, ◌-◌}
use native.Mathlib.Omega.{arith}
use Rattle.right_classes.proofs.PartLaws.{digits_inside, digits_step, digits_stop}
use Rattle.right_classes.proofs.braced_end.Goals as goal

pub loop-i-init : goal.loop-i-init
loop-i-init c = refl

pub bounds-s-i : goal.bounds-s-i
bounds-s-i c = digits_inside c.requires _ c.loop-i.invariant

pub overflow_add-i : goal.overflow_add-i
overflow_add-i c = omega (arith, digits_inside c.requires _ c.loop-i.invariant)

pub loop-i-smaller : goal.loop-i-smaller
loop-i-smaller c = omega (arith, digits_inside c.requires _ c.loop-i.invariant)

pub loop-i-preserved : goal.loop-i-preserved
loop-i-preserved c = digits_step c.requires _ c.loop-i.invariant c.loop-i-test.true

pub overflow_add-result : goal.overflow_add-result
overflow_add-result c = omega (arith, digits_inside c.requires _ c.loop-i.invariant)

pub returns : goal.returns
returns c =
    let e = digits_stop c.requires _ c.loop-i.invariant c.loop-i-test.false in
    ap (λ (k : ℕ). k + 1) e
