-- `items::braced_at` meets its contract. The loop's invariant: the digits from here on, behind the value so far, are the constant.
-- Since it is right, it has a digit or `}` here, and the value is no larger than a constant. The measure is what is left of the string.
-- Assumes nothing.
use mathlib.Core.Path.{◌≡◌, ap}
use Prim.Native.Nat.{◌+◌, ◌-◌, ◌*◌, ◌≤◌, ◌<◌}
use native.Mathlib.Omega.{arith}
use lib.ListN.{length}
use mir.Syntax.{w32}
use mir.Facts.{to_z_pos}
use Rattle.expansion.specs.Limits.{constant_most}
use Rattle.expansion.specs.Items.{byte_at, braced_at}
use Rattle.item_parts.proofs.Cases.{braced_from, braced_start}
use Rattle.items.specs.Parts.{other_item}
use Rattle.items.proofs.Laws.{digits_inside, digits_value, digits_first, digits_step, digits_close}
use Rattle.items.proofs.braced_at.Goals as goal

pub overflow_add-i : goal.overflow_add-i
overflow_add-i c =
    let h = digits_inside c.args.s.now c.args.j (c.args.j + 1) 0 c.requires (braced_start c.args.s.now c.args.j) in
    omega arith

pub loop-i-init : goal.loop-i-init
loop-i-init c = braced_start c.args.s.now c.args.j

-- what is known at the loop's head
pub bounds-s-i : goal.bounds-s-i
bounds-s-i c =
    let inside : c.loop-i.i < length c.args.s.now = digits_inside c.args.s.now c.args.j c.loop-i.i c.loop-i.v c.requires c.loop-i.invariant in
    inside

pub overflow_mul-v : goal.overflow_mul-v
overflow_mul-v c =
    let value : c.loop-i.v ≤ constant_most = digits_value c.args.s.now c.args.j c.loop-i.i c.loop-i.v c.requires c.loop-i.invariant in
    let h = value in omega arith

pub bounds-s-i-in-loop-i : goal.bounds-s-i-in-loop-i
bounds-s-i-in-loop-i c =
    let inside : c.loop-i.i < length c.args.s.now = digits_inside c.args.s.now c.args.j c.loop-i.i c.loop-i.v c.requires c.loop-i.invariant in
    inside

-- a digit at hand
pub overflow_sub-v : goal.overflow_sub-v
overflow_sub-v c =
    let digit : let x = byte_at c.args.s.now c.loop-i.i in
    (48 ≤ x) × (x ≤ 57) = digits_first c.args.s.now c.args.j c.loop-i.i c.loop-i.v c.requires c.loop-i.invariant c.loop-i-test.true in
    let h = digit in omega arith

pub overflow_cast-v : goal.overflow_cast-v
overflow_cast-v c =
    let digit : let x = byte_at c.args.s.now c.loop-i.i in
    (48 ≤ x) × (x ≤ 57) = digits_first c.args.s.now c.args.j c.loop-i.i c.loop-i.v c.requires c.loop-i.invariant c.loop-i-test.true in
    let h = digit in omega arith

pub overflow_add-v : goal.overflow_add-v
overflow_add-v c =
    let value : c.loop-i.v ≤ constant_most = digits_value c.args.s.now c.args.j c.loop-i.i c.loop-i.v c.requires c.loop-i.invariant in
    let digit : let x = byte_at c.args.s.now c.loop-i.i in
    (48 ≤ x) × (x ≤ 57) = digits_first c.args.s.now c.args.j c.loop-i.i c.loop-i.v c.requires c.loop-i.invariant c.loop-i-test.true in
    let h = digit in
    let g = value in
    omega arith

pub overflow_add-i-in-loop-i : goal.overflow_add-i-in-loop-i
overflow_add-i-in-loop-i c =
    let inside : c.loop-i.i < length c.args.s.now = digits_inside c.args.s.now c.args.j c.loop-i.i c.loop-i.v c.requires c.loop-i.invariant in
    let h = inside in omega arith

pub loop-i-smaller : goal.loop-i-smaller
loop-i-smaller c =
    let inside : c.loop-i.i < length c.args.s.now = digits_inside c.args.s.now c.args.j c.loop-i.i c.loop-i.v c.requires c.loop-i.invariant in
    let h = inside in omega arith

pub loop-i-preserved : goal.loop-i-preserved
loop-i-preserved c =
    let turn : braced_at c.args.s.now c.args.j ≡ braced_from c.args.s.now c.args.j (c.loop-i.i + 1) (c.loop-i.v * 10 + (byte_at c.args.s.now c.loop-i.i - 48)) = digits_step c.args.s.now c.args.j c.loop-i.i c.loop-i.v c.requires c.loop-i.invariant c.loop-i-test.true in
    turn

pub overflow_cast-result : goal.overflow_cast-result
overflow_cast-result c =
    let value : c.loop-i.v ≤ constant_most = digits_value c.args.s.now c.args.j c.loop-i.i c.loop-i.v c.requires c.loop-i.invariant in
    let h = value in record { sfits = omega arith }

pub overflow_add-result : goal.overflow_add-result
overflow_add-result c =
    let inside : c.loop-i.i < length c.args.s.now = digits_inside c.args.s.now c.args.j c.loop-i.i c.loop-i.v c.requires c.loop-i.invariant in
    let h = inside in omega arith

pub returns : goal.returns
returns c =
    let value : c.loop-i.v ≤ constant_most = digits_value c.args.s.now c.args.j c.loop-i.i c.loop-i.v c.requires c.loop-i.invariant in
    let h = value in
    rw (to_z_pos w32 {n = c.loop-i.v} (omega arith)) (ap other_item (digits_close c.args.s.now c.args.j c.loop-i.i c.loop-i.v c.requires c.loop-i.invariant c.loop-i-test.false))
