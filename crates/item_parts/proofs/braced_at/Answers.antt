-- `item_parts::braced_at` meets its contract. The loop's invariant: the digits from here on, behind the value so far, are the constant.
-- Assumes nothing.
use mathlib.Core.Path.{◌≡◌, sym, ◌∙◌}
use mathlib.Core.Bool.{true}
use Prim.Native.Nat.{◌+◌, ◌-◌, ◌*◌, ◌≤◌}
use native.Mathlib.Omega.{arith}
use mir.Syntax.{w32}
use mir.Facts.{to_z_pos}
use Rattle.expansion.specs.Items.{byte_at, is_digit, braced_at}
use Rattle.item_parts.proofs.Cases.{within_true, braced_from, braced_start, braced_step, braced_large, braced_close, braced_other, braced_stop, braced_past, braced_first}
use Rattle.item_parts.proofs.braced_at.Goals as goal

pub overflow_add-j : goal.overflow_add-j
overflow_add-j c = omega arith

pub returns-then-not-is_digit : goal.returns-then-not-is_digit
returns-then-not-is_digit c =
    sym (braced_first c.args.s.now c.args.j (rw (← c.byte_at.ensures) (sym c.is_digit.ensures ∙ c.if-not-is_digit.true)))

pub loop-i-init : goal.loop-i-init
loop-i-init c =
    (omega arith, rw (← c.byte_at.ensures) (sym c.is_digit.ensures ∙ c.if-not-is_digit.false), braced_start c.args.s.now c.args.j)

pub bounds-s-i : goal.bounds-s-i
bounds-s-i c = omega arith

pub overflow_cast-result : goal.overflow_cast-result
overflow_cast-result c = record { sfits = omega arith }

pub overflow_add-result : goal.overflow_add-result
overflow_add-result c = omega arith

pub returns-then-c-eq125 : goal.returns-then-c-eq125
returns-then-c-eq125 c =
    rw (to_z_pos w32 {n = c.loop-i.v} (omega arith))
    (sym (c.loop-i.invariant.2 ∙ braced_close c.args.s.now c.args.j c.loop-i.i c.loop-i.v c.loop-i-test.true c.if-c-eq125.true c.loop-i.invariant.1 c.loop-i.invariant.0))

pub returns-then-not-is_digit-2 : goal.returns-then-not-is_digit-2
returns-then-not-is_digit-2 c =
    let n = sym c.is_digit-in-loop-i.ensures ∙ c.if-not-is_digit-2.true in
    sym (c.loop-i.invariant.2 ∙ braced_other c.args.s.now c.args.j c.loop-i.i c.loop-i.v (braced_stop c.args.s.now c.loop-i.i c.loop-i-test.true n) c.if-c-eq125.false)

pub overflow_mul-v : goal.overflow_mul-v
overflow_mul-v c = omega arith

-- a digit at hand: its bounds, and the constant one digit on
pub overflow_sub-v : goal.overflow_sub-v
overflow_sub-v c =
    let digit : is_digit (byte_at c.args.s.now c.loop-i.i) ≡ true = sym c.is_digit-in-loop-i.ensures ∙ c.if-not-is_digit-2.false in
    let range : let x = byte_at c.args.s.now c.loop-i.i in (48 ≤ x) × (x ≤ 57) = within_true 48 57 (byte_at c.args.s.now c.loop-i.i) digit in
    let h = range in omega arith

pub overflow_cast-v : goal.overflow_cast-v
overflow_cast-v c =
    let digit : is_digit (byte_at c.args.s.now c.loop-i.i) ≡ true = sym c.is_digit-in-loop-i.ensures ∙ c.if-not-is_digit-2.false in
    let range : let x = byte_at c.args.s.now c.loop-i.i in (48 ≤ x) × (x ≤ 57) = within_true 48 57 (byte_at c.args.s.now c.loop-i.i) digit in
    let h = range in omega arith

pub overflow_add-v : goal.overflow_add-v
overflow_add-v c =
    let digit : is_digit (byte_at c.args.s.now c.loop-i.i) ≡ true = sym c.is_digit-in-loop-i.ensures ∙ c.if-not-is_digit-2.false in
    let range : let x = byte_at c.args.s.now c.loop-i.i in (48 ≤ x) × (x ≤ 57) = within_true 48 57 (byte_at c.args.s.now c.loop-i.i) digit in
    let h = range in omega arith

pub returns-then-v-gt-CONSTANT_MOST : goal.returns-then-v-gt-CONSTANT_MOST
returns-then-v-gt-CONSTANT_MOST c =
    let digit : is_digit (byte_at c.args.s.now c.loop-i.i) ≡ true = sym c.is_digit-in-loop-i.ensures ∙ c.if-not-is_digit-2.false in
    let turn : braced_at c.args.s.now c.args.j ≡ braced_from c.args.s.now c.args.j (c.loop-i.i + 1) (c.loop-i.v * 10 + (byte_at c.args.s.now c.loop-i.i - 48)) = c.loop-i.invariant.2 ∙ braced_step c.args.s.now c.args.j c.loop-i.i c.loop-i.v c.loop-i-test.true digit in
    sym (turn ∙ braced_large c.args.s.now c.args.j (c.loop-i.i + 1) (c.loop-i.v * 10 + (byte_at c.args.s.now c.loop-i.i - 48)) c.if-v-gt-CONSTANT_MOST.true)

pub loop-i-preserved : goal.loop-i-preserved
loop-i-preserved c =
    let digit : is_digit (byte_at c.args.s.now c.loop-i.i) ≡ true = sym c.is_digit-in-loop-i.ensures ∙ c.if-not-is_digit-2.false in
    let turn : braced_at c.args.s.now c.args.j ≡ braced_from c.args.s.now c.args.j (c.loop-i.i + 1) (c.loop-i.v * 10 + (byte_at c.args.s.now c.loop-i.i - 48)) = c.loop-i.invariant.2 ∙ braced_step c.args.s.now c.args.j c.loop-i.i c.loop-i.v c.loop-i-test.true digit in
    (c.if-v-gt-CONSTANT_MOST.false, c.loop-i.invariant.1, turn)

pub returns : goal.returns
returns c =
    sym (c.loop-i.invariant.2 ∙ braced_past c.args.s.now c.args.j c.loop-i.i c.loop-i.v c.loop-i-test.false)
