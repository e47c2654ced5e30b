-- `conditionals::scan` meets its contract. The loop's invariant: what is left from here has the form of what is left from the start.
-- The measure is what is left of the string. Assumes nothing.
use mathlib.Core.Path.{refl, sym, ◌∙◌}
use Prim.Native.Nat.{◌+◌, ◌<◌}
use native.Mathlib.Omega.{arith}
use lib.ListN.{length}
use Rattle.conditionals.proofs.ScanLaws.{item_on, test_on, item_turn, test_turn}
use Rattle.conditionals.proofs.scan.Goals as goal

pub loop-i-init : goal.loop-i-init
loop-i-init c = record { form = refl; most = c.requires; on = omega arith }

pub quick_at-requires : goal.quick_at-requires
quick_at-requires c = omega arith

pub enum_known-class : goal.enum_known-class
enum_known-class c = c.in-Item.in-Item-own.keys1

pub nest-requires : goal.nest-requires
nest-requires c = c.loop-i.invariant.most

pub enum_known-k : goal.enum_known-k
enum_known-k c = c.in-Ok.in-Ok-own.keys1

pub loop-i-smaller-in-Ok : goal.loop-i-smaller-in-Ok
loop-i-smaller-in-Ok c =
    let h : c.loop-i.i < length c.args.s.now = omega arith in
    let t = rw c.in-Item.is at c.quick_at.ensures in
    omega (arith, item_on c.args.s.now c.loop-i.i c.in-Item.class c.in-Item.next h t)

pub loop-i-preserved-in-Ok : goal.loop-i-preserved-in-Ok
loop-i-preserved-in-Ok c =
    let h : c.loop-i.i < length c.args.s.now = omega arith in
    let t = rw c.in-Item.is at c.quick_at.ensures in
    item_turn c.args.s.now c.args.from c.args.before c.loop-i.i c.loop-i.kept c.loop-i.invariant c.in-Item.class c.in-Item.next c.in-Ok.k h t
    (sym c.nest.ensures ∙ c.in-Ok.is)

pub enum_told-1 : goal.enum_told-1
enum_told-1 c = c.in-Err.in-Err-own.keys2

pub returns-in-Err : goal.returns-in-Err
returns-in-Err c = c.loop-i.invariant

pub enum_known-next : goal.enum_known-next
enum_known-next c = c.in-Test.in-Test-own.keys2

pub returns-then-kept-ge-NEST_FULL : goal.returns-then-kept-ge-NEST_FULL
returns-then-kept-ge-NEST_FULL c = c.loop-i.invariant

pub overflow_mul-kept : goal.overflow_mul-kept
overflow_mul-kept c = omega arith

pub overflow_add-kept : goal.overflow_add-kept
overflow_add-kept c = omega arith

pub loop-i-smaller : goal.loop-i-smaller
loop-i-smaller c =
    let h : c.loop-i.i < length c.args.s.now = omega arith in
    let t = rw c.in-Test.is at c.quick_at.ensures in
    omega (arith, test_on c.args.s.now c.loop-i.i c.in-Test.next t)

pub loop-i-preserved : goal.loop-i-preserved
loop-i-preserved c =
    let h : c.loop-i.i + 2 < length c.args.s.now = omega arith in
    let t = rw c.in-Test.is at c.quick_at.ensures in
    test_turn c.args.s.now c.args.from c.args.before c.loop-i.i c.loop-i.kept c.loop-i.invariant c.in-Test.next h t c.if-kept-ge-NEST_FULL.false

pub enum_told-in-Slow : goal.enum_told-in-Slow
enum_told-in-Slow c = c.in-Slow.in-Slow-own.keys3

pub returns-in-Slow : goal.returns-in-Slow
returns-in-Slow c = c.loop-i.invariant

pub returns : goal.returns
returns c = c.loop-i.invariant
