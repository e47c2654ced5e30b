-- `expand_run::run` meets its contract: each turn of its loop is a step of the definition's run, or three of them.
-- Assumes nothing.
use mathlib.Core.Path.{◌≡◌, refl, sym, ap, ◌∙◌}
use mathlib.Core.List.{[]}
use Prim.Native.Nat.{ℕ, ◌+◌}
use native.Mathlib.Omega.{arith}
use lib.IntN.{ℤ}
use lib.Seq.{get_or-set_other}
use mir.Syntax.{w32}
use mir.Val.{of_z, to_z}
use mir.Facts.{to_z_pos}
use borrow.Author.Rules.{rules}
use Rattle.signed.proofs.Laws.{zero_yes, zero_no}
use Rattle.expansion.specs.declared.Operand.TheVariants as O
use Rattle.expansion.specs.Values.{number, is_text}
use Rattle.expansion.specs.Machine.{run, finished, failed}
use Rattle.expansion.specs.Arguments.{values_of}
use Rattle.item_parts.specs.Right.{Simple}
use Rattle.level_laws.proofs.RightLaws.{right_item}
use Rattle.room_laws.specs.Room.{Value32}
use Rattle.std.specs.Prelude.{Ok}
use Rattle.expand_run.proofs.StackLaws.{over, Popped}
use Rattle.expand_run.proofs.Laws as G
use Rattle.expand_run.proofs.TurnLaws as T
use Rattle.expand_run.proofs.TurnLaws.{Running, stack_of}
use Rattle.expand_run.proofs.run.Goals as goal
use Rattle.expand_run.proofs.run.Goals.{After-take}

-- what the item pops
popped : (c : After-take) → Simple c.in-Other.item
    → Popped c.in-Other.item (stack_of c.args.texts.now c.loop-i.stack) c.loop-i.depth c.if-pops-gt0.depth (number (to_z w32 c.if-pops-gt0.a-bits)) (number (to_z w32 c.if-pops-gt0.b-bits))
popped c h =
    let e = c.arity-pops.ensures in
    let R = c.loop-i.invariant.1 in
    elim c.if-pops-gt0.branch [
      | goal.then-pops-gt0+else-depth-pops+in-Number-stack-3 w ↦
          let b : to_z w32 (of_z w32 w.in-Number-stack-3.top) ≡ w.in-Number-stack-3.top = search rules in
          G.simple_popped _ _ _ h (omega (arith, e, w.if-depth-pops.false)) _ _ _ (omega (arith, e, w.depth-is))
          (λ _. T.element_is R _ w.in-Number-stack-3.is ∙ ap number (sym (w.b-is ∙ b)))
          (λ l. elim w.if-pops-gt1.branch [
            | goal.then-pops-gt1+in-Number-stack-4 u ↦
                let a : to_z w32 (of_z w32 u.in-Number-stack-4.below) ≡ u.in-Number-stack-4.below = search rules in
                T.element_is R _ u.in-Number-stack-4.is ∙ ap number (sym (w.a-is ∙ u.a-is ∙ a))
            | goal.else-pops-gt1 u ↦ absurd (omega (arith, e, u.if-pops-gt1.false))
          ])
      | goal.else-pops-gt0 w ↦
          G.simple_popped _ _ _ h (omega (arith, e, w.if-pops-gt0.false)) _ _ _ (omega (arith, e, w.if-pops-gt0.false, w.depth-is))
          (λ l. absurd (omega (arith, e, w.if-pops-gt0.false))) (λ l. absurd (omega (arith, e, w.if-pops-gt0.false)))
    ]

pub loop-i-init : goal.loop-i-init
loop-i-init c = ([], T.running_start _ _ _ _ _ (search rules) c.requires.1 c.requires.2)

pub item_at-requires : goal.item_at-requires
item_at-requires c = right_item c.loop-i.invariant.1.going.right c.loop-i-test.true

pub overflow_add-length : goal.overflow_add-length
overflow_add-length c = omega (arith, T.running_room c.loop-i.invariant.1 c.requires.0)

pub loop-i-preserved-in-Byte : goal.loop-i-preserved-in-Byte
loop-i-preserved-in-Byte c = (_, T.kept c.loop-i.invariant.1 (G.byte_gone c.loop-i.invariant.1.going c.loop-i-test.true (rw c.in-Byte.is at c.item_at.ensures).0 c.put_byte.ensures))

pub returns-then-depth-ge-STACK_MOST : goal.returns-then-depth-ge-STACK_MOST
returns-then-depth-ge-STACK_MOST c =
    let y : run c.args.s.now (values_of c.args.texts.now c.args.arguments) c.args.lasting.now ≡ failed 16 c.loop-i.i = G.argument_full c.loop-i.invariant.1.going c.loop-i-test.true (rw c.in-Argument.is at c.item_at.ensures).0 c.if-depth-ge-STACK_MOST.true in
    rw y (record { answer = refl; output = tt; within = λ _ _. c.loop-i-test.true })

pub offset_bounds-given-n : goal.offset_bounds-given-n
offset_bounds-given-n c = omega (arith, G.argument_below c.loop-i.invariant.1.going c.loop-i-test.true (rw c.in-Argument.is at c.item_at.ensures).0)

pub bounds-given-n : goal.bounds-given-n
bounds-given-n c = omega (arith, c.loop-i.invariant.1.nine, G.argument_below c.loop-i.invariant.1.going c.loop-i-test.true (rw c.in-Argument.is at c.item_at.ensures).0)

pub loop-i-preserved-in-Argument : goal.loop-i-preserved-in-Argument
loop-i-preserved-in-Argument c = (_, T.argument_pushed c.loop-i.invariant.1 c.loop-i-test.true (rw c.in-Argument.is at c.item_at.ensures).0 c.if-depth-ge-STACK_MOST.false)

pub returns-then-depth-ge-STACK_MOST-2 : goal.returns-then-depth-ge-STACK_MOST-2
returns-then-depth-ge-STACK_MOST-2 c =
    let y : run c.args.s.now (values_of c.args.texts.now c.args.arguments) c.args.lasting.now ≡ failed 16 (c.loop-i.i + 2) = T.test_full c.loop-i.invariant.1 c.loop-i-test.true (rw c.in-Test.is at c.item_at.ensures).0 (rw c.in-Test.is at c.item_at.ensures).1 c.if-depth-ge-STACK_MOST-2.true in
    rw y (record { answer = refl; output = tt; within = λ _ _. omega (arith, (rw c.in-Test.is at c.item_at.ensures).1.inside) })

pub pass-i-requires : goal.pass-i-requires
pass-i-requires c = (c.requires.0, T.test_open c.loop-i.invariant.1 c.loop-i-test.true (rw c.in-Test.is at c.item_at.ensures).0 (rw c.in-Test.is at c.item_at.ensures).1 c.if-depth-ge-STACK_MOST-2.false)

pub loop-i-smaller-then-v-eq0 : goal.loop-i-smaller-then-v-eq0
loop-i-smaller-then-v-eq0 c = omega (arith, c.loop-i-test.true, T.test_further c.loop-i.invariant.1 c.loop-i-test.true (rw c.in-Test.is at c.item_at.ensures).0 (rw c.in-Test.is at c.item_at.ensures).1 c.if-depth-ge-STACK_MOST-2.false c.pass-i.ensures)

pub loop-i-preserved-then-v-eq0 : goal.loop-i-preserved-then-v-eq0
loop-i-preserved-then-v-eq0 c = (_, T.test_past c.loop-i.invariant.1 c.loop-i-test.true (rw c.in-Test.is at c.item_at.ensures).0 (rw c.in-Test.is at c.item_at.ensures).1 c.if-depth-ge-STACK_MOST-2.false c.in-Number-operand.is (zero_yes c.in-Number-operand.v (search rules) c.if-v-eq0.true) c.pass-i.ensures)

pub loop-i-preserved-else-v-eq0 : goal.loop-i-preserved-else-v-eq0
loop-i-preserved-else-v-eq0 c = (_, T.test_gone c.loop-i.invariant.1 c.loop-i-test.true (rw c.in-Test.is at c.item_at.ensures).0 (rw c.in-Test.is at c.item_at.ensures).1 c.if-depth-ge-STACK_MOST-2.false c.in-Number-operand.is (zero_no c.in-Number-operand.v c.if-v-eq0.false))

pub returns-in_default : goal.returns-in_default
returns-in_default c =
    let y : run c.args.s.now (values_of c.args.texts.now c.args.arguments) c.args.lasting.now ≡ failed 21 (c.loop-i.i + 5) = T.test_other c.loop-i.invariant.1 c.loop-i-test.true (rw c.in-Test.is at c.item_at.ensures).0 (rw c.in-Test.is at c.item_at.ensures).1 c.if-depth-ge-STACK_MOST-2.false c.in_default.is in
    rw y (record { answer = refl; output = tt; within = λ _ _. omega (arith, (rw c.in-Test.is at c.item_at.ensures).1.inside) })

pub returns-then-depth-lt1 : goal.returns-then-depth-lt1
returns-then-depth-lt1 c =
    let y : run c.args.s.now (values_of c.args.texts.now c.args.arguments) c.args.lasting.now ≡ failed 15 c.loop-i.i = G.number_empty c.loop-i.invariant.1.going c.loop-i-test.true (rw c.in-Number.is at c.item_at.ensures).0 c.if-depth-lt1.true in
    rw y (record { answer = refl; output = tt; within = λ _ _. c.loop-i-test.true })

pub put_number-length-requires : goal.put_number-length-requires
put_number-length-requires c = omega (arith, T.running_room c.loop-i.invariant.1 c.requires.0)

pub overflow_add-length-in-Number : goal.overflow_add-length-in-Number
overflow_add-length-in-Number c = omega (arith, T.running_room c.loop-i.invariant.1 c.requires.0, c.put_number-length.ensures.1)

pub loop-i-smaller-in-Number : goal.loop-i-smaller-in-Number
loop-i-smaller-in-Number c = omega (arith, c.loop-i-test.true, G.going_leads c.loop-i.invariant.1.going _ (rw c.in-Number.is at c.item_at.ensures).0 c.loop-i-test.true)

pub loop-i-preserved-in-Number : goal.loop-i-preserved-in-Number
loop-i-preserved-in-Number c =
    let v : ℤ = c.in-Number-stack.v in
    let e : to_z w32 (of_z w32 c.in-Number-stack.v) ≡ c.in-Number-stack.v = search rules in
    let p = rw e at c.put_number-length.ensures in
    let m : Value32 c.in-Number-stack.v = rw e at (G.value_of (of_z w32 c.in-Number-stack.v)) in
    (_, T.kept c.loop-i.invariant.1 (G.number_gone c.loop-i.invariant.1.going c.loop-i-test.true (rw c.in-Number.is at c.item_at.ensures).0 c.if-depth-lt1.false (T.element_is c.loop-i.invariant.1 _ c.in-Number-stack.is) m (ap (λ (n : ℕ). c.loop-i.length + n) p.0) p.2))

pub returns-in_default-stack : goal.returns-in_default-stack
returns-in_default-stack c =
    let y : run c.args.s.now (values_of c.args.texts.now c.args.arguments) c.args.lasting.now ≡ failed 21 c.loop-i.i = G.number_other c.loop-i.invariant.1.going c.loop-i-test.true (rw c.in-Number.is at c.item_at.ensures).0 c.if-depth-lt1.false (ap is_text (T.element_is c.loop-i.invariant.1 _ c.in_default-stack.is)) in
    rw y (record { answer = refl; output = tt; within = λ _ _. c.loop-i-test.true })

pub returns-then-depth-ge-STACK_MOST-3 : goal.returns-then-depth-ge-STACK_MOST-3
returns-then-depth-ge-STACK_MOST-3 c =
    let y : run c.args.s.now (values_of c.args.texts.now c.args.arguments) c.args.lasting.now ≡ failed 16 c.loop-i.i = G.constant_full c.loop-i.invariant.1.going c.loop-i-test.true (rw c.in-Constant.is at c.item_at.ensures).0 c.if-depth-ge-STACK_MOST-3.true in
    rw y (record { answer = refl; output = tt; within = λ _ _. c.loop-i-test.true })

pub loop-i-smaller-in-Constant : goal.loop-i-smaller-in-Constant
loop-i-smaller-in-Constant c = omega (arith, c.loop-i-test.true, G.going_leads c.loop-i.invariant.1.going _ (rw c.in-Constant.is at c.item_at.ensures).0 c.loop-i-test.true)

pub loop-i-preserved-in-Constant : goal.loop-i-preserved-in-Constant
loop-i-preserved-in-Constant c =
    let g = T.constant_pushed c.loop-i.invariant.1 c.loop-i-test.true (rw c.in-Constant.is at c.item_at.ensures).0 c.if-depth-ge-STACK_MOST-3.false in
    let e : to_z w32 (of_z w32 c.in-Constant.value) ≡ c.in-Constant.value = search rules in
    (c.loop-i.invariant.0, rw e g)

pub loop-i-preserved-in-Increment : goal.loop-i-preserved-in-Increment
loop-i-preserved-in-Increment c = (c.loop-i.invariant.0, rw (c.raised.ensures, c.raised-in-Increment.ensures, get_or-set_other c.loop-i.given 0 1 c.raised.result T.no_argument (λ e. omega arith)) (T.incremented_gone c.loop-i.invariant.1 c.loop-i-test.true (rw c.in-Increment.is at c.item_at.ensures).0))

pub returns-then-depth-lt1-2 : goal.returns-then-depth-lt1-2
returns-then-depth-lt1-2 c =
    let y : run c.args.s.now (values_of c.args.texts.now c.args.arguments) c.args.lasting.now ≡ failed 15 c.loop-i.i = G.text_empty c.loop-i.invariant.1.going c.loop-i-test.true (rw c.in-Text.is at c.item_at.ensures).0 c.if-depth-lt1-2.true in
    rw y (record { answer = refl; output = tt; within = λ _ _. c.loop-i-test.true })

pub returns-in_default-stack-2 : goal.returns-in_default-stack-2
returns-in_default-stack-2 c =
    let y : run c.args.s.now (values_of c.args.texts.now c.args.arguments) c.args.lasting.now ≡ failed 21 c.loop-i.i = G.text_other c.loop-i.invariant.1.going c.loop-i-test.true (rw c.in-Text.is at c.item_at.ensures).0 c.if-depth-lt1-2.false (ap is_text (T.element_is c.loop-i.invariant.1 _ c.in_default-stack-2.is)) in
    rw y (record { answer = refl; output = tt; within = λ _ _. c.loop-i-test.true })

pub put_text-requires : goal.put_text-requires
put_text-requires c = (omega (arith, T.running_room c.loop-i.invariant.1 c.requires.0), (T.text_judged c.loop-i.invariant.1 _ c.in-Text-stack.is).1, (T.text_judged c.loop-i.invariant.1 _ c.in-Text-stack.is).0)

pub overflow_add-length-in-Text : goal.overflow_add-length-in-Text
overflow_add-length-in-Text c = omega (arith, T.running_room c.loop-i.invariant.1 c.requires.0, (T.text_judged c.loop-i.invariant.1 _ c.in-Text-stack.is).1)

pub loop-i-preserved-in-Text : goal.loop-i-preserved-in-Text
loop-i-preserved-in-Text c = (_, T.text_gone c.loop-i.invariant.1 c.loop-i-test.true (rw c.in-Text.is at c.item_at.ensures).0 c.if-depth-lt1-2.false c.in-Text-stack.is c.put_text.ensures)

pub returns-then-depth-lt1-3 : goal.returns-then-depth-lt1-3
returns-then-depth-lt1-3 c =
    let y : run c.args.s.now (values_of c.args.texts.now c.args.arguments) c.args.lasting.now ≡ failed 15 c.loop-i.i = G.length_empty c.loop-i.invariant.1.going c.loop-i-test.true (rw c.in-Length.is at c.item_at.ensures).0 c.if-depth-lt1-3.true in
    rw y (record { answer = refl; output = tt; within = λ _ _. c.loop-i-test.true })

pub returns-in_default-stack-3 : goal.returns-in_default-stack-3
returns-in_default-stack-3 c =
    let y : run c.args.s.now (values_of c.args.texts.now c.args.arguments) c.args.lasting.now ≡ failed 21 c.loop-i.i = G.length_other c.loop-i.invariant.1.going c.loop-i-test.true (rw c.in-Length.is at c.item_at.ensures).0 c.if-depth-lt1-3.false (ap is_text (T.element_is c.loop-i.invariant.1 _ c.in_default-stack-3.is)) in
    rw y (record { answer = refl; output = tt; within = λ _ _. c.loop-i-test.true })

pub overflow_cast-stack : goal.overflow_cast-stack
overflow_cast-stack c = record { sfits = omega (arith, (T.text_judged c.loop-i.invariant.1 _ c.in-Text-stack-2.is).1) }

pub loop-i-preserved-in-Length : goal.loop-i-preserved-in-Length
loop-i-preserved-in-Length c = (c.loop-i.invariant.0, rw (to_z_pos w32 {n = c.in-Text-stack-2.n} (omega (arith, (T.text_judged c.loop-i.invariant.1 _ c.in-Text-stack-2.is).1))) (T.length_gone c.loop-i.invariant.1 c.loop-i-test.true (rw c.in-Length.is at c.item_at.ensures).0 c.if-depth-lt1-3.false c.in-Text-stack-2.is))

pub loop-i-preserved-in-If : goal.loop-i-preserved-in-If
loop-i-preserved-in-If c = (_, T.kept c.loop-i.invariant.1 (G.if_gone c.loop-i.invariant.1.going c.loop-i-test.true (rw c.in-If.is at c.item_at.ensures).0))

pub loop-i-preserved-in-End : goal.loop-i-preserved-in-End
loop-i-preserved-in-End c = (_, T.kept c.loop-i.invariant.1 (G.end_gone c.loop-i.invariant.1.going c.loop-i-test.true (rw c.in-End.is at c.item_at.ensures).0))

pub pass-i-requires-in-Else : goal.pass-i-requires-in-Else
pass-i-requires-in-Else c = (c.requires.0, G.else_open c.loop-i.invariant.1.going c.loop-i-test.true (rw c.in-Else.is at c.item_at.ensures).0)

pub loop-i-smaller-in-Else : goal.loop-i-smaller-in-Else
loop-i-smaller-in-Else c = omega (arith, c.loop-i-test.true, G.else_further c.loop-i.invariant.1.going c.loop-i-test.true (rw c.in-Else.is at c.item_at.ensures).0 c.pass-i-in-Else.ensures)

pub loop-i-preserved-in-Else : goal.loop-i-preserved-in-Else
loop-i-preserved-in-Else c = (_, T.kept c.loop-i.invariant.1 (G.else_past c.loop-i.invariant.1.going c.loop-i-test.true (rw c.in-Else.is at c.item_at.ensures).0 c.pass-i-in-Else.ensures))

pub returns-then-depth-lt1-4 : goal.returns-then-depth-lt1-4
returns-then-depth-lt1-4 c =
    let y : run c.args.s.now (values_of c.args.texts.now c.args.arguments) c.args.lasting.now ≡ failed 15 c.loop-i.i = G.then_empty c.loop-i.invariant.1.going c.loop-i-test.true (rw c.in-Then.is at c.item_at.ensures).0 c.if-depth-lt1-4.true in
    rw y (record { answer = refl; output = tt; within = λ _ _. c.loop-i-test.true })

pub pass-i-requires-then-v-eq0-2 : goal.pass-i-requires-then-v-eq0-2
pass-i-requires-then-v-eq0-2 c = (c.requires.0, G.then_open c.loop-i.invariant.1.going c.loop-i-test.true (rw c.in-Then.is at c.item_at.ensures).0)

pub loop-i-smaller-then-v-eq0-2 : goal.loop-i-smaller-then-v-eq0-2
loop-i-smaller-then-v-eq0-2 c = omega (arith, c.loop-i-test.true, G.then_further c.loop-i.invariant.1.going c.loop-i-test.true (rw c.in-Then.is at c.item_at.ensures).0 c.pass-i-then-v-eq0-2.ensures)

pub loop-i-preserved-then-v-eq0-2 : goal.loop-i-preserved-then-v-eq0-2
loop-i-preserved-then-v-eq0-2 c = (_, T.kept c.loop-i.invariant.1 (G.then_past c.loop-i.invariant.1.going c.loop-i-test.true (rw c.in-Then.is at c.item_at.ensures).0 c.if-depth-lt1-4.false (T.element_is c.loop-i.invariant.1 _ c.in-Number-stack-2.is) (zero_yes c.in-Number-stack-2.v (search rules) c.if-v-eq0-2.true) c.pass-i-then-v-eq0-2.ensures))

pub loop-i-preserved-else-v-eq0-2 : goal.loop-i-preserved-else-v-eq0-2
loop-i-preserved-else-v-eq0-2 c = (_, T.kept c.loop-i.invariant.1 (G.then_gone c.loop-i.invariant.1.going c.loop-i-test.true (rw c.in-Then.is at c.item_at.ensures).0 c.if-depth-lt1-4.false (T.element_is c.loop-i.invariant.1 _ c.in-Number-stack-2.is) (zero_no c.in-Number-stack-2.v c.if-v-eq0-2.false)))

pub returns-in_default-stack-4 : goal.returns-in_default-stack-4
returns-in_default-stack-4 c =
    let y : run c.args.s.now (values_of c.args.texts.now c.args.arguments) c.args.lasting.now ≡ failed 21 c.loop-i.i = G.then_other c.loop-i.invariant.1.going c.loop-i-test.true (rw c.in-Then.is at c.item_at.ensures).0 c.if-depth-lt1-4.false (ap is_text (T.element_is c.loop-i.invariant.1 _ c.in_default-stack-4.is)) in
    rw y (record { answer = refl; output = tt; within = λ _ _. c.loop-i-test.true })

pub returns-then-depth-pops : goal.returns-then-depth-pops
returns-then-depth-pops c =
    let y : run c.args.s.now (values_of c.args.texts.now c.args.arguments) c.args.lasting.now ≡ failed 15 c.loop-i.i = G.going_empty c.loop-i.invariant.1.going _ (rw c.in-Other.is at c.item_at.ensures).0 c.loop-i-test.true (omega (arith, c.arity-pops.ensures, c.if-depth-pops.true)) in
    rw y (record { answer = refl; output = tt; within = λ _ _. c.loop-i-test.true })

pub returns-in_default-stack-5 : goal.returns-in_default-stack-5
returns-in_default-stack-5 c =
    let y : run c.args.s.now (values_of c.args.texts.now c.args.arguments) c.args.lasting.now ≡ failed 21 c.loop-i.i = G.going_other c.loop-i.invariant.1.going _ (rw c.in-Other.is at c.item_at.ensures).0 c.loop-i-test.true (omega (arith, c.arity-pops.ensures, c.if-depth-pops.false)) (G.simple_top _ _ _ (rw c.in-Other.is at c.item_at.ensures).1 (omega (arith, c.arity-pops.ensures, c.if-depth-pops.false)) (omega (arith, c.arity-pops.ensures, c.if-pops-gt0.true)) (ap is_text (T.element_is c.loop-i.invariant.1 _ c.in_default-stack-5.is))) in
    rw y (record { answer = refl; output = tt; within = λ _ _. c.loop-i-test.true })

pub returns-in_default-stack-6 : goal.returns-in_default-stack-6
returns-in_default-stack-6 c =
    let y : run c.args.s.now (values_of c.args.texts.now c.args.arguments) c.args.lasting.now ≡ failed 21 c.loop-i.i = G.going_other c.loop-i.invariant.1.going _ (rw c.in-Other.is at c.item_at.ensures).0 c.loop-i-test.true (omega (arith, c.arity-pops.ensures, c.if-depth-pops.false)) (G.simple_below _ _ _ (rw c.in-Other.is at c.item_at.ensures).1 (omega (arith, c.arity-pops.ensures, c.if-depth-pops.false)) (omega (arith, c.arity-pops.ensures, c.if-pops-gt1.true)) (T.element_is c.loop-i.invariant.1 _ c.in-Number-stack-3.is) (ap is_text (T.element_is c.loop-i.invariant.1 _ c.in_default-stack-6.is))) in
    rw y (record { answer = refl; output = tt; within = λ _ _. c.loop-i-test.true })

pub take-requires : goal.take-requires
take-requires c = (omega (arith, T.running_room c.loop-i.invariant.1 c.requires.0), (rw c.in-Other.is at c.item_at.ensures).1)

pub loop-i-smaller-in-Go : goal.loop-i-smaller-in-Go
loop-i-smaller-in-Go c = omega (arith, c.loop-i-test.true, G.going_leads c.loop-i.invariant.1.going _ (rw c.in-Other.is at c.item_at.ensures).0 c.loop-i-test.true)

pub loop-i-preserved-in-Go : goal.loop-i-preserved-in-Go
loop-i-preserved-in-Go c =
    (_, T.kept c.loop-i.invariant.1 (G.step_gone c.loop-i.invariant.1.going _ (rw c.in-Other.is at c.item_at.ensures).0 c.loop-i-test.true (popped (goal.at.loop-i-preserved-in-Go c).After-take (rw c.in-Other.is at c.item_at.ensures).1) (rw c.in-Other.is at c.item_at.ensures).1 c.take.ensures c.in-Go.is (G.value_of c.if-pops-gt0.b-bits)))

pub returns-then-depth-ge-STACK_MOST-4 : goal.returns-then-depth-ge-STACK_MOST-4
returns-then-depth-ge-STACK_MOST-4 c =
    let y : run c.args.s.now (values_of c.args.texts.now c.args.arguments) c.args.lasting.now ≡ failed 16 c.loop-i.i = G.step_full c.loop-i.invariant.1.going _ (rw c.in-Other.is at c.item_at.ensures).0 c.loop-i-test.true (popped (goal.at.returns-then-depth-ge-STACK_MOST-4 c).After-take (rw c.in-Other.is at c.item_at.ensures).1) (rw c.in-Other.is at c.item_at.ensures).1 c.take.ensures c.in-Push.is c.if-depth-ge-STACK_MOST-4.true in
    rw y (record { answer = refl; output = tt; within = λ _ _. c.loop-i-test.true })

pub loop-i-smaller : goal.loop-i-smaller
loop-i-smaller c = omega (arith, c.loop-i-test.true, G.going_leads c.loop-i.invariant.1.going _ (rw c.in-Other.is at c.item_at.ensures).0 c.loop-i-test.true)

pub loop-i-preserved : goal.loop-i-preserved
loop-i-preserved c =
    let g = T.pushed c.loop-i.invariant.1 (O.Number c.in-Push.v) c.if-pops-gt0.depth T.number_fit refl (G.step_pushed c.loop-i.invariant.1.going _ (rw c.in-Other.is at c.item_at.ensures).0 c.loop-i-test.true (popped (goal.at.loop-i-preserved c).After-take (rw c.in-Other.is at c.item_at.ensures).1) (rw c.in-Other.is at c.item_at.ensures).1 c.take.ensures c.in-Push.is c.if-depth-ge-STACK_MOST-4.false) in
    let e : to_z w32 (of_z w32 c.in-Push.v) ≡ c.in-Push.v = search rules in
    (c.loop-i.invariant.0, rw e g)

pub returns : goal.returns
returns c =
    let y : run c.args.s.now (values_of c.args.texts.now c.args.arguments) c.args.lasting.now ≡ finished (over (stack_of c.args.texts.now c.loop-i.stack) c.loop-i.depth (values_of c.args.texts.now c.loop-i.given) c.loop-i.locals c.loop-i.lasting) c.loop-i.invariant.0 c.loop-i.steps = G.going_done c.loop-i.invariant.1.going c.loop-i-test.false in
    rw y (record { answer = (ap (λ (n : ℕ). Ok (record { length = n; steps = c.loop-i.steps })) c.loop-i.invariant.1.going.counted, refl); output = c.loop-i.invariant.1.going.output; within = G.going_within c.loop-i.invariant.1.going })
