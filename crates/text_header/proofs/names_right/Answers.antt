use mathlib.Core.Path.{refl, sym, ◌∙◌}
use native.Mathlib.Omega.{arith}
use Rattle.text_laws.specs.FieldLaws.{byte_within}
use Rattle.text_laws.specs.HeadingLaws.{names_start, names_bar, names_last}
use Rattle.text_header.proofs.names_right.Goals as goal

pub loop-at-init : goal.loop-at-init
loop-at-init c = names_start c.args.names.now

pub returns-then-end-at : goal.returns-then-end-at
returns-then-end-at c = c.last_right.ensures ∙ names_last c.args.names.now c.loop-at.several c.loop-at.at c.run_end-end.result c.run_end-end.ensures c.loop-at.invariant (λ l _. omega arith)

pub returns-then-byte_at-ne124 : goal.returns-then-byte_at-ne124
returns-then-byte_at-ne124 c = c.last_right-then-byte_at-ne124.ensures ∙ names_last c.args.names.now c.loop-at.several c.loop-at.at c.run_end-end.result c.run_end-end.ensures c.loop-at.invariant (λ _ h. c.if-byte_at-ne124.true (c.byte_at.ensures ∙ h))

pub overflow_add-at : goal.overflow_add-at
overflow_add-at c = omega (arith, byte_within c.args.names.now c.run_end-end.result 124 refl (sym c.byte_at.ensures ∙ c.if-byte_at-ne124.false))

pub loop-at-smaller : goal.loop-at-smaller
loop-at-smaller c = omega (arith, byte_within c.args.names.now c.run_end-end.result 124 refl (sym c.byte_at.ensures ∙ c.if-byte_at-ne124.false))

pub loop-at-preserved : goal.loop-at-preserved
loop-at-preserved c = names_bar c.args.names.now c.loop-at.several c.loop-at.at c.run_end-end.result c.run_end-end.ensures c.loop-at.invariant c.if-end-at.false (sym c.byte_at.ensures ∙ c.if-byte_at-ne124.false)
