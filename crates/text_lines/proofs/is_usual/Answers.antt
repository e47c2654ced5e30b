use mathlib.Core.Path.{refl, sym, ◌∙◌}
use native.Mathlib.Omega.{arith}
use lib.Dec.{eqb}
use borrow.Author.Tests.{eq-eqb, ne_eqb}
use Rattle.text_laws.specs.Runs.{within}
use Rattle.text_lines.specs.Usual.{is_usual}
use Rattle.text_lines.proofs.is_usual.Goals as goal

pub overflow_add-at : goal.overflow_add-at
overflow_add-at c = omega (arith, within (λ b. eqb b 10) refl c.args.text.now c.args.at (eq-eqb _ 10 (sym c.byte_at.ensures ∙ c.if-byte_at-eq10.true)))

pub overflow_add-at-then-byte_at-eq9 : goal.overflow_add-at-then-byte_at-eq9
overflow_add-at-then-byte_at-eq9 c = omega (arith, within (λ b. eqb b 10) refl c.args.text.now c.args.at (eq-eqb _ 10 (sym c.byte_at.ensures ∙ c.if-byte_at-eq10.true)))

pub returns-then-byte_at-eq9 : goal.returns-then-byte_at-eq9
unfolding is_usual
returns-then-byte_at-eq9 c = rw (← c.byte_at.ensures, eq-eqb _ 10 c.if-byte_at-eq10.true, ← c.byte_at-then-byte_at-eq10.ensures, eq-eqb _ 9 c.if-byte_at-eq9.true, c.byte_at-then-byte_at-eq9.ensures)

pub returns-else-byte_at-eq9 : goal.returns-else-byte_at-eq9
unfolding is_usual
returns-else-byte_at-eq9 c = rw (← c.byte_at.ensures, eq-eqb _ 10 c.if-byte_at-eq10.true, ← c.byte_at-then-byte_at-eq10.ensures, ne_eqb _ 9 c.if-byte_at-eq9.false)

pub returns-else-byte_at-eq10 : goal.returns-else-byte_at-eq10
unfolding is_usual
returns-else-byte_at-eq10 c = rw (← c.byte_at.ensures, ne_eqb _ 10 c.if-byte_at-eq10.false)
