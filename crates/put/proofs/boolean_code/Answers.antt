-- `put::boolean_code` meets its contract: each test decides the kind.
-- Assumes nothing.
use borrow.Author.Tests.{eq-eqb, ne_eqb}
use Rattle.entry.specs.State.{boolean_code}
use Rattle.entry.specs.Writing.{state_of}
use Rattle.put.proofs.boolean_code.Goals as goal

pub returns-then-kind-eq-ABSENT : goal.returns-then-kind-eq-ABSENT
unfolding state_of boolean_code
returns-then-kind-eq-ABSENT c = simp (eq-eqb _ _ c.if-kind-eq-ABSENT.true)

pub returns-then-kind-eq-PRESENT : goal.returns-then-kind-eq-PRESENT
unfolding state_of boolean_code
returns-then-kind-eq-PRESENT c = simp (ne_eqb _ _ c.if-kind-eq-ABSENT.false, eq-eqb _ _ c.if-kind-eq-PRESENT.true)

pub returns : goal.returns
unfolding state_of boolean_code
returns c = simp (ne_eqb _ _ c.if-kind-eq-ABSENT.false, ne_eqb _ _ c.if-kind-eq-PRESENT.false)
