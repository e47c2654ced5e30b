-- `judge::is_lent` meets its contract: the sum is tested by a difference, which cannot wrap.
-- Assumes nothing.
use Prim.Native.Nat.{◌+◌}
use native.Mathlib.Omega.{arith}
use borrow.Author.Tests.{lt-leb, eq-eqb, ne_eqb}
use Rattle.write_laws.proofs.AnswerLaws.{leb_shift}
use Rattle.write_limits.proofs.is_lent.Goals as goal

pub returns-then-kind-ne-PRESENT : goal.returns-then-kind-ne-PRESENT
returns-then-kind-ne-PRESENT c = simp (ne_eqb _ _ c.if-kind-ne-PRESENT.true)

pub returns-then-lent-start : goal.returns-then-lent-start
returns-then-lent-start c =
    simp (eq-eqb _ _ c.if-kind-ne-PRESENT.false, lt-leb (c.args.start + c.args.size) c.args.lent (omega arith))

pub returns : goal.returns
returns c =
    simp (eq-eqb _ _ c.if-kind-ne-PRESENT.false) (leb_shift c.args.start c.args.size c.args.lent c.if-lent-start.false)
