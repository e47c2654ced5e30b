use Rattle.std.proofs.lemmas.Bool.Decides.{nat_tests}
use Rattle.std.proofs.lemmas.Grind.{common_steps}
use native.Mathlib.Omega.{arith}
use mathlib.Core.Logic.{⊎_elim}
use borrow.Author.Tests.{ne_eqb}
use Rattle.text_numbers.specs.Bases.{base_at}
use Rattle.text_numbers.proofs.base_at.Goals as goal

pub returns-then-byte_at-ne48 : goal.returns-then-byte_at-ne48
unfolding base_at
returns-then-byte_at-ne48 c = rw (← c.byte_at.ensures, ne_eqb c.byte_at.result 48 c.if-byte_at-ne48.true)

pub returns-in-120 : goal.returns-in-120
unfolding base_at
returns-in-120 c = rw (← c.byte_at.ensures, c.if-byte_at-ne48.false, ← c.byte_at-2.ensures) (⊎_elim (λ e. rw e) (λ e. rw e) c.in-120.is)

pub returns-in_default : goal.returns-in_default
unfolding base_at
returns-in_default c = let e = c.byte_at-2.ensures in rw (← c.byte_at.ensures, c.if-byte_at-ne48.false, ← e) (grind (arith, nat_tests, common_steps))
