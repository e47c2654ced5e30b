use borrow.Author.Tests.{lt-leb, eq-eqb, ne_eqb}
use mathlib.Core.Logic.{⊎_elim}
use Rattle.text.specs.Bytes.{is_blank, is_name, is_alias, is_last_name, is_in}
use native.Mathlib.Omega.{arith}
use Rattle.std.proofs.lemmas.Bool.Decides.{nat_tests}
use Rattle.std.proofs.lemmas.Grind.{common_steps}
use Rattle.text_bytes.proofs.is_in.Goals as goal

pub returns-then-b-eq32 : goal.returns-then-b-eq32
unfolding is_in is_blank
returns-then-b-eq32 c = rw c.in-Blank.is (simp (eq-eqb _ _ c.if-b-eq32.true))

pub returns-else-b-eq32 : goal.returns-else-b-eq32
unfolding is_in is_blank
returns-else-b-eq32 c = rw c.in-Blank.is (simp (ne_eqb _ _ c.if-b-eq32.false))

pub returns-in-44 : goal.returns-in-44
unfolding is_in is_name
returns-in-44 c = rw c.in-Name.is (⊎_elim (λ e. rw e) (⊎_elim (λ e. rw e) (⊎_elim (λ e. rw e) (λ e. rw e))) c.in-44.is)

pub returns-then-b-ge33 : goal.returns-then-b-ge33
unfolding is_in is_name
returns-then-b-ge33 c = rw c.in-Name.is (grind (arith, nat_tests, common_steps))

pub returns-else-b-ge33 : goal.returns-else-b-ge33
unfolding is_in is_name
returns-else-b-ge33 c = rw c.in-Name.is (simp (lt-leb _ _ c.if-b-ge33.false))

pub returns-in-44-b : goal.returns-in-44-b
unfolding is_in is_alias
returns-in-44-b c = rw c.in-Alias.is (⊎_elim (λ e. rw e) (⊎_elim (λ e. rw e) (λ e. rw e)) c.in-44-b.is)

pub returns-then-b-ge33-2 : goal.returns-then-b-ge33-2
unfolding is_in is_alias
returns-then-b-ge33-2 c = rw c.in-Alias.is (grind (arith, nat_tests, common_steps))

pub returns-else-b-ge33-2 : goal.returns-else-b-ge33-2
unfolding is_in is_alias
returns-else-b-ge33-2 c = rw c.in-Alias.is (simp (lt-leb _ _ c.if-b-ge33-2.false))

pub returns-in-44-b-2 : goal.returns-in-44-b-2
unfolding is_in is_last_name
returns-in-44-b-2 c = rw c.in-LastName.is (⊎_elim (λ e. rw e) (λ e. rw e) c.in-44-b-2.is)

pub returns-then-b-ge32 : goal.returns-then-b-ge32
unfolding is_in is_last_name
returns-then-b-ge32 c = rw c.in-LastName.is (grind (arith, nat_tests, common_steps))

pub returns-else-b-ge32 : goal.returns-else-b-ge32
unfolding is_in is_last_name
returns-else-b-ge32 c = rw c.in-LastName.is (simp (lt-leb _ _ c.if-b-ge32.false))

pub returns-in-Line : goal.returns-in-Line
unfolding is_in
returns-in-Line c = rw c.in-Line.is

pub returns-in-Header : goal.returns-in-Header
unfolding is_in
returns-in-Header c = rw c.in-Header.is

pub returns-in-Octal : goal.returns-in-Octal
unfolding is_in
returns-in-Octal c = rw (c.digit.ensures, c.in-Digit.is, c.in-Octal.is)

pub returns-in-Decimal : goal.returns-in-Decimal
unfolding is_in
returns-in-Decimal c = rw (c.digit-in-Decimal.ensures, c.in-Digit.is, c.in-Decimal.is)

pub returns-in-Hexadecimal : goal.returns-in-Hexadecimal
unfolding is_in
returns-in-Hexadecimal c = rw (c.digit-in-Hexadecimal.ensures, c.in-Digit.is, c.in-Hexadecimal.is)
