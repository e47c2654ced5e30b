-- `item_classes::format_class` meets its contract: the arms are the definition's tests, at the byte read.
-- Assumes nothing.
use mathlib.Core.Path.{sym}
use mathlib.Core.Logic.{⊎_elim, inl, inr}
use borrow.Author.Tests.{ne_eqb}
use Rattle.expansion.specs.Items.{format_at}
use Rattle.expansion.specs.Form.{class_of}
use Rattle.item_classes.proofs.format_class.Goals as goal

pub returns-in-100 : goal.returns-in-100
unfolding format_at class_of
returns-in-100 c =
    let e = sym c.byte_at-c.ensures in
    λ zero width. rw e (⊎_elim (λ q. rw q) (⊎_elim (λ q. rw q) (⊎_elim (λ q. rw q) (λ q. rw q))) c.in-100.is)

pub returns-in_default : goal.returns-in_default
unfolding format_at class_of
returns-in_default c =
    let x = c.byte_at-c.result in
    let r = c.in_default.in_default-own.rest.1 in
    λ zero width. rw (← c.byte_at-c.ensures, ne_eqb x 100 (λ q. r (inr (inl q))), ne_eqb x 111 (λ q. r (inr (inr (inl q)))), ne_eqb x 120 (λ q. r (inr (inr (inr q)))), ne_eqb x 88 (λ q. r (inl q)))
