use borrow.Author.Tests.{ne_eqb}
use mathlib.Core.Logic.{⊎_elim, inl, inr}
use Rattle.text.specs.Strings.{letter_of}
use Rattle.escapes.proofs.letter.Goals as goal

pub returns-in-69 : goal.returns-in-69
unfolding letter_of
returns-in-69 c = ⊎_elim (λ e. rw e) (λ e. rw e) c.in-69.is

pub returns-in-110 : goal.returns-in-110
unfolding letter_of
returns-in-110 c = ⊎_elim (λ e. rw e) (λ e. rw e) c.in-110.is

pub returns-in-114 : goal.returns-in-114
unfolding letter_of
returns-in-114 c = rw c.in-114.is

pub returns-in-116 : goal.returns-in-116
unfolding letter_of
returns-in-116 c = rw c.in-116.is

pub returns-in-98 : goal.returns-in-98
unfolding letter_of
returns-in-98 c = rw c.in-98.is

pub returns-in-102 : goal.returns-in-102
unfolding letter_of
returns-in-102 c = rw c.in-102.is

pub returns-in-115 : goal.returns-in-115
unfolding letter_of
returns-in-115 c = rw c.in-115.is

pub returns-in-94 : goal.returns-in-94
unfolding letter_of
returns-in-94 c = ⊎_elim (λ e. rw e) (⊎_elim (λ e. rw e) (⊎_elim (λ e. rw e) (λ e. rw e))) c.in-94.is

pub returns-in_default : goal.returns-in_default
unfolding letter_of
returns-in_default c =
    let other = c.in_default.in_default-own.rest in
    simp (
      ne_eqb _ _ (λ e. other.0.0.0.0.0.0.0.1 (inl e)),
      ne_eqb _ _ (λ e. other.0.0.0.0.0.0.0.1 (inr e)),
      ne_eqb _ _ (λ e. other.0.0.0.0.0.0.1 (inl e)),
      ne_eqb _ _ (λ e. other.0.0.0.0.0.0.1 (inr e)),
      ne_eqb _ _ other.0.0.0.0.0.1,
      ne_eqb _ _ other.0.0.0.0.1,
      ne_eqb _ _ other.0.0.0.1,
      ne_eqb _ _ other.0.0.1,
      ne_eqb _ _ other.0.1,
      ne_eqb _ _ (λ e. other.1 (inl e)),
      ne_eqb _ _ (λ e. other.1 (inr (inl e))),
      ne_eqb _ _ (λ e. other.1 (inr (inr (inl e)))),
      ne_eqb _ _ (λ e. other.1 (inr (inr (inr e)))),
    )
