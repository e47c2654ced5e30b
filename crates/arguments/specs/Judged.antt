-- What the refusals of a call's texts leave, and a bound on texts.
-- Assumes nothing.
use Rattle.std.specs.Prelude.{List, ℕ, ◌+◌, ◌≤◌, length}
use Rattle.base.specs.Tabulate.{Each}
use Rattle.expansion.specs.Limits.{text_most}
use Rattle.expansion.specs.declared.Argument.{Argument}
use Rattle.expansion.specs.declared.Operand.{Operand}
use Rattle.expansion.specs.declared.Operand.TheVariants as O

-- what the refusals 17 and 1 of texts leave
abbrev pub Judged : List ℕ → Operand → Type 0
Judged lent (O.Number v) = Unit {0}
Judged lent (O.Text start n) = (start + n ≤ length lent) × (n ≤ text_most)

abbrev pub AllJudged : List ℕ → List Argument → Type 0
AllJudged lent arguments = Each (λ (a : Argument). Judged lent a.operand) arguments

-- no text has more than a number of bytes
abbrev pub NoLonger : ℕ → Operand → Type 0
NoLonger most (O.Number v) = Unit {0}
NoLonger most (O.Text start n) = n ≤ most

abbrev pub NoneLonger : ℕ → List Argument → Type 0
NoneLonger most arguments = Each (λ (a : Argument). NoLonger most a.operand) arguments
