use mathlib.Core.Logic.{⊎_elim}
use Rattle.text_numbers.proofs.first_digit.Goals as goal

pub returns-in-Octal : goal.returns-in-Octal
returns-in-Octal c = ⊎_elim (λ e. rw e) (λ e. rw e) c.in-Octal.is

pub returns-in-Hexadecimal : goal.returns-in-Hexadecimal
returns-in-Hexadecimal c = rw c.in-Hexadecimal.is
