-- What the calls for C that expand answer, and what they leave (include/terminfo_c.h says the same in words).
-- Assumes nothing.
use Rattle.std.specs.Prelude.{◌≡◌, List, ℕ, ℤ}
use Rattle.base.specs.Answer.{Answer, map_answer}
use Rattle.expansion.specs.Expanding.{Expanding, counted, lasting_after, output_after}
use Rattle.c_numbers.specs.Numbers.{numbered, counts_code}

-- the number, the lasting variables and the buffer that expanding leaves
pub record ExpandedNumber (a : Answer Expanding) (before after : List ℤ) (b : List ℕ) (at : ℕ) (b' : List ℕ) (r : ℕ) :
    Type 0 where
  pub number : r ≡ numbered counts_code (map_answer counted a)
  pub lasting : after ≡ lasting_after before a
  pub output : b' ≡ output_after b at a
