-- What a call of the writer answers and leaves.
-- Assumes nothing.
use Rattle.std.specs.Prelude.{◌≡◌, true, List, ℕ, length}
use Rattle.base.specs.Scan.{every}
use Rattle.edition.specs.declared.Edition.{Edition}
use Rattle.base.specs.Answer.{Answer, Leaves}
use Rattle.entry.specs.Writing.{Handed, enough_states, names_fit, is_lent, writing}

-- neither 3 nor 4 nor 7
pub record LimitsPassed (e : Edition) (h : Handed) : Type 0 where
  pub enough : enough_states e h ≡ true
  pub named : names_fit h.names ≡ true
  pub lent : every (is_lent h) e.strings ≡ true

-- the answer is what writing says, and after is what it leaves of the buffer
abbrev pub Wrote : Edition → Handed → (before after : List ℕ) → Answer ℕ → Type 0
Wrote e h before after says = Leaves (writing e h (length before)) before after says
