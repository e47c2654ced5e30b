-- What a call answers and leaves in the buffer.
-- Assumes nothing.
use Rattle.std.specs.Prelude.{List, ℕ, length}
use Rattle.edition.specs.declared.Edition.{Edition}
use Rattle.base.specs.Answer.{Answer, Leaves}
use Rattle.entry.specs.Writing.{fitting}
use Rattle.entry.specs.Merging.{merging}

-- the buffer b before the call and c after it, and what the call says of the file f
abbrev pub Fitted : List ℕ → (b c : List ℕ) → Answer ℕ → Type 0
Fitted f b c says = Leaves (fitting (length b) f) b c says

abbrev pub Merges : Edition → List ℕ → List ℕ → (b c : List ℕ) → Answer ℕ → Type 0
Merges e x y b c says = Leaves (merging e x y (length b)) b c says
