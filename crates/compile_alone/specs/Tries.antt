-- The answer where a text may have one description alone.
-- Assumes nothing.
use Rattle.std.specs.Prelude.{◌≡◌, List, ℕ, Option, Some, None, Result}
use Rattle.base.specs.Answer.{Answer, Leaves}
use Rattle.text.specs.declared.CompileRefusal.{CompileRefusal}
use Rattle.text.specs.Compiling.{says_compiled}

-- a is what compiling gives; b is the buffer before the call and c after it
abbrev pub Tries : Answer (List ℕ) → (b c : List ℕ) → Option (Result ℕ CompileRefusal) → Type 0
Tries a b c (Some k) = Leaves a b c (says_compiled k)
Tries a b c None = c ≡ b
