-- What the lines of `ti show` have in common: their end, what stands for a state, and room for any of them.
-- Assumes nothing.
use Rattle.std.specs.Prelude.{List, [], ◌∷◌, ◌++◌, ℕ, ◌+◌, ◌*◌, length}
use Rattle.base.specs.Answer.{Answer, refused, gives}
use Rattle.entry.specs.State.{State, absent, cancelled, present}

-- byte 10
abbrev pub line_end : List ℕ
line_end = 10 ∷ []

-- a capability's line, by its name, what is written of a value, and its state: a cancelled one has `@` (64), an
-- absent one no line
abbrev pub line_of : {A : Type 0} → List ℕ → (A → List ℕ) → Answer (State A) → List ℕ
line_of name value (refused n v) = []
line_of name value (gives absent) = []
line_of name value (gives cancelled) = name ++ (64 ∷ line_end)
line_of name value (gives (present x)) = name ++ (value x ++ line_end)

-- room for any line of a file: four bytes for each byte of a content that lies in it, and what stands around it
abbrev pub line_room : List ℕ → ℕ
line_room f = 4 * length f + 128
