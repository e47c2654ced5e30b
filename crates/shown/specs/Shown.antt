-- Bytes as people read them.
-- Assumes nothing.
use Rattle.std.specs.Prelude.{Bool, false, not, List, [], ◌∷◌, ◌++◌, ℕ, ◌+◌, ◌/◌, ◌%◌, eqb, ltb}
use Rattle.base.specs.If.{when◌then◌else◌}

-- a byte stands for itself from least to 126, the backslash (92) apart
unfoldable pub is_plain : ℕ → ℕ → Bool
is_plain least c = when ltb c least then false else when ltb 126 c then false else not (eqb c 92)

-- a backslash and three octal digits
unfoldable pub octal : ℕ → List ℕ
octal c = 92 ∷ (48 + c / 64) ∷ (48 + c / 8 % 8) ∷ (48 + c % 8) ∷ []

unfoldable pub shown_byte : ℕ → ℕ → List ℕ
shown_byte least c = when is_plain least c then c ∷ [] else octal c

unfoldable pub shown : ℕ → List ℕ → List ℕ
shown least [] = []
shown least (c ∷ s) = shown_byte least c ++ shown least s
