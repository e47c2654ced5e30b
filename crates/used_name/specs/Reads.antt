-- What reading the name in a use answers.
-- Assumes nothing.
use Rattle.std.specs.Prelude.{◌≡◌, List, ℕ, ◌≤◌, ◌<◌, length, take, Option, None, Some}
use Rattle.text.specs.Heading.{alias_most}
use Rattle.text.specs.Strings.{malformed, read_at, read_bytes}

-- the string at start of the text t was read into name; what is long need not be read to its end
abbrev pub ReadsName : Option ℕ → (t : List ℕ) → (start : ℕ) → (name : List ℕ) → Type 0
ReadsName (Some n) t start name = (n ≤ alias_most) × (take n name ≡ read_bytes (read_at t start))
ReadsName None t start name = (read_at t start ≡ malformed → ⊥) → alias_most < length (read_bytes (read_at t start))
