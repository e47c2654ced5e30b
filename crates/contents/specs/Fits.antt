-- When a string's bytes can be put.
-- Assumes nothing.
use Rattle.std.specs.Prelude.{◌≡◌, List, ℕ, ◌+◌, ◌≤◌, length}
use Rattle.text.specs.Strings.{malformed, read_at, read_bytes}

-- a string stands at from, for size bytes, which have room in b from at on
pub record Fits (b : List ℕ) (at : ℕ) (t : List ℕ) (from size : ℕ) : Type 0 where
  pub whole : read_at t from ≡ malformed → ⊥
  pub counted : size ≡ length (read_bytes (read_at t from))
  pub room : at + size ≤ length b
