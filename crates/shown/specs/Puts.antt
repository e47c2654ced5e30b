-- Bytes put into a buffer from a place on, run by run, and the laws that a writer of a line follows.
-- Assumes nothing.
use Rattle.std.specs.Prelude.{◌≡◌, List, ℕ, ◌+◌, ◌≤◌, length, take}
use Rattle.io.specs.Counts.{IsPrefixLen}
use Rattle.base.specs.Overwrite.{put_at}

-- b is b₀ with xs from place at on; end is the place behind them, and they are no more than most
pub record Puts (b₀ b : List ℕ) (at : ℕ) (xs : List ℕ) (most end : ℕ) : Type 0 where
  pub buffer : b ≡ put_at b₀ at xs
  pub behind : end ≡ at + length xs
  pub few : end ≤ at + most

-- the first n bytes of b are xs
abbrev pub Holds : ℕ → List ℕ → List ℕ → Type 0
Holds n b xs = (take n b ≡ xs) × IsPrefixLen n b
