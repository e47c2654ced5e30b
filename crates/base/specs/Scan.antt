-- The first place that fails a test.
-- Assumes nothing.
use Rattle.std.specs.Prelude.{Bool, ℕ, zero, suc, eqb}
use Rattle.base.specs.If.{when◌then◌else◌}

-- of the k places from i on, the first that fails the test; i + k where none does
unfoldable pub scan : (ℕ → Bool) → ℕ → ℕ → ℕ
scan ok i zero = i
scan ok i (suc k) = when ok i then scan ok (suc i) k else i

-- the test passes at every place below n
abbrev pub every : (ℕ → Bool) → ℕ → Bool
every ok n = eqb (scan ok 0 n) n
