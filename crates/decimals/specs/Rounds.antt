-- Document 02, 2026-03: "any value is done in at most five rounds" (a statement with its proof).
-- Assumes nothing.
use Rattle.std.specs.Prelude.{ℕ, ◌/◌, ◌^◌, ◌≤◌, ◌<◌, length}
use Rattle.std.proofs.Common.{arith}
use Rattle.expansion_laws.specs.DigitCount.{digits_ten}
use Rattle.decimals.specs.Decimals.{decimal_digits}

-- the rounds for a value: two of its digits in each, a first one that is left over besides
abbrev pub rounds_for : ℕ → ℕ
rounds_for n = length (decimal_digits n) / 2

abbrev pub rounds_most : ℕ
rounds_most = 5

pub rounds_five : (n : ℕ) → n < 2 ^ 32 → rounds_for n ≤ rounds_most
rounds_five n h = let t = digits_ten 97 n h in omega arith
