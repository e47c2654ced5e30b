-- Decimal digits, and the last of them in pairs.
-- Assumes nothing.
use Rattle.std.specs.Prelude.{List, [], ◌++◌, ℕ, zero, suc, ◌/◌, ◌%◌, ◌^◌, get_or}
use Prim.Native.Char.{code}
use Rattle.expansion.specs.Print.{digits}
use Rattle.digit_pairs.specs.Pairs.{pairs}

-- the digits of n in base 10, which has no letters
abbrev pub decimal_digits : ℕ → List ℕ
decimal_digits n = digits 10 (code "a") n

-- the last r pairs of digits of n, the highest first
unfoldable pub last_pairs : ℕ → ℕ → List ℕ
last_pairs zero n = []
last_pairs (suc r) n = get_or pairs (n / 100 ^ r % 100) [] ++ last_pairs r n
