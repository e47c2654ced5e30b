-- 32-bit signed values (document 01: Expansion). A value is a ℤ from -2,147,483,648 to 2,147,483,647.
-- Assumes nothing.
use Rattle.std.specs.Prelude.{ℕ, ◌-◌, ◌%◌, ◌^◌, Bool, false, ℤ, pos, negsuc, ◌+ℤ◌, ◌-ℤ◌, ◌*ℤ◌, ◌==◌, int_div, int_rem}
use Rattle.std.specs.Int.{w32}
use Rattle.std.proofs.Common.{to_z}
use Rattle.base.specs.If.{when◌then◌else◌}

abbrev pub is_zero : ℤ → Bool
is_zero (pos n) = n == 0
is_zero (negsuc n) = false

-- the value mod 2^32
unfoldable pub low32 : ℤ → ℕ
low32 (pos n) = n % 2 ^ 32
low32 (negsuc n) = 2 ^ 32 - 1 - n % 2 ^ 32

-- the 32-bit value that is equal mod 2^32
unfoldable pub wrap : ℤ → ℤ
unfolding low32
wrap z = to_z w32 (low32 z)

-- "sums, differences and products wrap"
unfoldable pub add : ℤ → ℤ → ℤ
unfolding wrap
add a b = wrap (a +ℤ b)

unfoldable pub subtract : ℤ → ℤ → ℤ
unfolding wrap
subtract a b = wrap (a -ℤ b)

unfoldable pub multiply : ℤ → ℤ → ℤ
unfolding wrap
multiply a b = wrap (a *ℤ b)

-- "Division truncates to zero; a zero divisor gives 0; -2,147,483,648 by -1 gives itself"
unfoldable pub divide : ℤ → ℤ → ℤ
unfolding wrap
divide a b = when is_zero b then pos 0 else wrap (int_div a b)

-- "remainder 0; a remainder other than 0 has the left operand's sign"; a zero divisor gives 0
unfoldable pub remainder : ℤ → ℤ → ℤ
remainder a b = when is_zero b then pos 0 else int_rem a b
