-- What `%c` prints (document 02, 2026-04).
-- Assumes nothing.
use Rattle.std.specs.Prelude.{ℕ, ◌%◌, eqb, ℤ}
use Rattle.base.specs.If.{when◌then◌else◌}
use Rattle.signed.specs.Signed.{low32}

-- "`%c` of a value that is 0 mod 256 now gives byte 128; all other values as before": "`%c` (value mod 256, one byte)"
unfoldable pub character : ℤ → ℕ
character v = when eqb (low32 v % 256) 0 then 128 else low32 v % 256
