-- `signed::wrapping_subtract` meets its contract: the bits of the difference are the one number below 2^32 that leads
-- back to the left operand's bits.
-- Assumes nothing.
use Rattle.std.proofs.Common.{ℕ, ◌+◌, ◌-◌, ◌%◌, ap, arith, to_z, of_z}
use Rattle.std.specs.Int.{w32}
use mir.Facts.{Fits-of_z}
use Rattle.signed.specs.Signed.{subtract, wrap}
use Rattle.signed.proofs.Laws.{low_sub}
use Rattle.signed.proofs.wrapping_subtract.Goals as goal

pub returns : goal.returns
unfolding subtract wrap
returns c =
    let a = (Fits-of_z c.ranges.a).fits in
    let b = (Fits-of_z c.ranges.b).fits in
    let r : ℕ = (of_z w32 c.args.a + (4294967296 - of_z w32 c.args.b)) % 4294967296 in
    ap (to_z w32) (low_sub c.args.a c.args.b r c.ranges.a c.ranges.b (omega arith) (omega arith))
