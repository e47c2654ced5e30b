-- `signed::wrapping_add` meets its contract: the bits of the sum are the sum of the bits mod 2^32.
-- Assumes nothing.
use Rattle.std.proofs.Common.{ap, to_z}
use Rattle.std.specs.Int.{w32}
use Rattle.signed.specs.Signed.{add, wrap}
use Rattle.signed.proofs.Laws.{low_add}
use Rattle.signed.proofs.wrapping_add.Goals as goal

pub returns : goal.returns
unfolding add wrap
returns c = ap (to_z w32) (low_add c.args.a c.args.b c.ranges.a c.ranges.b)
