-- `print::put_fill` meets its contract: the part that is filled is the bytes that are put.
-- Assumes nothing.
use Rattle.print.proofs.EmitLaws.{filled}
use Rattle.print.proofs.put_fill.Goals as goal

pub returns : goal.returns
returns c = filled _ _ c.args.at c.args.count c.args.byte c.requires (c.fill.ensures.after (λ y e. e))
