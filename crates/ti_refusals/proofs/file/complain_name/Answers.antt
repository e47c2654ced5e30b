-- `ti_refusals::file::complain_name` is safe: what is put has room.
-- Assumes nothing.
use borrow.Author.Rules.{rules}
use Rattle.shown.proofs.PutsLaws.{puts_first}
use Rattle.ti_refusals.proofs.file.complain_name.Goals as goal

pub slice_bounds-complain-end : goal.slice_bounds-complain-end
slice_bounds-complain-end c = (puts_first c.put_named-n.ensures (search rules)).1.1
