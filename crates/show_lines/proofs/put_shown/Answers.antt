-- `show_lines::put_shown` meets its contract: one run behind another.
-- Assumes nothing.
use Rattle.shown.proofs.PutsLaws.{puts_then}
use Rattle.show_lines.proofs.put_shown.Goals as goal

pub returns : goal.returns
returns c = puts_then c.show-end.ensures c.put_text.ensures c.requires
