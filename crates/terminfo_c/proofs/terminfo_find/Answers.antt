-- `terminfo_c::terminfo_find` meets its contract: the edition is that of the three counts.
use Rattle.terminfo_c.proofs.terminfo_find.Goals as goal

pub returns : goal.returns
returns c = rw c.edition_of.ensures at c.find.ensures
