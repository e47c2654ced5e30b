-- `count_lines::edition_line` meets its contract: words, and the edition's counts.
-- Assumes nothing.
use native.Mathlib.Omega.{arith}
use Rattle.names.specs.Names.{ascii}
use Rattle.shown.proofs.PutsLaws.{puts_first}
use Rattle.count_lines.proofs.edition_line.Goals as goal

pub returns : goal.returns
unfolding ascii
returns c = puts_first c.put_counts.ensures (omega (arith, c.requires))
