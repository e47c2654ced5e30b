-- `beside::folder` meets its contract, by the place of the last slash.
-- Assumes nothing.
use borrow.Author.Rules.{rules}
use Rattle.shown.proofs.PutsLaws.{counted}
use Rattle.beside.proofs.Laws.{folder_at, folder_none}
use Rattle.beside.proofs.folder.Goals as goal

pub returns-in-Some-clause-value : goal.returns-in-Some-clause-value
returns-in-Some-clause-value c = folder_at c.args.path.now c.in-Some.i (search rules) (search rules) (search rules)

pub returns-in-Some-clause-prefix_len : goal.returns-in-Some-clause-prefix_len
returns-in-Some-clause-prefix_len c = counted _ c.args.path.now (search rules)

pub returns-in-None-clause-value : goal.returns-in-None-clause-value
returns-in-None-clause-value c = folder_none c.args.path.now (search rules)
