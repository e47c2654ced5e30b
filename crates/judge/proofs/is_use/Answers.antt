-- `judge::is_use` meets its contract.
use mathlib.Core.Path.{◌∙◌}
use Rattle.names.specs.Names.{ascii}
use Rattle.judge.proofs.Laws.{same_bytes_lem}
use Rattle.judge.proofs.is_use.Goals as goal

pub returns : goal.returns
unfolding ascii
returns c = c.eq.ensures ∙ rw c.as_slice.ensures (same_bytes_lem c.args.name.now (ascii "use"))
