-- `file_tables::names_ok` meets its contract: the tables' places are the layout's.
use native.Mathlib.Omega.{arith}
use Rattle.entry.specs.Reading.{ok_names}
use Rattle.file_tables.proofs.Laws.{at_booleans}
use Rattle.file_tables.proofs.names_ok.Goals as goal

pub find_nul-requires : goal.find_nul-requires
find_nul-requires c = (let e = at_booleans c.requires in let l = c.requires.size in omega arith)

pub overflow_sub-result : goal.overflow_sub-result
overflow_sub-result c = (let e = at_booleans c.requires in omega arith)

pub returns : goal.returns
unfolding ok_names
returns c = rw (c.find_nul.ensures, at_booleans c.requires)
