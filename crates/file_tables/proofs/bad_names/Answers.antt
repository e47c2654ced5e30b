-- `file_tables::bad_names` meets its contract: the tables' places are the layout's.
use native.Mathlib.Omega.{arith}
use Rattle.entry.specs.Reading.{bad_names}
use Rattle.file_tables.proofs.Laws.{at_booleans}
use Rattle.file_tables.proofs.bad_names.Goals as goal

pub overflow_sub-last : goal.overflow_sub-last
overflow_sub-last c = (let e = at_booleans c.requires in omega arith)

pub find_nul-requires : goal.find_nul-requires
find_nul-requires c =
    let k = c.requires in
    let e = at_booleans k in
    let l = k.size in
    omega arith

pub returns : goal.returns
unfolding bad_names
returns c = rw (c.find_nul.ensures, at_booleans c.requires)
