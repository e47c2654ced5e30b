-- `opened_file::names_opened` meets its contract: the booleans start where the names' NUL ends.
use native.Mathlib.Omega.{arith}
use Rattle.opened_file.proofs.Laws.{framed, asked_names}
use Rattle.file_tables.proofs.Laws.{at_booleans}
use Rattle.opened_file.proofs.names_opened.Goals as goal

pub overflow_sub-result : goal.overflow_sub-result
overflow_sub-result c = let k = framed c.requires in let a = at_booleans k in omega arith

pub overflow_sub-result-2 : goal.overflow_sub-result-2
overflow_sub-result-2 c = let k = framed c.requires in let a = at_booleans k in let n = k.named in omega arith

pub returns : goal.returns
returns c = asked_names c.requires
