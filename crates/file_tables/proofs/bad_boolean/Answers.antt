-- `file_tables::bad_boolean` meets its contract: the position of the index.
use native.Mathlib.Omega.{arith}
use Rattle.file_tables.proofs.Laws.{at_booleans, in_booleans_lem, index_most, boolean_at}
use Rattle.file_tables.proofs.bad_boolean.Goals as goal

pub first_bad_boolean-requires : goal.first_bad_boolean-requires
first_bad_boolean-requires c =
    let k = c.requires in
    let a = at_booleans k in
    let n = in_booleans_lem k in
    let l = k.size in
    omega arith

pub overflow_add-result : goal.overflow_add-result
overflow_add-result c =
    let k = c.requires in
    let a = at_booleans k in
    let n = in_booleans_lem k in
    let l = k.size in
    let m = k.most in
    let i = index_most _ _ _ c.first_bad_boolean.ensures in
    omega arith

pub returns : goal.returns
returns c = boolean_at c.requires _ c.first_bad_boolean.ensures
