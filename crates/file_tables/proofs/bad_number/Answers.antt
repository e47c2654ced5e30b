-- `file_tables::bad_number` meets its contract: the position of the index.
use native.Mathlib.Omega.{arith}
use Rattle.file_tables.proofs.Laws.{at_numbers, in_numbers_lem, index_most, number_at}
use Rattle.file_tables.proofs.bad_number.Goals as goal

pub first_bad_slot-requires : goal.first_bad_slot-requires
first_bad_slot-requires c =
    let k = c.requires in
    let a = at_numbers k in
    let n = in_numbers_lem k in
    let l = k.size in
    omega arith

pub overflow_mul-result : goal.overflow_mul-result
overflow_mul-result c =
    let k = c.requires in
    let n = in_numbers_lem k in
    let l = k.size in
    let m = k.most in
    let i = index_most _ _ _ c.first_bad_slot.ensures in
    omega arith

pub overflow_add-result : goal.overflow_add-result
overflow_add-result c =
    let k = c.requires in
    let a = at_numbers k in
    let n = in_numbers_lem k in
    let l = k.size in
    let m = k.most in
    let i = index_most _ _ _ c.first_bad_slot.ensures in
    omega arith

pub returns : goal.returns
returns c = number_at c.requires _ c.first_bad_slot.ensures
