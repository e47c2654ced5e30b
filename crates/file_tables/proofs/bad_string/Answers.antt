-- `file_tables::bad_string` meets its contract: the position of the index.
use native.Mathlib.Omega.{arith}
use Rattle.file_tables.proofs.Laws.{at_table, at_strings, in_strings_lem, index_most, string_at_lem}
use Rattle.file_tables.proofs.bad_string.Goals as goal

pub offsets_end-end-requires : goal.offsets_end-end-requires
offsets_end-end-requires c =
    let k = c.requires in
    let a = at_table k in
    let l = k.size in
    omega arith

pub first_bad_slot-requires : goal.first_bad_slot-requires
first_bad_slot-requires c =
    let k = c.requires in
    let a = at_strings k in
    let n = in_strings_lem k in
    let l = k.size in
    omega arith

pub overflow_mul-result : goal.overflow_mul-result
overflow_mul-result c =
    let k = c.requires in
    let n = in_strings_lem k in
    let l = k.size in
    let m = k.most in
    let i = index_most _ _ _ c.first_bad_slot.ensures in
    omega arith

pub overflow_add-result : goal.overflow_add-result
overflow_add-result c =
    let k = c.requires in
    let a = at_strings k in
    let n = in_strings_lem k in
    let l = k.size in
    let m = k.most in
    let i = index_most _ _ _ c.first_bad_slot.ensures in
    omega arith

pub returns : goal.returns
returns c =
    string_at_lem c.requires _ _ c.offsets_end-end.ensures
    c.first_bad_slot.ensures
