-- `file_tables::strings_ok` meets its contract: one search for the last NUL judges every offset.
use native.Mathlib.Omega.{arith}
use Rattle.file_tables.proofs.Laws.{at_table, at_strings, in_strings_lem, strings_by}
use Rattle.file_tables.proofs.strings_ok.Goals as goal

pub offsets_end-end-requires : goal.offsets_end-end-requires
offsets_end-end-requires c =
    let k = c.requires in
    let a = at_table k in
    let l = k.size in
    omega arith

pub first_bad_slot-requires : goal.first_bad_slot-requires
first_bad_slot-requires c =
    let k = c.requires in
    let a = at_strings k in
    let n = in_strings_lem k in
    let l = k.size in
    omega arith

pub returns : goal.returns
returns c = strings_by c.requires _ _ c.offsets_end-end.ensures c.first_bad_slot.ensures
