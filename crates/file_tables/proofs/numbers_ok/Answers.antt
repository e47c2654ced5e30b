-- `file_tables::numbers_ok` meets its contract.
use native.Mathlib.Omega.{arith}
use Rattle.file_tables.proofs.Laws.{at_numbers, in_numbers_lem, numbers_by}
use Rattle.file_tables.proofs.numbers_ok.Goals as goal

pub first_bad_slot-requires : goal.first_bad_slot-requires
first_bad_slot-requires c =
    let k = c.requires in
    let a = at_numbers k in
    let n = in_numbers_lem k in
    let l = k.size in
    omega arith

pub returns : goal.returns
returns c = numbers_by c.requires _ c.first_bad_slot.ensures
