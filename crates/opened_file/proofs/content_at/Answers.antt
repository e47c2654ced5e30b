-- `opened_file::content_at` meets its contract: the string ends before the file ends.
use lib.ListN.{length}
use native.Mathlib.Omega.{arith}
use Prim.Native.Nat.{◌+◌, ◌-◌}
use Rattle.base.proofs.ScanLaws.{scan_ge}
use Rattle.word.specs.Nul.{not_nul_at}
use Rattle.opened_file.proofs.Laws.{opened_content}
use Rattle.opened_file.proofs.content_at.Goals as goal

pub overflow_add-start : goal.overflow_add-start
overflow_add-start c =
    let f = c.args.file.now in
    let a = c.args.t.table_at + c.args.offset.0 in
    let g = scan_ge (not_nul_at f) a (length f - a) in
    let l = c.requires.1 in
    let k = c.well_formed in
    omega arith

pub nul_from-end-requires : goal.nul_from-end-requires
nul_from-end-requires c = c.requires.1

pub overflow_sub-result : goal.overflow_sub-result
overflow_sub-result c =
    let f = c.args.file.now in
    let a = c.args.t.table_at + c.args.offset.0 in
    let g = scan_ge (not_nul_at f) a (length f - a) in
    let q = c.nul_from-end.ensures in
    omega arith

pub returns : goal.returns
returns c = opened_content c.requires.0 c.args.offset _ c.nul_from-end.ensures
