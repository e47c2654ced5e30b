-- `file_tables::booleans_ok` meets its contract: the booleans, then the pad byte where there is one.
use mathlib.Core.Path.{◌∙◌}
use native.Mathlib.Omega.{arith}
use Rattle.file_tables.proofs.Laws.{at_booleans, in_booleans_lem, booleans_bad, booleans_good, pad_none, pad_byte}
use Rattle.file_tables.proofs.booleans_ok.Goals as goal

pub first_bad_boolean-requires : goal.first_bad_boolean-requires
first_bad_boolean-requires c =
    let k = c.requires in
    let a = at_booleans k in
    let n = in_booleans_lem k in
    let l = k.size in
    omega arith

pub returns-then-first_bad_boolean-t : goal.returns-then-first_bad_boolean-t
returns-then-first_bad_boolean-t c = booleans_bad c.requires _ c.first_bad_boolean.ensures c.if-first_bad_boolean-t.true

pub returns-then-s-eq0 : goal.returns-then-s-eq0
returns-then-s-eq0 c = pad_none c.requires c.if-s-eq0.true ∙ booleans_good c.requires _ c.first_bad_boolean.ensures c.if-first_bad_boolean-t.false

pub overflow_add-result : goal.overflow_add-result
overflow_add-result c =
    let k = c.requires in
    let a = at_booleans k in
    let n = in_booleans_lem k in
    let l = k.size in
    let m = k.most in
    omega arith

pub bounds-file-t : goal.bounds-file-t
bounds-file-t c =
    let k = c.requires in
    let a = at_booleans k in
    let n = in_booleans_lem k in
    let l = k.size in
    let p = c.if-s-eq0.false in
    omega arith

pub returns : goal.returns
returns c = pad_byte c.requires c.if-s-eq0.false ∙ booleans_good c.requires _ c.first_bad_boolean.ensures c.if-first_bad_boolean-t.false
