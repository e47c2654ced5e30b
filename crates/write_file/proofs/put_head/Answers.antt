-- `file::put_head` meets its contract: the parts are put one behind the other.
-- Assumes nothing.
use mathlib.Core.Path.{refl, ◌∙◌}
use mathlib.Core.List.{[]}
use native.Mathlib.Omega.{arith}
use Rattle.write_laws.proofs.FileLaws.{head_put}
use Rattle.entry.specs.Handed.{handed_by}
use Rattle.write_file.proofs.put_head.Goals as goal

pub put_header-requires : goal.put_header-requires
put_header-requires c =
    let m = c.requires.named in
    let r = c.requires.room in
    omega arith

pub put_string-requires : goal.put_string-requires
put_string-requires c =
    let m = c.requires.named in
    let r = c.requires.room in
    let k = c.put_header.auto.b in
    omega arith

pub overflow_add-at : goal.overflow_add-at
overflow_add-at c =
    let m = c.requires.named in
    let r = c.requires.room in
    omega (arith, c.well_formed)

pub put_booleans-requires : goal.put_booleans-requires
put_booleans-requires c =
    let m = c.requires.named in
    let r = c.requires.room in
    let k = c.put_header.auto.b in
    let l = c.put_string.auto.b in
    (omega arith, c.requires.booleans)

pub overflow_add-at-2 : goal.overflow_add-at-2
overflow_add-at-2 c =
    let m = c.requires.named in
    let r = c.requires.room in
    omega (arith, c.well_formed)

pub overflow_add-s : goal.overflow_add-s
overflow_add-s c =
    let m = c.requires.named in
    let r = c.requires.room in
    omega (arith, c.well_formed)

pub put_pad-requires : goal.put_pad-requires
put_pad-requires c =
    let m = c.requires.named in
    let r = c.requires.room in
    let k = c.put_header.auto.b in
    let l = c.put_string.auto.b in
    let n = c.put_booleans.auto.b in
    omega arith

pub shape_of-b : goal.shape_of-b
shape_of-b c = c.put_pad.auto.b ∙ c.put_booleans.auto.b ∙ c.put_string.auto.b ∙ c.put_header.auto.b

pub returns : goal.returns
returns c =
    head_put c.args.s (handed_by c.args.names.now c.args.states.now []) c.requires.named c.args.b.now c.put_header.new.b c.put_string.new.b c.put_booleans.new.b c.put_pad.new.b c.requires.room refl refl c.put_header.ensures c.put_string.ensures c.put_booleans.ensures c.put_pad.ensures
