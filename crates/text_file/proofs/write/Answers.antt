-- `text_file::write` meets its contract: each return is the answer of `fitting_named` in its order.
-- Assumes nothing.
use mathlib.Core.Path.{◌≡◌, ap, ◌∙◌}
use native.Mathlib.Omega.{arith}
use Rattle.entry.specs.Layout.{size_of, table_at}
use Rattle.entry.specs.Handed.{handed_by}
use Rattle.write_laws.specs.File.{sizes_handed, head, slots}
use Rattle.write_laws.proofs.FileLaws.{file_put}
use Rattle.compile_laws.specs.Held.{text_string}
use Rattle.compile_laws.proofs.WriteLaws.{text_described, size_small, front_fits, refuse_total, refuse_size, refuse_room, give_file}
use Rattle.text_file.proofs.write.Goals as goal

pub returns-then-names-gt-GIVEN_NAMES_MOST : goal.returns-then-names-gt-GIVEN_NAMES_MOST
returns-then-names-gt-GIVEN_NAMES_MOST c =
    let h = handed_by c.args.names.now c.args.states.now c.args.text.now in
    let t = c.if-names-gt-GIVEN_NAMES_MOST.true in
    refuse_total c.args.edition h c.requires.0 c.requires.1 c.args.buffer.now (omega arith)

pub sizes-s-requires : goal.sizes-s-requires
sizes-s-requires c =
    let h = handed_by c.args.names.now c.args.states.now c.args.text.now in
    let t = c.if-names-gt-GIVEN_NAMES_MOST.false in
    let k = c.requires.1 in
    let m = size_small c.args.edition h c.requires.0 k (omega arith) in
    (c.requires.1.given.string_kinds, (c.requires.1.given.string_lengths, omega arith))

pub file_size-size-requires : goal.file_size-size-requires
file_size-size-requires c =
    let h = handed_by c.args.names.now c.args.states.now c.args.text.now in
    let t = c.if-names-gt-GIVEN_NAMES_MOST.false in
    let m = size_small c.args.edition h c.requires.0 c.requires.1 (omega arith) in
    let q : size_of c.sizes-s.result ≡ size_of (sizes_handed c.args.edition h) = ap size_of c.sizes-s.ensures in
    omega arith

pub returns-then-size-gt-FILE_MOST : goal.returns-then-size-gt-FILE_MOST
returns-then-size-gt-FILE_MOST c =
    let h = handed_by c.args.names.now c.args.states.now c.args.text.now in
    let t = c.if-names-gt-GIVEN_NAMES_MOST.false in
    refuse_size c.args.edition h c.requires.0 c.requires.1 c.args.buffer.now (omega arith) c.file_size-size.result (c.file_size-size.ensures ∙ ap size_of c.sizes-s.ensures) c.if-size-gt-FILE_MOST.true

pub returns-then-buffer-size : goal.returns-then-buffer-size
returns-then-buffer-size c =
    let h = handed_by c.args.names.now c.args.states.now c.args.text.now in
    let t = c.if-names-gt-GIVEN_NAMES_MOST.false in
    refuse_room c.args.edition h c.requires.0 c.requires.1 c.args.buffer.now (omega arith) c.file_size-size.result (c.file_size-size.ensures ∙ ap size_of c.sizes-s.ensures) c.if-size-gt-FILE_MOST.false c.if-buffer-size.true

pub put_front-requires : goal.put_front-requires
put_front-requires c =
    let h = handed_by c.args.names.now c.args.states.now c.args.text.now in
    let q : c.file_size-size.result ≡ size_of (sizes_handed c.args.edition h) = c.file_size-size.ensures ∙ ap size_of c.sizes-s.ensures in
    let u = c.if-size-gt-FILE_MOST.false in
    let v = c.if-buffer-size.false in
    front_fits c.args.edition h c.requires.0 c.requires.1 c.args.buffer.now c.sizes-s.result c.sizes-s.ensures (omega arith) (omega arith)

pub table_at-requires : goal.table_at-requires
table_at-requires c =
    let h = handed_by c.args.names.now c.args.states.now c.args.text.now in
    let q = c.file_size-size.ensures in
    let u = c.if-size-gt-FILE_MOST.false in
    omega arith

pub put_table-requires : goal.put_table-requires
put_table-requires c =
    let h = handed_by c.args.names.now c.args.states.now c.args.text.now in
    let q : c.file_size-size.result ≡ size_of (sizes_handed c.args.edition h) = c.file_size-size.ensures ∙ ap size_of c.sizes-s.ensures in
    let w : c.table_at.result ≡ table_at (sizes_handed c.args.edition h) = c.table_at.ensures ∙ ap table_at c.sizes-s.ensures in
    let v = c.if-buffer-size.false in
    let l = c.put_front.auto.b in
    record { kinds = c.requires.1.given.string_kinds; starts = c.requires.1.given.string_starts; lengths = c.requires.1.given.string_lengths; strings = c.requires.1.strings; fits = omega arith }

pub returns : goal.returns
unfolding head slots
returns c =
    let h = handed_by c.args.names.now c.args.states.now c.args.text.now in
    let t = c.if-names-gt-GIVEN_NAMES_MOST.false in
    let q : c.file_size-size.result ≡ size_of (sizes_handed c.args.edition h) = c.file_size-size.ensures ∙ ap size_of c.sizes-s.ensures in
    let v = c.if-buffer-size.false in
    give_file c.args.edition h c.requires.0 c.requires.1 c.args.buffer.now (omega arith) c.file_size-size.result q c.if-size-gt-FILE_MOST.false c.if-buffer-size.false _
    (file_put c.args.edition h (text_string h) (text_described h c.args.edition.strings c.requires.1.strings) c.args.buffer.now _ _ c.sizes-s.ensures (omega arith) c.table_at.ensures c.put_front.ensures c.put_table.ensures)
