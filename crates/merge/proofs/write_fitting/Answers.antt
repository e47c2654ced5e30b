-- `merge::write_fitting` meets its contract: the size that is tested is the file's length.
use mathlib.Core.Path.{refl}
use Rattle.merge_states.proofs.Laws.{ready_size, ready_sure, fit_size, fit_room, fit_file}
use Rattle.merge.proofs.write_fitting.Goals as goal

pub file_size-size-requires : goal.file_size-size-requires
file_size-size-requires c = ready_size c.requires c.sizes_with-s.result c.sizes_with-s.ensures

pub returns-then-size-gt-FILE_MOST : goal.returns-then-size-gt-FILE_MOST
returns-then-size-gt-FILE_MOST c = fit_size c.requires c.sizes_with-s.result c.sizes_with-s.ensures refl c.file_size-size.result c.file_size-size.ensures c.args.buffer.now c.if-size-gt-FILE_MOST.true

pub returns-then-buffer-size : goal.returns-then-buffer-size
returns-then-buffer-size c = fit_room c.requires c.sizes_with-s.result c.sizes_with-s.ensures refl c.file_size-size.result c.file_size-size.ensures c.args.buffer.now c.if-size-gt-FILE_MOST.false c.if-buffer-size.true

pub write_sure-requires : goal.write_sure-requires
write_sure-requires c = ready_sure c.requires c.sizes_with-s.result c.sizes_with-s.ensures refl c.file_size-size.result c.file_size-size.ensures c.args.buffer.now c.if-size-gt-FILE_MOST.false c.if-buffer-size.false

pub returns : goal.returns
returns c = fit_file c.requires c.sizes_with-s.result c.sizes_with-s.ensures refl c.file_size-size.result c.file_size-size.ensures c.args.buffer.now c.if-size-gt-FILE_MOST.false c.if-buffer-size.false c.write_sure.new.b c.write_sure.ensures
