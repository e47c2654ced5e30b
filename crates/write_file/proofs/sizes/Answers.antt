-- `file::sizes` meets its contract: the table's size is what `put::table_size` ensures.
-- Assumes nothing.
use mathlib.Core.Path.{ap, ◌∙◌}
use Rattle.write_laws.specs.File.{sizes_with}
use Rattle.write_file.proofs.sizes.Goals as goal

pub table_size-table-requires : goal.table_size-table-requires
table_size-table-requires c = c.requires

pub returns : goal.returns
returns c =
    c.sizes_with.ensures ∙ ap (sizes_with c.args.e c.args.names.now) c.table_size-table.ensures
