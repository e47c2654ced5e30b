-- `terminfo::names_part` meets its contract: the names lie in the file, so that their bytes can be had.
-- Assumes nothing.
use Rattle.entry_numbers.proofs.Laws.{names_within}
use Rattle.terminfo.proofs.names_part.Goals as goal

pub names_bytes-bytes-requires : goal.names_bytes-bytes-requires
names_bytes-bytes-requires c =
    names_within c.args.e.file.now c.args.e.numbers c.names_in-names.result c.names_in-names.ensures
