-- `terminfo::string_part` meets its contract: a content lies in the file, so that its bytes can be had.
-- Assumes nothing.
use Rattle.entry_numbers.proofs.Laws.{string_within}
use Rattle.terminfo.proofs.string_part.Goals as goal

pub string_bytes-bytes-requires : goal.string_bytes-bytes-requires
string_bytes-bytes-requires c =
    string_within c.args.e.file.now c.args.e.numbers c.args.place c.string_in-state.result c.string_in-state.ensures
