-- `terminfo::open_string` meets its contract: what an entry that was just opened says of a string is what the file says.
-- Assumes nothing.
use Rattle.entry_numbers.proofs.EntryLaws.{opened_string}
use Rattle.terminfo.proofs.open_string.Goals as goal

pub returns : goal.returns
returns c =
    rw (← opened_string c.args.edition c.args.file.now c.args.place)
    (rw c.open.ensures at c.string_part.ensures)
