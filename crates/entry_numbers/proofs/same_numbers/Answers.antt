-- `entry_numbers::same_numbers` meets its contract: the comparisons together.
use Rattle.entry_numbers.proofs.EntryLaws.{compared}
use Rattle.entry_numbers.proofs.same_numbers.Goals as goal

pub returns : goal.returns
returns c =
    compared _ _ _ _ _ c.same_edition.ensures c.same_tables.ensures c.same_beyond.ensures
