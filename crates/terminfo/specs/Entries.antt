-- An entry: the caller's bytes and what opening gives for them.
-- Assumes nothing.
use Rattle.std.specs.Prelude.{List, ℕ}
use Rattle.std.specs.Borrow.{Bor}
use Rattle.edition.specs.declared.Edition.{Edition}
use Rattle.terminfo.specs.declared.Entry.{Entry}
use Rattle.entry_numbers.specs.Entries.{opened}

-- "An opened entry keeps hold of the caller's bytes and knows where each table starts"
abbrev pub opened_entry : Bor (List ℕ) → Edition → Entry
opened_entry file e = record { file = file; numbers = opened e file.now }
