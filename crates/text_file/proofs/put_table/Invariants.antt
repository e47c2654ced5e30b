-- `text_file::put_table` meets its contract. The loop's invariant: the strings passed are put, and the next place is
-- behind their total.
-- Assumes nothing.
use mathlib.Core.Path.{◌≡◌}
use Prim.Native.Nat.{◌+◌}
use lib.ListN.{length}
use Rattle.base.specs.Tabulate.{tabulate}
use Rattle.base.specs.Overwrite.{put_at}
use Rattle.entry.specs.Writing.{string_table}
use Rattle.put.specs.Table.{total}
use Rattle.entry.specs.Handed.{strings_by}
use Rattle.compile_laws.specs.Held.{text_string}
use Rattle.text_file.proofs.put_table.Given as goal

abbrev pub invariant-loop-i : goal.invariant-loop-i
invariant-loop-i l =
    record {
      sized : length l.b ≡ length l.initial.b;
      place : l.p ≡ l.at + total l.strings.kinds.now l.strings.lengths.now l.i;
      table : l.b ≡ put_at l.initial.b l.at (string_table (tabulate (text_string (strings_by l.strings l.text)) l.i));
    }
