-- `put::put_slots` meets its contract. The loop's invariant: the slots passed are put, and the next present string starts at their total.
-- Assumes nothing.
use mathlib.Core.Path.{◌≡◌}
use mathlib.Core.List.{map}
use lib.ListN.{length}
use Rattle.base.specs.Overwrite.{put_at}
use Rattle.word.specs.Word.{words}
use Rattle.entry.specs.Limits.{offset_width}
use Rattle.entry.specs.Writing.{offset_code}
use Rattle.put.specs.Table.{total, slots_of}
use Rattle.put.proofs.put_slots.Given as goal

abbrev pub invariant-loop-i : goal.invariant-loop-i
invariant-loop-i l = (length l.b ≡ length l.initial.b) × (l.next ≡ total l.strings.kinds.now l.strings.lengths.now l.i) × (l.b ≡ put_at l.initial.b l.at (words offset_width (map offset_code (slots_of l.strings.kinds.now l.strings.lengths.now l.i))))
