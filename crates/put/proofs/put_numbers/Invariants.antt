-- `put::put_numbers` meets its contract. The loop's invariant: the slots passed are put.
-- Assumes nothing.
use mathlib.Core.Path.{◌≡◌}
use mathlib.Core.List.{map}
use lib.ListN.{length}
use Rattle.base.specs.Overwrite.{put_at}
use Rattle.word.specs.Word.{words}
use Rattle.entry.specs.Limits.{number_width}
use Rattle.entry.specs.Writing.{number_code}
use Rattle.put.specs.Table.{numbers_of}
use Rattle.put.proofs.put_numbers.Given as goal

abbrev pub invariant-loop-i : goal.invariant-loop-i
invariant-loop-i l = (length l.b ≡ length l.initial.b) × (l.b ≡ put_at l.initial.b l.at (words number_width (map number_code (numbers_of l.numbers.kinds.now l.numbers.values.now l.i))))
