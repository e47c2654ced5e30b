-- `print_text::put_text` meets its contract: before each turn the first i bytes are put.
-- Assumes nothing.
use mathlib.Core.Path.{◌≡◌}
use lib.ListN.{length, take}
use Rattle.base.specs.Overwrite.{put_at}
use Rattle.print_text.proofs.Laws.{part}
use Rattle.print_text.proofs.put_text.Given as goal

abbrev pub invariant-loop-i : goal.invariant-loop-i
invariant-loop-i l = (length l.out ≡ length l.initial.out) × (l.out ≡ put_at l.initial.out l.at (take l.i (part l.texts l.start l.n)))
