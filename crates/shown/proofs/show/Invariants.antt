-- `shown::show` meets its contract. The loop's invariant: the bytes passed are put as they are shown.
-- Assumes nothing.
use mathlib.Core.Path.{◌≡◌}
use lib.ListN.{length}
use Rattle.shown.proofs.Laws.{Shows}
use Rattle.shown.proofs.show.Given as goal

abbrev pub invariant-loop-c : goal.invariant-loop-c
invariant-loop-c l = (length l.out ≡ length l.initial.out) × Shows l.least l.bytes l.initial.out l.out l.at l.c-index l.end
