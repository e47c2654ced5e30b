-- `word::nul_from` meets its contract. The invariant: the first NUL from a on is the first from i on, so that i is below
-- the length.
use Prim.Native.Nat.{◌-◌}
use mathlib.Core.Path.{◌≡◌}
use lib.ListN.{length}
use Rattle.word.specs.Nul.{nul_from}
use Rattle.word.proofs.nul_from.Given as goal

abbrev pub invariant-loop-i : goal.invariant-loop-i
invariant-loop-i l = nul_from l.f l.a (length l.f) ≡ nul_from l.f l.i (length l.f)

abbrev pub decreases-loop-i : goal.decreases-loop-i
decreases-loop-i l = length l.f - l.i
