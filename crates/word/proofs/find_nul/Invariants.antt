-- `word::find_nul` meets its contract. The invariant: the first NUL from a on is the first from i on.
use mathlib.Core.Path.{◌≡◌}
use Rattle.word.specs.Nul.{nul_from}
use Rattle.word.proofs.find_nul.Given as goal

abbrev pub invariant-loop-i : goal.invariant-loop-i
invariant-loop-i l = nul_from l.f l.a l.e ≡ nul_from l.f l.i l.e
