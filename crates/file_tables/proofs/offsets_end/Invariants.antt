-- `file_tables::offsets_end` meets its contract. The invariant: the bytes from i on are no NUL.
use Prim.Native.Nat.{ℕ, ◌+◌, ◌≤◌, ◌<◌}
use mathlib.Core.Bool.{true}
use mathlib.Core.Path.{◌≡◌}
use Rattle.word.specs.Nul.{not_nul_at}
use Rattle.file_tables.proofs.offsets_end.Given as goal

abbrev pub invariant-loop-i : goal.invariant-loop-i
invariant-loop-i l = (j : ℕ) → l.i ≤ j → j < l.n → not_nul_at l.file (l.at + j) ≡ true
