-- `file_tables::first_bad_boolean` meets its contract. The invariant: the first bad byte is the first from i on.
use Prim.Native.Nat.{ℕ, ◌+◌, ◌-◌}
use mathlib.Core.Bool.{Bool}
use mathlib.Core.List.{List}
use mathlib.Core.Path.{◌≡◌}
use lib.ListN.{get_or}
use Rattle.base.specs.Scan.{scan}
use Rattle.entry.specs.State.{ok_boolean}
use Rattle.file_tables.proofs.first_bad_boolean.Given as goal

abbrev okAt : List ℕ → ℕ → ℕ → Bool
okAt f at j = ok_boolean (get_or f (at + j) 0)

abbrev pub invariant-loop-i : goal.invariant-loop-i
invariant-loop-i l = scan (okAt l.file l.at) 0 l.n ≡ scan (okAt l.file l.at) l.i (l.n - l.i)
