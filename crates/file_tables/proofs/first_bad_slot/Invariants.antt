-- `file_tables::first_bad_slot` meets its contract. The invariant: the first bad slot is the first from i on.
use Prim.Native.Nat.{ℕ, ◌+◌, ◌*◌, ◌-◌}
use mathlib.Core.Bool.{Bool}
use mathlib.Core.List.{List}
use mathlib.Core.Path.{◌≡◌}
use lib.Dec.{ltb}
use Rattle.base.specs.Scan.{scan}
use Rattle.word.specs.Word.{word}
use Rattle.entry.specs.Limits.{short_width}
use Rattle.entry.specs.State.{ok_slot}
use Rattle.file_tables.proofs.first_bad_slot.Given as goal

abbrev okCode : ℕ → ℕ → Bool
okCode bound c = ok_slot short_width (λ d. ltb d bound) c

abbrev okAt : List ℕ → ℕ → ℕ → ℕ → Bool
okAt f at bound j = okCode bound (word short_width f (at + short_width * j))

abbrev pub invariant-loop-i : goal.invariant-loop-i
invariant-loop-i l = scan (okAt l.file l.at l.bound) 0 l.n ≡ scan (okAt l.file l.at l.bound) l.i (l.n - l.i)
