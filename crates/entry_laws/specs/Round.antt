-- What the laws of the round trip (proofs/Round.antt) name: the parts that the strings of an entry are.
-- Assumes nothing.
use mathlib.Core.List.{List}
use Prim.Native.Nat.{ℕ, zero, suc, ◌+◌}
use Rattle.std.proofs.Math.ListN.{length}
use Rattle.entry.specs.declared.Offset.{Offset}
use Rattle.entry.specs.declared.Part.{Part}
use Rattle.entry.specs.State.{State, absent, cancelled, present, map_state}

-- ---- strings

abbrev pub offset_of : State Offset → State ℕ
offset_of s = map_state (λ (o : Offset). o.0) s

-- where the next string starts, after a state whose string would start at a
abbrev pub next_start : ℕ → State (List ℕ) → ℕ
next_start a absent = a
next_start a cancelled = a
next_start a (present t) = a + length t + 1

-- the part that the string at a place is, where the first string starts at a: the states up to that place determine
-- it
unfoldable pub part_from : ℕ → (ℕ → State (List ℕ)) → ℕ → State Part
part_from a g zero = map_state (λ (t : List ℕ). record { start = a; length = length t }) (g 0)
part_from a g (suc i) = part_from (next_start a (g 0)) (λ j. g (suc j)) i
