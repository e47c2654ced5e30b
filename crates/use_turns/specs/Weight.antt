-- The weight of what is left of a walk, which falls with each turn: the walk ends. It says nothing of how many turns
-- there are.
-- Assumes nothing.
use Rattle.std.specs.Prelude.{List, [], ◌∷◌, ℕ, zero, suc, ◌+◌, length}
use Rattle.uses.specs.Machine.{Frame, frame}
use Rattle.use_turns.specs.declared.Frames.{Frames}
use Rattle.use_turns.specs.Frames.{UseArrays, left_of, frames_of}

-- n times p, and b to the power k
unfoldable pub times : ℕ → ℕ → ℕ
times zero p = 0
times (suc n) p = p + times n p

unfoldable pub power : ℕ → ℕ → ℕ
power b zero = 1
power b (suc k) = times b (power b k)

-- b is above the number of any description's uses and one
unfoldable pub weight : ℕ → ℕ → List Frame → ℕ
weight b left [] = 0
weight b left (frame d us ∷ fs) = times (suc (length us)) (power b left) + weight b (suc left) fs

abbrev pub weight_at : UseArrays → Frames → ℕ
weight_at u o = weight (length u.targets + 2) (left_of o) (frames_of u o.stack o.next o.depth)
