-- The uses of a text's descriptions, the open descriptions and the heights, as arrays hold them.
-- Assumes nothing.
use Rattle.std.specs.Prelude.{◌≡◌, List, [], ◌∷◌, ℕ, zero, suc, ◌+◌, ◌-◌, ◌≤◌, ◌<◌, eqb, ltb, length, get_or, set}
use Rattle.std.specs.Prelude.{replicate}
use Rattle.base.specs.If.{when◌then◌else◌}
use Rattle.base.specs.Answer.{Answer}
use Rattle.uses.specs.Walk.{Use, missing, found, Graph}
use Rattle.uses.specs.Targets.{no_target}
use Rattle.uses.specs.Heights.{Kept, unfinished, height, Heights, unfinished_height}
use Rattle.uses.specs.Fast.{Met}
use Rattle.uses.specs.Machine.{Frame, frame, resume}
use Rattle.use_turns.specs.declared.Frames.{Frames}

-- ---- the uses

-- the uses of description d are those from starts[d] up to starts[d + 1], each with the place of its field and its
-- target
pub record UseArrays : Type 0 where
  pub starts : List ℕ
  pub places : List ℕ
  pub targets : List ℕ
  -- of the descriptions
  pub count : ℕ

abbrev pub use_arrays : (starts places targets : List ℕ) → ℕ → UseArrays
use_arrays starts places targets count =
    record { starts = starts; places = places; targets = targets; count = count }

abbrev pub use_at : (places targets : List ℕ) → ℕ → Use
use_at places targets i =
    when eqb (get_or targets i 0) no_target then missing (get_or places i 0)
    else found (get_or places i 0) (get_or targets i 0)

-- k uses from the i-th on
unfoldable pub uses_from : (places targets : List ℕ) → ℕ → ℕ → List Use
uses_from places targets i zero = []
uses_from places targets i (suc k) = use_at places targets i ∷ uses_from places targets (suc i) k

abbrev pub end_of : UseArrays → ℕ → ℕ
end_of u d = get_or u.starts (d + 1) 0

-- the uses of a description from the i-th on
abbrev pub uses_left : UseArrays → ℕ → ℕ → List Use
uses_left u d i = uses_from u.places u.targets i (end_of u d - i)

abbrev pub graph_of : UseArrays → Graph
graph_of u d = uses_left u d (get_or u.starts d 0)

-- the arrays hold the uses of so many descriptions
pub record HoldsUses (u : UseArrays) : Type 0 where
  pub few : u.count ≤ 64
  pub ends : u.count < length u.starts
  pub ordered : (d : ℕ) → d < u.count → get_or u.starts d 0 ≤ end_of u d
  pub inside : (d : ℕ) → d < u.count → end_of u d ≤ get_or u.starts u.count 0
  pub targeted : get_or u.starts u.count 0 ≤ length u.targets
  pub placed : get_or u.starts u.count 0 ≤ length u.places
  pub known : (i : ℕ) → i < get_or u.starts u.count 0 → (get_or u.targets i 0 ≡ no_target → ⊥)
      → get_or u.targets i 0 < u.count

-- ---- the open descriptions and the heights

abbrev pub frames : (stack next heights : List ℕ) → ℕ → Frames
frames stack next heights depth = record { stack = stack; next = next; heights = heights; depth = depth }

-- the place of the last open description, the description and its next use
abbrev pub top_of : Frames → ℕ
top_of o = o.depth - 1

abbrev pub last_of : Frames → ℕ
last_of o = get_or o.stack (top_of o) 0

abbrev pub next_of : Frames → ℕ
next_of o = get_or o.next (top_of o) 0

-- the uses that the chain may still take
abbrev pub left_of : Frames → ℕ
left_of o = 9 - o.depth

-- the first n open descriptions, and their frames, the last one first
unfoldable pub open_of : List ℕ → ℕ → List ℕ
open_of stack zero = []
open_of stack (suc n) = get_or stack n 0 ∷ open_of stack n

unfoldable pub frames_of : UseArrays → (stack next : List ℕ) → ℕ → List Frame
frames_of u stack next zero = []
frames_of u stack next (suc n) =
    frame (get_or stack n 0) (uses_left u (get_or stack n 0) (get_or next n 0)) ∷ frames_of u stack next n

-- the open descriptions are descriptions, and their next uses are not past their ends
pub record Framed (u : UseArrays) (o : Frames) : Type 0 where
  pub deep : o.depth ≤ 9
  pub stacks : length o.stack ≡ 9
  pub nexts : length o.next ≡ 9
  pub kept : length o.heights ≡ 64
  pub description : (j : ℕ) → j < o.depth → get_or o.stack j 0 < u.count
  pub within : (j : ℕ) → j < o.depth → get_or o.next j 0 ≤ end_of u (get_or o.stack j 0)

abbrev pub kept_as : ℕ → Kept
kept_as x = when ltb x unfinished_height then height x else unfinished

abbrev pub heights_of : List ℕ → Heights
heights_of hs d = kept_as (get_or hs d unfinished_height)

abbrev pub met_of : {S : Type 0} → List ℕ → S → Met S
met_of hs s = record { heights = heights_of hs; state = s }

-- what is left of a walk
abbrev pub resume_at : {S : Type 0} → (S → ℕ → S) → UseArrays → Frames → S → Answer (Met S)
resume_at put u o s =
    resume put (graph_of u) (left_of o) (frames_of u o.stack o.next o.depth) (met_of o.heights s)

-- the frames of a walk from d
abbrev pub started : UseArrays → ℕ → Frames
started u d =
    frames (set (replicate 9 0) 0 d) (set (replicate 9 0) 0 (get_or u.starts d 0)) (replicate 64 255) 1

-- ---- a turn: the last open description's next use, or its end

-- the next use is of t
pub record LeadsTo (u : UseArrays) (o : Frames) (t : ℕ) : Type 0 where
  pub more : next_of o < end_of u (last_of o)
  pub target : t ≡ get_or u.targets (next_of o) 0
  pub there : t ≡ no_target → ⊥

-- the last open description is finished, with its height
abbrev pub finished : Frames → ℕ → Frames
finished o x = frames o.stack o.next (set o.heights (last_of o) x) (top_of o)

-- its next use is passed over
abbrev pub passed : Frames → Frames
passed o = frames o.stack (set o.next (top_of o) (next_of o + 1)) o.heights o.depth

-- the description to which it leads is entered
abbrev pub entered : UseArrays → Frames → ℕ → Frames
entered u o t =
    frames (set o.stack o.depth t) (set (passed o).next o.depth (get_or u.starts t 0)) o.heights
    (o.depth + 1)
