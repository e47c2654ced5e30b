-- Heights: how long the longest chain of uses below a description is, kept for descriptions whose walk is finished.
-- Assumes nothing.
use Rattle.std.specs.Prelude.{◌≡◌, Bool, false, List, [], ◌∷◌, ℕ, suc, max, ◌<◌, eqb, ltb}
use Rattle.base.specs.If.{when◌then◌else◌}
use Rattle.base.specs.Tabulate.{Each}
use Rattle.uses.specs.Walk.{Use, missing, found, Graph}

-- what is kept of a description: nothing, or its height
pub data Kept : Type 0 where
  unfinished : Kept
  height : ℕ → Kept

abbrev pub Heights : Type 0
Heights = ℕ → Kept

-- the height above a use's description and the other uses' height
unfoldable pub higher : Kept → Kept → Kept
higher unfinished b = unfinished
higher (height a) unfinished = unfinished
higher (height a) (height b) = height (max (suc a) b)

-- the height by the heights of what the uses lead to, if all of these are finished
unfoldable pub height_of : Heights → List Use → Kept
height_of m [] = height 0
height_of m (missing p ∷ us) = unfinished
height_of m (found p t ∷ us) = higher (m t) (height_of m us)

-- every height kept is right by the heights kept below
abbrev pub Right : Graph → Heights → Type 0
Right g m = (d h : ℕ) → m d ≡ height h → height_of m (g d) ≡ height h

-- the height that is kept of what is not finished
abbrev pub unfinished_height : ℕ
unfinished_height = 255

-- a height that can be kept beside that one
unfoldable pub low : Kept → Kept
low unfinished = unfinished
low (height h) = when ltb h unfinished_height then height h else unfinished

abbrev pub Low : Heights → Type 0
Low m = (d h : ℕ) → m d ≡ height h → h < unfinished_height

-- m with k kept for d
unfoldable pub keep : Heights → ℕ → Kept → Heights
keep m d k = λ x. when eqb x d then k else m x

-- the heights kept for open descriptions (those of the chain, being worked on), if any, are above h
abbrev pub Above : Heights → ℕ → List ℕ → Type 0
Above m h chain = Each (λ a. (x : ℕ) → m a ≡ height x → h < x) chain

abbrev pub Finished : Heights → List ℕ → Type 0
Finished m vs = Each (λ v. (h : ℕ) × (m v ≡ height h)) vs

-- finished, and a use of it with `left` uses allowed is not refused
unfoldable pub fits : Kept → ℕ → Bool
fits unfinished left = false
fits (height h) left = ltb h left
