-- What the laws of what descriptions come to (proofs/Related.antt) name: related answers, and a refusal's place.
-- Assumes nothing.
use Rattle.std.specs.Prelude.{◌≡◌, get_or}
use mathlib.Core.List.{[], ◌∷◌}
use Prim.Native.Nat.{ℕ, ◌≤◌}
use Rattle.base.specs.Answer.{Answer, refused, gives}
use Rattle.uses.specs.Walk.{Use, missing, found}

-- both refused with the same number and values, or both give, and R holds of what they give
abbrev pub RelatedAnswers : {S T : Type 0} → (S → T → Type 0) → Answer S → Answer T → Type 0
RelatedAnswers R (refused n v) (refused m w) = (n ≡ m) × (v ≡ w)
RelatedAnswers R (refused n v) (gives y) = ⊥
RelatedAnswers R (gives x) (refused m w) = ⊥
RelatedAnswers R (gives x) (gives y) = R x y

-- ---- refusals

-- where a use field starts
abbrev pub place_of : Use → ℕ
place_of (missing p) = p
place_of (found p d) = p

-- a refusal is 18, 19 or 20, with one place, of which P holds
abbrev pub RefusedAt : {S : Type 0} → (ℕ → Type 0) → Answer S → Type 0
RefusedAt P (refused n v) = (18 ≤ n) × (n ≤ 20) × P (get_or v 0 0) × (v ≡ get_or v 0 0 ∷ [])
RefusedAt P (gives x) = Unit {0}
