-- The walk that keeps the heights of what it has finished, and follows the uses of a finished description only if
-- these lead to 20.
-- Assumes nothing.
use Rattle.std.specs.Prelude.{List, [], ◌∷◌, ℕ, zero, suc}
use Rattle.base.specs.If.{when◌then◌else◌}
use Rattle.base.specs.Answer.{Answer, refused, gives, map_answer}
use Rattle.uses.specs.Walk.{Use, missing, found, Graph, uses_most, is_in, bind}
use Rattle.uses.specs.Heights.{unfinished, Heights, height_of, low, keep, fits}

-- what a walk has met: the heights of what is finished, and the state into which each description entered was put
pub record Met (S : Type 0) : Type 0 where
  pub heights : Heights
  pub state : S

unfoldable pub enter : {S : Type 0} → (S → ℕ → S) → ℕ → Met S → Met S
enter put d s = record { heights = s.heights; state = put s.state d }

unfoldable pub finish : {S : Type 0} → Graph → ℕ → Met S → Met S
finish g d s = record { heights = keep s.heights d (low (height_of s.heights (g d))); state = s.state }

unfoldable pub fast_each : {S : Type 0} → (Use → Met S → Answer (Met S)) → List Use → Met S → Answer (Met S)
fast_each down [] s = gives s
fast_each down (u ∷ us) s = bind (down u s) (fast_each down us)

unfoldable pub fast_follow : {S : Type 0} → (S → ℕ → S) → Graph → ℕ → List ℕ → Use → Met S → Answer (Met S)
fast_follow put g zero chain (missing p) s = refused 18 (p ∷ [])
fast_follow put g zero chain (found p t) s = when is_in t chain then refused 19 (p ∷ []) else refused 20 (p ∷ [])
fast_follow put g (suc left) chain (missing p) s = refused 18 (p ∷ [])
fast_follow put g (suc left) chain (found p t) s =
    when is_in t chain then refused 19 (p ∷ [])
    else when fits (s.heights t) (suc left) then gives s
    else map_answer (finish g t) (fast_each (fast_follow put g left (t ∷ chain)) (g t) (enter put t s))

abbrev pub start : {S : Type 0} → S → Met S
start s = record { heights = λ d. unfinished; state = s }

-- the state with all that the wanted description leads to
unfoldable pub fast : {S : Type 0} → (S → ℕ → S) → Graph → S → ℕ → Answer S
fast put g s d =
    map_answer (λ r. r.state) (fast_each (fast_follow put g uses_most (d ∷ [])) (g d) (enter put d (start s)))
