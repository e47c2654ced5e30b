-- The walk along the uses by plain recursion: the descriptions met, in order, with repetitions.
-- Assumes nothing.
use Rattle.std.specs.Prelude.{List, [], ◌∷◌, ◌++◌, ℕ, zero, suc}
use Rattle.base.specs.If.{when◌then◌else◌}
use Rattle.base.specs.Answer.{Answer, refused, gives, map_answer}
use Rattle.uses.specs.Walk.{Use, missing, found, Graph, uses_most, bind, is_in}

-- the lists of both, in a row
abbrev pub both : Answer (List ℕ) → Answer (List ℕ) → Answer (List ℕ)
both a b = bind a (λ xs. map_answer (λ ys. xs ++ ys) b)

-- the uses from left to right, each followed down before the next
unfoldable pub each : (Use → Answer (List ℕ)) → List Use → Answer (List ℕ)
each down [] = gives []
each down (u ∷ us) = both (down u) (each down us)

-- a use, where the chain may still take `left` uses: its refusal, as in `brought`; else its description and what that
-- one's uses lead to
unfoldable pub follow : Graph → (left : ℕ) (chain : List ℕ) → Use → Answer (List ℕ)
follow g zero chain (missing p) = refused 18 (p ∷ [])
follow g zero chain (found p t) = when is_in t chain then refused 19 (p ∷ []) else refused 20 (p ∷ [])
follow g (suc left) chain (missing p) = refused 18 (p ∷ [])
follow g (suc left) chain (found p t) =
    when is_in t chain then refused 19 (p ∷ [])
    else both (gives (t ∷ [])) (each (follow g left (t ∷ chain)) (g t))

-- the descriptions met from d on
unfoldable pub walk : Graph → (left : ℕ) (chain : List ℕ) → ℕ → Answer (List ℕ)
walk g left chain d = both (gives (d ∷ [])) (each (follow g left (d ∷ chain)) (g d))

-- what the wanted description leads to
abbrev pub wanted : Graph → ℕ → Answer (List ℕ)
wanted g d = walk g uses_most [] d
