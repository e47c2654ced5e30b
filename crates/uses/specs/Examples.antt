-- Small graphs, worked out: a description comes here to the list of the descriptions met. Places are 100 and up.
-- Assumes nothing.
use Rattle.std.specs.Prelude.{◌≡◌, refl, List, [], ◌∷◌, ◌++◌, ℕ, zero, suc, ◌+◌}
use Rattle.base.specs.Answer.{Answer, refused, gives}
use Rattle.uses.specs.Walk.{missing, found, Graph, is_in, with_uses, brought, built}

abbrev listed : Graph → ℕ → Answer (List ℕ)
listed = built (λ xs ys. xs ++ ys) (λ d. d ∷ [])

-- 0 uses 1 and 2, and 1 uses 2
abbrev twice : Graph
twice zero = found 100 1 ∷ (found 101 2 ∷ [])
twice (suc zero) = found 102 2 ∷ []
twice (suc (suc d)) = []

twice_built : listed twice 0 ≡ gives (0 ∷ (1 ∷ (2 ∷ (2 ∷ []))))
unfolding with_uses brought is_in
twice_built = refl

-- each description uses the next: the ninth use of the chain is at 108
abbrev line : Graph
line d = found (100 + d) (suc d) ∷ []

line_built : listed line 0 ≡ refused 20 (108 ∷ [])
unfolding with_uses brought is_in
line_built = refl

-- 0 uses 1 and a name that is not found, and 1 uses 0: what is met first decides
abbrev back : Graph
back zero = found 100 1 ∷ (missing 101 ∷ [])
back (suc d) = found 102 0 ∷ []

back_built : listed back 0 ≡ refused 19 (102 ∷ [])
unfolding with_uses brought is_in
back_built = refl
