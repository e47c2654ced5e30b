-- What a finished description leads to: its walk gives, whatever is open, if its height is at most the uses left.
-- Assumes nothing.
use Rattle.std.specs.Prelude.{◌≡◌, false}
use Rattle.std.proofs.Math.Path.{refl}
use Rattle.std.proofs.Common.{sym, ap, ◌∙◌, ne_eqb}
use mathlib.Core.List.{List, [], ◌∷◌, ◌++◌}
use Prim.Native.Nat.{ℕ, zero, suc, max, ◌<◌, ◌≤◌}
use native.Mathlib.Omega.{arith}
use Rattle.base.specs.Answer.{Answer, gives}
use Rattle.uses.specs.Walk.{Use, missing, found, Graph, is_in}
use Rattle.uses.specs.Plain.{each, follow, walk}
use Rattle.uses.specs.Heights.{Kept, unfinished, height, Heights, higher, height_of, Right, Above, Finished}

-- ---- heights

pub height_inj : (a b : ℕ) → height a ≡ height b → a ≡ b
height_inj a b e = cc

pub not_unfinished {ℓ} : {A : Type ℓ} (a : ℕ) → unfinished ≡ height a → A
not_unfinished a e = absurd (let z : ◌≡◌ {A = ℕ} 0 1 = cc in (let y : ⊥ = omega arith in y))

-- both parts of a height
pub higher_parts : (a b : Kept) (h : ℕ) → higher a b ≡ height h
    → (x : ℕ) × (y : ℕ) × (a ≡ height x) × (b ≡ height y) × (h ≡ max (suc x) y)
unfolding higher
higher_parts unfinished b h e = not_unfinished h e
higher_parts (height x) unfinished h e = not_unfinished h e
higher_parts (height x) (height y) h e = (x, y, refl, refl, sym (height_inj (max (suc x) y) h e))

-- what m keeps, m' keeps
abbrev pub Keeps : Heights → Heights → Type 0
Keeps m m' = (d h : ℕ) → m d ≡ height h → m' d ≡ height h

pub height_of_keeps : (m m' : Heights) → Keeps m m' → (us : List Use) (h : ℕ) → height_of m us ≡ height h
    → height_of m' us ≡ height h
unfolding height_of higher
height_of_keeps m m' more [] h e = e
height_of_keeps m m' more (missing p ∷ us) h e = e
height_of_keeps m m' more (found p t ∷ us) h e =
    let (x, y, ex, ey, eh) = higher_parts (m t) (height_of m us) h e in
    rw (more t x ex, height_of_keeps m m' more us y ey) (ap height (sym eh))

-- a description above which every open one lies is not open
pub above_not_in : (m : Heights) (h t : ℕ) (chain : List ℕ) → m t ≡ height h → Above m h chain → is_in t chain ≡ false
unfolding is_in
above_not_in m h t [] e above = refl
above_not_in m h t (a ∷ more) e above = rw (ne_eqb t a differ) (above_not_in m h t more e above.1)
  where
    differ : t ≡ a → ⊥
    differ q = let l : h < h = above.0 h (ap m (sym q) ∙ e) in omega arith

pub above_less : (m : Heights) (h k : ℕ) (chain : List ℕ) → k ≤ h → Above m h chain → Above m k chain
above_less m h k [] l above = tt
above_less m h k (a ∷ more) l above =
    ((λ x e. let q = above.0 x e in omega arith), above_less m h k more l above.1)

finished_append : (m : Heights) (xs ys : List ℕ) → Finished m xs → Finished m ys → Finished m (xs ++ ys)
finished_append m [] ys a b = b
finished_append m (x ∷ xs) ys a b = (a.0, finished_append m xs ys a.1 b)

-- ---- a finished description gives

-- the answer gives finished descriptions only
abbrev pub GivesFinished : Heights → Answer (List ℕ) → Type 0
GivesFinished m a = (vs : List ℕ) × (a ≡ gives vs) × Finished m vs

module _ (g : Graph) (m : Heights) (right : Right g m) where
  each_finished : (down : Use → Answer (List ℕ)) (h : ℕ)
      → ((p t a : ℕ) → m t ≡ height a → a < h → GivesFinished m (down (found p t)))
      → (us : List Use) (k : ℕ) → height_of m us ≡ height k → k ≤ h → GivesFinished m (each down us)
  unfolding height_of each
  each_finished down h one [] k e l = ([], refl, tt)
  each_finished down h one (missing p ∷ us) k e l = not_unfinished k e
  each_finished down h one (found p t ∷ us) k e l =
      let (x, y, ex, ey, ek) = higher_parts (m t) (height_of m us) k e in
      let (vs, ev, fv) = one p t x ex (omega arith) in
      let (ws, ew, fw) = each_finished down h one us y ey (omega arith) in
      (vs ++ ws, rw (ev, ew), finished_append m vs ws fv fw)

  -- a use of a finished description
  pub follow_finished : (left : ℕ) (chain : List ℕ) (p t h : ℕ) → m t ≡ height h → h < left → Above m h chain
      → GivesFinished m (follow g left chain (found p t))
  unfolding follow
  follow_finished zero chain p t h e l above = absurd (let z : ⊥ = omega arith in z)
  follow_finished (suc left) chain p t h e l above =
      let (vs, ev, fv) =
      each_finished (follow g left (t ∷ chain)) h
      (λ p' t' a e' l'.
      follow_finished left (t ∷ chain) p' t' a e' (omega arith)
      ((λ x q. let z = height_inj x h (sym q ∙ e) in omega arith), above_less m h a chain (omega arith) above))
      (g t) h (right t h e) (omega arith)
      in (t ∷ vs, rw (above_not_in m h t chain e above, ev), ((h, e), fv))

  -- the walk from a finished description
  pub walk_finished : (left : ℕ) (chain : List ℕ) (t h : ℕ) → m t ≡ height h → h ≤ left → Above m h chain
      → GivesFinished m (walk g left chain t)
  unfolding walk
  walk_finished left chain t h e l above =
      let (vs, ev, fv) =
      each_finished (follow g left (t ∷ chain)) h
      (λ p' t' a e' l'.
      follow_finished left (t ∷ chain) p' t' a e' (omega arith)
      ((λ x q. let z = height_inj x h (sym q ∙ e) in omega arith), above_less m h a chain (omega arith) above))
      (g t) h (right t h e) (omega arith)
      in (t ∷ vs, rw ev, ((h, e), fv))
