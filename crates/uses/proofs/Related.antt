-- Two tree walks over related states give related states; what holds of all that descriptions come to, if it holds of
-- each one's own and of what two of them merge to; and the refusals.
-- Assumes nothing.
use Rattle.std.specs.Prelude.{◌≡◌, refl, Bool, get_or}
use Rattle.std.proofs.Common.{subst}
use Rattle.std.proofs.Math.Bool.{true, false}
use mathlib.Core.List.{List, [], ◌∷◌}
use Prim.Native.Nat.{ℕ, zero, suc, ◌≤◌}
use native.Mathlib.Omega.{arith}
use Rattle.base.specs.If.{when◌then◌else◌}
use Rattle.base.specs.Tabulate.{Each}
use Rattle.base.specs.Answer.{Answer, refused, gives}
use Rattle.uses.specs.Walk.{Use, missing, found, Graph, uses_most, bind, is_in, with_uses, brought, built}
use Rattle.uses.specs.Related.{RelatedAnswers, place_of, RefusedAt}

module _ {S T : Type 0} (R : S → T → Type 0) (overS : S → S → S) (overT : T → T → T) (own_s : ℕ → S) (ownT : ℕ → T)
    (merged : (a : S) (b : T) (c : S) (d : T) → R a b → R c d → R (overS a c) (overT b d))
    (owned : (d : ℕ) → R (own_s d) (ownT d)) where
  with_related : (f : Use → Answer S) (h : Use → Answer T) → ((u : Use) → RelatedAnswers R (f u) (h u))
      → (us : List Use) (x : S) (y : T) → R x y → RelatedAnswers R (with_uses overS f x us) (with_uses overT h y us)
  unfolding with_uses
  with_related f h one [] x y r = r
  with_related f h one (u ∷ us) x y r =
      by (f u) (h u) (one u) (λ a b q. with_related f h one us (overS x a) (overT y b) (merged x y a b r q))
    where
      by : (a : Answer S) (b : Answer T) → RelatedAnswers R a b
          → ((z : S) (w : T) → R z w
          → RelatedAnswers R (with_uses overS f (overS x z) us) (with_uses overT h (overT y w) us))
          → RelatedAnswers R (bind a (λ z. with_uses overS f (overS x z) us))
          (bind b (λ w. with_uses overT h (overT y w) us))
      by (refused n v) (refused m w) q rest = q
      by (refused n v) (gives b) q rest = absurd q
      by (gives a) (refused m w) q rest = absurd q
      by (gives a) (gives b) q rest = rest a b q

  brought_related : (g : Graph) (left : ℕ) (chain : List ℕ) (u : Use)
      → RelatedAnswers R (brought overS own_s g left chain u) (brought overT ownT g left chain u)
  unfolding brought
  brought_related g zero chain (missing p) = (refl, refl)
  brought_related g zero chain (found p t) = by (is_in t chain)
    where
      by : (b : Bool) → RelatedAnswers R (when b then refused 19 (p ∷ []) else refused 20 (p ∷ []))
          (when b then refused 19 (p ∷ []) else refused 20 (p ∷ []))
      by true = (refl, refl)
      by false = (refl, refl)
  brought_related g (suc left) chain (missing p) = (refl, refl)
  brought_related g (suc left) chain (found p t) =
      by (is_in t chain)
      (with_related (brought overS own_s g left (t ∷ chain)) (brought overT ownT g left (t ∷ chain))
      (λ u. brought_related g left (t ∷ chain) u) (g t) (own_s t) (ownT t) (owned t))
    where
      by : (b : Bool)
          → RelatedAnswers R (with_uses overS (brought overS own_s g left (t ∷ chain)) (own_s t) (g t))
          (with_uses overT (brought overT ownT g left (t ∷ chain)) (ownT t) (g t))
          → RelatedAnswers R
          (when b then refused 19 (p ∷ [])
          else with_uses overS (brought overS own_s g left (t ∷ chain)) (own_s t) (g t))
          (when b then refused 19 (p ∷ [])
          else with_uses overT (brought overT ownT g left (t ∷ chain)) (ownT t) (g t))
      by true q = (refl, refl)
      by false q = q

  pub built_related : (g : Graph) (d : ℕ) → RelatedAnswers R (built overS own_s g d) (built overT ownT g d)
  built_related g d =
      with_related (brought overS own_s g uses_most (d ∷ [])) (brought overT ownT g uses_most (d ∷ []))
      (brought_related g uses_most (d ∷ [])) (g d) (own_s d) (ownT d) (owned d)

-- what holds of each description's own, and of two merged if of both, holds of what is given
pub built_keeps : {S : Type 0} (over : S → S → S) (own : ℕ → S) (P : S → Type 0)
    → ((a b : S) → P a → P b → P (over a b)) → ((d : ℕ) → P (own d))
    → (g : Graph) (d : ℕ) (x : S) → built over own g d ≡ gives x → P x
built_keeps {S} over own P merged owned g d x e =
    by (built (λ a b. tt) (λ n. tt) g d)
    (subst (λ a. RelatedAnswers (λ y z. P y) a (built (λ a b. tt) (λ n. tt) g d)) e
    (built_related (λ y z. P y) over (λ a b. tt) own (λ n. tt) (λ a b c d. merged a c) owned g d))
  where
    by : (b : Answer (Unit {0})) → RelatedAnswers (λ y z. P y) (gives x) b → P x
    by (refused m w) q = absurd q
    by (gives z) q = q

module _ {S : Type 0} (over : S → S → S) (own : ℕ → S) (P : ℕ → Type 0) where
  with_refused : (f : Use → Answer S) → ((u : Use) → P (place_of u) → RefusedAt P (f u))
      → (us : List Use) (x : S) → Each (λ u. P (place_of u)) us → RefusedAt P (with_uses over f x us)
  unfolding with_uses
  with_refused f one [] x e = tt
  with_refused f one (u ∷ us) x e =
      by (f u) (one u e.0) (λ z. with_refused f one us (over x z) e.1)
    where
      by : (a : Answer S) → RefusedAt P a → ((z : S) → RefusedAt P (with_uses over f (over x z) us))
          → RefusedAt P (bind a (λ z. with_uses over f (over x z) us))
      by (refused n v) q rest = q
      by (gives z) q rest = rest z

  module _ (g : Graph) (places : (d : ℕ) → Each (λ u. P (place_of u)) (g d)) where
    brought_refused : (left : ℕ) (chain : List ℕ) (u : Use) → P (place_of u)
        → RefusedAt P (brought over own g left chain u)
    unfolding brought
    brought_refused zero chain (missing p) h = (omega arith, omega arith, h, refl)
    brought_refused zero chain (found p t) h = by (is_in t chain)
      where
        by : (b : Bool) → RefusedAt {S = S} P (when b then refused 19 (p ∷ []) else refused 20 (p ∷ []))
        by true = (omega arith, omega arith, h, refl)
        by false = (omega arith, omega arith, h, refl)
    brought_refused (suc left) chain (missing p) h = (omega arith, omega arith, h, refl)
    brought_refused (suc left) chain (found p t) h =
        by (is_in t chain)
        (with_refused (brought over own g left (t ∷ chain)) (λ u q. brought_refused left (t ∷ chain) u q) (g t) (own t)
        (places t))
      where
        by : (b : Bool) → RefusedAt P (with_uses over (brought over own g left (t ∷ chain)) (own t) (g t))
            → RefusedAt P
            (when b then refused 19 (p ∷ [])
            else with_uses over (brought over own g left (t ∷ chain)) (own t) (g t))
        by true q = (omega arith, omega arith, h, refl)
        by false q = q

    built_refused : (d : ℕ) → RefusedAt P (built over own g d)
    built_refused d =
        with_refused (brought over own g uses_most (d ∷ [])) (brought_refused uses_most (d ∷ [])) (g d) (own d)
        (places d)

-- a refusal is 18, 19 or 20, with the place of a use
pub built_refusals : {S : Type 0} (over : S → S → S) (own : ℕ → S) (P : ℕ → Type 0) (g : Graph)
    → ((d : ℕ) → Each (λ u. P (place_of u)) (g d))
    → (d n : ℕ) (v : List ℕ) → built over own g d ≡ refused n v
    → (18 ≤ n) × (n ≤ 20) × P (get_or v 0 0) × (v ≡ get_or v 0 0 ∷ [])
built_refusals over own P g places d n v e = subst (RefusedAt P) e (built_refused over own P g places d)
