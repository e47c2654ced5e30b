-- What a description comes to along the tree of its uses is what the walk gives, put one after the other.
-- Assumes nothing.
use Rattle.std.specs.Prelude.{◌≡◌, Bool}
use Rattle.std.proofs.Math.Path.{refl, ap}
use Rattle.std.proofs.Common.{sym, ◌∙◌, arith}
use Rattle.std.proofs.Math.Bool.{true, false}
use mathlib.Core.List.{List, [], ◌∷◌, ◌++◌}
use Prim.Native.Nat.{ℕ, zero, suc}
use Rattle.base.specs.If.{when◌then◌else◌}
use Rattle.base.specs.Answer.{Answer, refused, gives, map_answer}
use Rattle.uses.specs.Walk.{Use, missing, found, Graph, uses_most, bind, is_in, with_uses, brought, built}
use Rattle.uses.specs.Plain.{both, each, follow, walk, wanted}
use Rattle.uses.specs.Once.{put_all, FirstStands, put_append}
use Rattle.uses.specs.Fast.{fast}
use Rattle.uses.specs.FastLaws.{fast_walk}

not_gives : {S : Type 0} {A : Type 0} (n : ℕ) (v : List ℕ) (x : S) → ◌≡◌ {A = Answer S} (refused n v) (gives x) → A
not_gives n v x e = absurd (let z : ◌≡◌ {A = ℕ} 0 1 = cc in (let y : ⊥ = omega arith in y))

gives_inj : {S : Type 0} (x y : S) → ◌≡◌ {A = Answer S} (gives x) (gives y) → x ≡ y
gives_inj x y e = cc

module _ {S : Type 0} (over : S → S → S) (own : ℕ → S) where
  -- one more description
  abbrev put : S → ℕ → S
  put s v = over s (own v)

  -- two lists, put one after the other
  map_append : (s : S) (xs : List ℕ) (a : Answer (List ℕ))
      → map_answer (put_all put (put_all put s xs)) a ≡ map_answer (put_all put s) (map_answer (λ ys. xs ++ ys) a)
  map_append s xs (refused n v) = refl
  map_append s xs (gives ys) = ap gives (sym (put_append put s xs ys))

  module _ (down : Use → Answer S) (plain : Use → Answer (List ℕ))
      (one : (x : S) (u : Use) → map_answer (over x) (down u) ≡ map_answer (put_all put x) (plain u)) where
    with_each : (y : S) (us : List Use) → with_uses over down y us ≡ map_answer (put_all put y) (each plain us)
    unfolding with_uses each put_all
    with_each y [] = refl
    with_each y (u ∷ us) = by (down u) (plain u) (one y u) (λ z. with_each (over y z) us)
      where
        by : (a : Answer S) (b : Answer (List ℕ)) → map_answer (over y) a ≡ map_answer (put_all put y) b
            → ((z : S) → with_uses over down (over y z) us ≡ map_answer (put_all put (over y z)) (each plain us))
            → bind a (λ z. with_uses over down (over y z) us) ≡ map_answer (put_all put y) (both b (each plain us))
        by (refused n v) (refused m w) h rest = h
        by (refused n v) (gives xs) h rest = not_gives n v (put_all put y xs) h
        by (gives z) (refused m w) h rest = not_gives m w (over y z) (sym h)
        by (gives z) (gives xs) h rest =
            rest z
            ∙ (ap (λ s. map_answer (put_all put s) (each plain us)) (gives_inj (over y z) (put_all put y xs) h)
            ∙ map_append y xs (each plain us))

  module _ (assoc : (a b c : S) → over (over a b) c ≡ over a (over b c)) where
    over_put : (x y : S) (vs : List ℕ) → over x (put_all put y vs) ≡ put_all put (over x y) vs
    unfolding put_all
    over_put x y [] = refl
    over_put x y (v ∷ vs) = over_put x (over y (own v)) vs ∙ ap (λ s. put_all put s vs) (sym (assoc x y (own v)))

    over_first : (x : S) (t : ℕ) (a : Answer (List ℕ))
        → map_answer (over x) (map_answer (put_all put (own t)) a)
        ≡ map_answer (put_all put x) (both (gives (t ∷ [])) a)
    unfolding put_all
    over_first x t (refused n v) = refl
    over_first x t (gives vs) = ap gives (over_put x (own t) vs)

    -- what a use brings, below x, is what it leads to, put after x
    brought_follow : (g : Graph) (left : ℕ) (chain : List ℕ) (x : S) (u : Use)
        → map_answer (over x) (brought over own g left chain u) ≡ map_answer (put_all put x) (follow g left chain u)
    unfolding brought follow
    brought_follow g zero chain x (missing p) = refl
    brought_follow g zero chain x (found p t) = by (is_in t chain)
      where
        by : (b : Bool) → map_answer (over x) (when b then refused 19 (p ∷ []) else refused 20 (p ∷ []))
            ≡ map_answer (put_all put x) (when b then refused 19 (p ∷ []) else refused 20 (p ∷ []))
        by true = refl
        by false = refl
    brought_follow g (suc left) chain x (missing p) = refl
    brought_follow g (suc left) chain x (found p t) =
        by (is_in t chain) (λ y u. brought_follow g left (t ∷ chain) y u)
      where
        by : (b : Bool)
            → ((y : S) (u : Use) → map_answer (over y) (brought over own g left (t ∷ chain) u)
            ≡ map_answer (put_all put y) (follow g left (t ∷ chain) u))
            → map_answer (over x)
            (when b then refused 19 (p ∷ [])
            else with_uses over (brought over own g left (t ∷ chain)) (own t) (g t))
            ≡ map_answer (put_all put x)
            (when b then refused 19 (p ∷ [])
            else both (gives (t ∷ [])) (each (follow g left (t ∷ chain)) (g t)))
        by true one = refl
        by false one =
            ap (map_answer (over x))
            (with_each (brought over own g left (t ∷ chain)) (follow g left (t ∷ chain)) one (own t) (g t))
            ∙ over_first x t (each (follow g left (t ∷ chain)) (g t))

    built_walk : (g : Graph) (s : S) (d : ℕ) → over s (own d) ≡ own d
        → built over own g d ≡ map_answer (put_all put s) (wanted g d)
    unfolding walk put_all
    built_walk g s d start =
        with_each (brought over own g uses_most (d ∷ [])) (follow g uses_most (d ∷ []))
        (brought_follow g uses_most (d ∷ [])) (own d) (g d)
        ∙ by (each (follow g uses_most (d ∷ [])) (g d))
      where
        by : (a : Answer (List ℕ))
            → map_answer (put_all put (own d)) a ≡ map_answer (put_all put s) (both (gives (d ∷ [])) a)
        by (refused n v) = refl
        by (gives vs) = ap (λ x. gives (put_all put x vs)) (sym start)

-- s is a state that adds nothing to the description's own, such as one that says nothing
pub tree_walk : {S : Type 0} (over : S → S → S) (own : ℕ → S)
    → ((a b c : S) → over (over a b) c ≡ over a (over b c))
    → (g : Graph) (s : S) (d : ℕ) → over s (own d) ≡ own d
    → built over own g d ≡ map_answer (put_all (λ s v. over s (own v)) s) (wanted g d)
tree_walk over own assoc g s d start = built_walk over own assoc g s d start

-- and what the walk with heights gives
pub tree_fast : {S : Type 0} (over : S → S → S) (own : ℕ → S)
    → ((a b c : S) → over (over a b) c ≡ over a (over b c))
    → FirstStands (λ s v. over s (own v))
    → (g : Graph) (s : S) (d : ℕ) → over s (own d) ≡ own d
    → built over own g d ≡ fast (λ s v. over s (own v)) g s d
tree_fast over own assoc first g s d start =
    tree_walk over own assoc g s d start ∙ sym (fast_walk (λ s v. over s (own v)) first g s d)
