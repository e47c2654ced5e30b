-- The walk that keeps heights, turn by turn: a frame for each open description, with the uses that are left of it.
-- Assumes nothing.
use Rattle.std.specs.Prelude.{◌≡◌, true, false}
use Rattle.std.proofs.Math.Path.{refl}
use mathlib.Core.List.{List, [], ◌∷◌}
use Prim.Native.Nat.{ℕ, zero, suc}
use Rattle.base.specs.Answer.{Answer, refused, gives, map_answer}
use Rattle.uses.specs.Walk.{Use, missing, found, Graph, uses_most, is_in, bind}
use Rattle.uses.specs.Heights.{fits}
use Rattle.uses.specs.Fast.{Met, enter, finish, fast_each, fast_follow, start, fast}

-- an open description and its uses that are not followed yet
pub data Frame : Type 0 where
  frame : ℕ → List Use → Frame

abbrev pub opened : Frame → ℕ
opened (frame d us) = d

-- the open descriptions, the last one first
unfoldable pub chain_of : List Frame → List ℕ
chain_of [] = []
chain_of (f ∷ fs) = opened f ∷ chain_of fs

module _ {S : Type 0} (put : S → ℕ → S) (g : Graph) where
  -- what is left of a walk: the first frame's uses, with `left` uses allowed on the chain, then the other frames'
  unfoldable pub resume : ℕ → List Frame → Met S → Answer (Met S)
  resume left [] s = gives s
  resume left (frame d us ∷ fs) s =
      bind (fast_each (fast_follow put g left (d ∷ chain_of fs)) us s) (λ r. resume (suc left) fs (finish g d r))

  -- ---- a turn

  pub turn_end : (left d : ℕ) (fs : List Frame) (s : Met S)
      → resume left (frame d [] ∷ fs) s ≡ resume (suc left) fs (finish g d s)
  unfolding resume fast_each
  turn_end left d fs s = refl

  pub turn_missing : (left d p : ℕ) (us : List Use) (fs : List Frame) (s : Met S)
      → resume left (frame d (missing p ∷ us) ∷ fs) s ≡ refused 18 (p ∷ [])
  unfolding resume fast_each fast_follow
  turn_missing zero d p us fs s = refl
  turn_missing (suc left) d p us fs s = refl

  pub turn_back : (left d p t : ℕ) (us : List Use) (fs : List Frame) (s : Met S) → is_in t (d ∷ chain_of fs) ≡ true
      → resume left (frame d (found p t ∷ us) ∷ fs) s ≡ refused 19 (p ∷ [])
  unfolding resume fast_each fast_follow
  turn_back zero d p t us fs s e = rw e
  turn_back (suc left) d p t us fs s e = rw e

  pub turn_ninth : (d p t : ℕ) (us : List Use) (fs : List Frame) (s : Met S) → is_in t (d ∷ chain_of fs) ≡ false
      → resume zero (frame d (found p t ∷ us) ∷ fs) s ≡ refused 20 (p ∷ [])
  unfolding resume fast_each fast_follow
  turn_ninth d p t us fs s e = rw e

  pub turn_pass : (left d p t : ℕ) (us : List Use) (fs : List Frame) (s : Met S) → is_in t (d ∷ chain_of fs) ≡ false
      → fits (s.heights t) (suc left) ≡ true
      → resume (suc left) (frame d (found p t ∷ us) ∷ fs) s ≡ resume (suc left) (frame d us ∷ fs) s
  unfolding resume fast_each fast_follow
  turn_pass left d p t us fs s e f = rw (e, f)

  pub turn_enter : (left d p t : ℕ) (us : List Use) (fs : List Frame) (s : Met S) → is_in t (d ∷ chain_of fs) ≡ false
      → fits (s.heights t) (suc left) ≡ false
      → resume (suc left) (frame d (found p t ∷ us) ∷ fs) s
      ≡ resume left (frame t (g t) ∷ (frame d us ∷ fs)) (enter put t s)
  unfolding resume fast_each fast_follow chain_of
  turn_enter left d p t us fs s e f =
      rw (e, f) (by (fast_each (fast_follow put g left (t ∷ (d ∷ chain_of fs))) (g t) (enter put t s)))
    where
      by : (a : Answer (Met S))
          → bind (bind (map_answer (finish g t) a) (fast_each (fast_follow put g (suc left) (d ∷ chain_of fs)) us))
          (λ r. resume (suc (suc left)) fs (finish g d r))
          ≡ bind a
          (λ r.
          bind (fast_each (fast_follow put g (suc left) (d ∷ chain_of fs)) us (finish g t r))
          (λ r. resume (suc (suc left)) fs (finish g d r)))
      by (refused n v) = refl
      by (gives r) = refl

  -- the whole walk
  pub turn_first : (s : S) (d : ℕ)
      → map_answer (λ r. r.state) (resume uses_most (frame d (g d) ∷ []) (enter put d (start s))) ≡ fast put g s d
  unfolding resume fast chain_of finish
  turn_first s d = by (fast_each (fast_follow put g uses_most (d ∷ [])) (g d) (enter put d (start s)))
    where
      by : (a : Answer (Met S))
          → map_answer (λ r. r.state) (bind a (λ r. resume (suc uses_most) [] (finish g d r)))
          ≡ map_answer (λ r. r.state) a
      by (refused n v) = refl
      by (gives r) = refl
