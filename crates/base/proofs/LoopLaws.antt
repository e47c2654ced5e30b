-- Laws of the loop.
-- Assumes nothing.
use mathlib.Core.Path.{◌≡◌, refl, sym, ◌∙◌}
use Prim.Native.Nat.{ℕ, zero, suc, ◌<◌}
use native.Mathlib.Nat.{not-suc-le-zero, le_refl}
use native.Mathlib.Omega.{arith}
use Rattle.base.specs.Loop.{Turn, turns, loop, go, stop}

module _ {S R : Type 0} (m : S → ℕ) (turn : S → Turn S R) (falls : (s s' : S) → turn s ≡ go s' → m s' < m s) (d : R) where
  step_go : (f : ℕ) (s s' : S) → turn s ≡ go s' → turns turn d (suc f) s ≡ turns turn d f s'
  unfolding turns
  step_go f s s' e = rw (e, turns)

  step_stop : (f : ℕ) (s : S) (r : R) → turn s ≡ stop r → turns turn d (suc f) s ≡ r
  unfolding turns
  step_stop f s r e = rw (e, turns)

  -- any number above m s is enough
  enough : (f g : ℕ) (s : S) → m s < f → m s < g → turns turn d f s ≡ turns turn d g s
  enough zero g s hf hg = absurd (not-suc-le-zero hf)
  enough (suc f) zero s hf hg = absurd (not-suc-le-zero hg)
  enough (suc f) (suc g) s hf hg = by_turn (turn s) refl (λ s' lf lg. enough f g s' lf lg)
    where
      by_turn : (u : Turn S R) → turn s ≡ u
          → ((s' : S) → m s' < f → m s' < g → turns turn d f s' ≡ turns turn d g s')
          → turns turn d (suc f) s ≡ turns turn d (suc g) s
      by_turn (go s') e rest =
          let lt = falls s s' e in
          step_go f s s' e ∙ rest s' (omega arith) (omega arith) ∙ sym (step_go g s s' e)
      by_turn (stop r) e rest = step_stop f s r e ∙ sym (step_stop g s r e)

  pub loop_go : (s s' : S) → turn s ≡ go s' → loop m turn d s ≡ loop m turn d s'
  unfolding loop
  loop_go s s' e =
      let lt = falls s s' e in
      step_go (m s) s s' e ∙ enough (m s) (suc (m s')) s' lt (le_refl (suc (m s')))

  pub loop_stop : (s : S) (r : R) → turn s ≡ stop r → loop m turn d s ≡ r
  unfolding loop
  loop_stop s r e = step_stop (m s) s r e

  -- what holds where a turn stops, and before a turn that goes on if after it, holds of the loop
  module _ (Q : S → R → Type 0)
      (at_stop : (s : S) (r : R) → turn s ≡ stop r → Q s r)
      (at_go : (s s' : S) (r : R) → turn s ≡ go s' → Q s' r → Q s r) where
    by_fuel : (f : ℕ) (s : S) → m s < f → Q s (turns turn d f s)
    by_fuel zero s h = absurd (not-suc-le-zero h)
    by_fuel (suc f) s h = by_turn (turn s) refl (λ s' l. by_fuel f s' l)
      where
        by_turn : (u : Turn S R) → turn s ≡ u → ((s' : S) → m s' < f → Q s' (turns turn d f s')) → Q s (turns turn d (suc f) s)
        by_turn (go s') e rest =
            let lt = falls s s' e in
            rw (step_go f s s' e) (at_go s s' (turns turn d f s') e (rest s' (omega arith)))
        by_turn (stop r) e rest = rw (step_stop f s r e) (at_stop s r e)

    pub loop_ind : (s : S) → Q s (loop m turn d s)
    unfolding loop
    loop_ind s = by_fuel (suc (m s)) s (le_refl (suc (m s)))
