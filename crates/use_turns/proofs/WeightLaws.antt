-- Laws of the weight: it falls with each turn.
-- Assumes nothing.
use mathlib.Core.List.{List, [], ◌∷◌}
use Prim.Native.Nat.{ℕ, zero, suc, ◌≤◌, ◌<◌}
use native.Mathlib.Omega.{arith}
use lib.ListN.{length}
use Rattle.uses.specs.Walk.{Use}
use Rattle.uses.specs.Machine.{Frame, frame}
use Rattle.use_turns.specs.Weight.{times, power, weight}

times_le : (n m p : ℕ) → n ≤ m → times n p ≤ times m p
unfolding times
times_le zero m p l = omega arith
times_le (suc n) zero p l = absurd (let z : ⊥ = omega arith in z)
times_le (suc n) (suc m) p l = let h = times_le n m p (omega arith) in omega arith

times_lt : (n m p : ℕ) → n < m → 0 < p → times n p < times m p
unfolding times
times_lt n zero p l h = absurd (let z : ⊥ = omega arith in z)
times_lt n (suc m) p l h = let q = times_le n m p (omega arith) in omega arith

power_pos : (b k : ℕ) → 0 < b → 0 < power b k
unfolding power times
power_pos b zero h = omega arith
power_pos zero (suc k) h = absurd (let z : ⊥ = omega arith in z)
power_pos (suc b) (suc k) h = let q = power_pos (suc b) k h in omega arith

module _ (b : ℕ) (some-b : 0 < b) where
  pub weight_end : (left d : ℕ) (fs : List Frame) → weight b (suc left) fs < weight b left (frame d [] ∷ fs)
  unfolding weight times
  weight_end left d fs = let q = power_pos b left some-b in omega arith

  pub weight_pass : (left d : ℕ) (u : Use) (us : List Use) (fs : List Frame)
      → weight b left (frame d us ∷ fs) < weight b left (frame d (u ∷ us) ∷ fs)
  unfolding weight times
  weight_pass left d u us fs = let q = power_pos b left some-b in omega arith

  pub weight_enter : (left d t : ℕ) (u : Use) (us ts : List Use) (fs : List Frame) → suc (length ts) < b
      → weight b left (frame t ts ∷ (frame d us ∷ fs)) < weight b (suc left) (frame d (u ∷ us) ∷ fs)
  unfolding weight times power
  weight_enter left d t u us ts fs l =
      let q = times_lt (suc (length ts)) b (power b left) l (power_pos b left some-b) in
      omega arith
