-- A loop as a definition. One turn goes on with another value or stops with a result; the number m
-- falls with each turn that goes on, so that the loop is the repetition of its turn, and d stands for no result.
-- Assumes nothing.
use Rattle.std.specs.Prelude.{ℕ, zero, suc}

pub data Turn (S R : Type 0) : Type 0 where
  go : S → Turn S R
  stop : R → Turn S R

unfoldable pub turns : {S R : Type 0} → (S → Turn S R) → R → ℕ → S → R
turns turn d zero s = d
turns turn d (suc f) s = elim (turn s) [ go s' ↦ turns turn d f s' | stop r ↦ r ]

unfoldable pub loop : {S R : Type 0} → (S → ℕ) → (S → Turn S R) → R → S → R
loop m turn d s = turns turn d (suc (m s)) s
