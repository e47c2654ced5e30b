-- Laws of lines from their runs.
-- Assumes nothing.
use mathlib.Core.Path.{refl}
use mathlib.Core.List.{List, [], ◌∷◌, ◌++◌, append_assoc}
use Prim.Native.Nat.{ℕ, ◌+◌, ◌≤◌}
use native.Mathlib.Omega.{arith}
use lib.ListN.{length}
use Rattle.shown.specs.Puts.{Puts, Holds}
use Rattle.shown.proofs.PutsLaws.{counted, puts_then}

-- a name and a sign, and what stands behind them
pub named_puts : {b₀ b₁ b₂ : List ℕ} (name : List ℕ) (sign : ℕ) {ys : List ℕ} {m n middle end : ℕ} → Puts b₀ b₁ 0 (name ++ (sign ∷ [])) m middle → Puts b₁ b₂ middle ys n end
    → m + n ≤ length b₀ → Puts b₀ b₂ 0 (name ++ (sign ∷ ys)) (m + n) end
named_puts name sign {ys} p q h = rw (append_assoc name (sign ∷ []) ys) at (puts_then p q (omega arith))

-- no byte
pub holds_none : (b : List ℕ) → Holds 0 b []
holds_none b = (refl, counted 0 b (omega arith))
