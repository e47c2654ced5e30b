-- A law that the proofs cite: a line of counts from its runs.
-- Assumes nothing.
use mathlib.Core.List.{List, ◌++◌, append_assoc}
use Prim.Native.Nat.{ℕ, ◌+◌, ◌≤◌}
use native.Mathlib.Omega.{arith}
use lib.ListN.{length}
use Rattle.shown.specs.Puts.{Puts}
use Rattle.shown.proofs.PutsLaws.{puts_then}

-- words, and three numbers each with a text behind it
pub counts_puts : {b₀ b₁ b₂ b₃ b₄ t : List ℕ} (d₁ t₁ d₂ t₂ d₃ t₃ : List ℕ) {m m₁ m₂ m₃ e₁ e₂ e₃ e₄ : ℕ} → Puts b₀ b₁ 0 t m e₁ → Puts b₁ b₂ e₁ (d₁ ++ t₁) m₁ e₂
    → Puts b₂ b₃ e₂ (d₂ ++ t₂) m₂ e₃ → Puts b₃ b₄ e₃ (d₃ ++ t₃) m₃ e₄ → ((m + m₁) + m₂) + m₃ ≤ length b₀
    → Puts b₀ b₄ 0 (t ++ (d₁ ++ (t₁ ++ (d₂ ++ (t₂ ++ (d₃ ++ t₃)))))) (((m + m₁) + m₂) + m₃) e₄
counts_puts d₁ t₁ d₂ t₂ d₃ t₃ p q r s h = simp append_assoc at (puts_then (puts_then (puts_then p q (omega arith)) r (omega arith)) s (omega arith))
