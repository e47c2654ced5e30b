-- The last arm of a match on a number: the number is none of the keys.
-- Assumes nothing.
use mathlib.Core.Path.{◌≡◌, sym}
use mathlib.Core.List.{List, [], ◌∷◌}
use Prim.Native.Nat.{ℕ, zero, suc, ◌<◌}
use native.Mathlib.Nat.{not-suc-le-zero, le_of_suc-le-suc}
use lib.ListN.{length, get_or}

-- x is none of the keys, as a match leaves it in its last arm
abbrev pub NoKey : Type 0 → List ℕ → ℕ → Type 0
NoKey A [] x = A
NoKey A (k ∷ ks) x = NoKey (A × (x ≡ k → ⊥)) ks x

none_of : (A : Type 0) (ks : List ℕ) (x : ℕ) → NoKey A ks x → A × ((j : ℕ) → j < length ks → get_or ks j 0 ≡ x → ⊥)
none_of A [] x h = (h, λ j l q. not-suc-le-zero l)
none_of A (k ∷ ks) x h =
    let r : (A × (x ≡ k → ⊥)) × ((j : ℕ) → j < length ks → get_or ks j 0 ≡ x → ⊥) = none_of (A × (x ≡ k → ⊥)) ks x h in
    (r.0.0, at r.0.1 r.1)
  where
    at : (x ≡ k → ⊥) → ((j : ℕ) → j < length ks → get_or ks j 0 ≡ x → ⊥) → (j : ℕ) → j < suc (length ks) → get_or (k ∷ ks) j 0 ≡ x → ⊥
    at f g zero l q = f (sym q)
    at f g (suc j) l q = g j (le_of_suc-le-suc l) q

pub no_key : (ks : List ℕ) (x : ℕ) → NoKey Unit ks x → (j : ℕ) → j < length ks → get_or ks j 0 ≡ x → ⊥
no_key ks x h = (none_of Unit ks x h).1
