-- Uses: the name in a use, read from the text; where it leads.
-- Assumes nothing.
use mathlib.Core.Path.{◌≡◌, refl, sym, ap, ◌∙◌, subst}
use mathlib.Core.List.{List}
use mathlib.Core.Logic.{◌⊎◌, inl, inr}
use Prim.Native.Nat.{ℕ, ◌+◌, ◌≤◌, ◌<◌}
use native.Mathlib.Omega.{arith}
use lib.ListN.{length, get_or, take, set}
use lib.Seq.{get_or-set_same, get_or-set_other}
use Rattle.base.proofs.IfLaws.{below_or}
use Rattle.text.specs.Heading.{alias_most}
use Rattle.text.specs.Strings.{Read, whole, malformed, read_at, read_bytes}
use Rattle.text.specs.Describing.{Description}
use Rattle.text.specs.Building.{having}
use Rattle.std.specs.Prelude.{Option, None, Some}
use Rattle.used_name.specs.Reads.{ReadsName}
use Rattle.compile_laws.specs.Listed.{used_name, target_of, Targets}

-- ---- the name in a use

-- a name that was found long may be malformed instead, and is empty then
long_or_empty : (r : Read) → ((r ≡ malformed → ⊥) → alias_most < length (read_bytes r))
    → (length (read_bytes r) ≡ 0) ⊎ (alias_most < length (read_bytes r))
unfolding read_bytes
long_or_empty (whole s k) h = inr (h (λ e. let z : ◌≡◌ {A = ℕ} 0 1 = cc in (let y : ⊥ = omega arith in y)))
long_or_empty malformed h = inl refl

module _ (u : Option ℕ) (t : List ℕ) (start : ℕ) (name : List ℕ) (h : ReadsName u t start name) where
  pub reads_name : (n : ℕ) → u ≡ Some n → (n ≤ alias_most) × (take n name ≡ read_bytes (read_at t start))
  reads_name n e = subst (λ (u : Option ℕ). ReadsName u t start name) e h

  pub reads_long : u ≡ None
      → (length (read_bytes (read_at t start)) ≡ 0) ⊎ (alias_most < length (read_bytes (read_at t start)))
  reads_long e = long_or_empty (read_at t start) (subst (λ (u : Option ℕ). ReadsName u t start name) e h)

-- ---- one target more

pub targets_more : (t : List ℕ) (ds : List Description) (places targets : List ℕ) (i x : ℕ) → i < length targets
    → Targets t ds places targets i → x ≡ target_of (having (used_name t (get_or places i 0)) ds)
    → Targets t ds places (set targets i x) (i + 1)
targets_more t ds places targets i x l h q j m =
    below_or j i
    (λ k. get_or-set_other targets i j x 0 (λ e. let y : ⊥ = omega arith in y) ∙ h j k)
    (λ k. let e : j ≡ i = omega arith in
    ap (λ (j : ℕ). get_or (set targets i x) j 0) e ∙ get_or-set_same targets i x 0 l ∙ q
    ∙ ap (λ (j : ℕ). target_of (having (used_name t (get_or places j 0)) ds)) (sym e))
