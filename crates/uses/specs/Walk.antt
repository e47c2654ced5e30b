-- Descriptions that use others (document 02, 2026-02): what one comes to along the tree of its uses. A description is
-- known by its number in the text; S is what a description says, and `over` merges two of them.
-- Assumes nothing.
use Rattle.std.specs.Prelude.{Bool, false, ◌||◌, List, [], ◌∷◌, ℕ, zero, suc, eqb}
use Rattle.base.specs.If.{when◌then◌else◌}
use Rattle.base.specs.Answer.{Answer, refused, gives}

-- a `use` field, whose first byte is at a place: no description has the name, or the description that has it
pub data Use : Type 0 where
  missing : ℕ → Use
  found : ℕ → ℕ → Use

-- the uses of each description, from left to right
abbrev pub Graph : Type 0
Graph = ℕ → List Use

-- "20 the ninth `use` of a chain"
abbrev pub uses_most : ℕ
uses_most = 8

-- what follows from what is given
abbrev pub bind : {A B : Type 0} → Answer A → (A → Answer B) → Answer B
bind (refused n v) g = refused n v
bind (gives x) g = g x

unfoldable pub is_in : ℕ → List ℕ → Bool
is_in d [] = false
is_in d (c ∷ chain) = eqb d c || is_in d chain

module _ {S : Type 0} (over : S → S → S) where
  -- x over what the uses bring, "from left to right, each followed down before the next"
  unfoldable pub with_uses : (Use → Answer S) → S → List Use → Answer S
  with_uses follow x [] = gives x
  with_uses follow x (u ∷ us) = bind (follow u) (λ (y : S). with_uses follow (over x y) us)

-- what a use brings, where the chain may still take `left` uses, and those of the chain are being worked on: "18 name
-- not found, 19 a chain that comes back to a description being worked on, 20 the ninth `use` of a chain"; else its
-- description's own over what that one's uses bring
unfoldable pub brought : {S : Type 0} → (S → S → S) → (ℕ → S) → Graph → (left : ℕ) (chain : List ℕ) → Use → Answer S
brought over own g zero chain (missing p) = refused 18 (p ∷ [])
brought over own g zero chain (found p d) = when is_in d chain then refused 19 (p ∷ []) else refused 20 (p ∷ [])
brought over own g (suc left) chain (missing p) = refused 18 (p ∷ [])
brought over own g (suc left) chain (found p d) =
    when is_in d chain then refused 19 (p ∷ [])
    else with_uses over (brought over own g left (d ∷ chain)) (own d) (g d)

-- what a description comes to: its own over what its uses bring
abbrev pub built : {S : Type 0} → (S → S → S) → (ℕ → S) → Graph → ℕ → Answer S
built over own g d = with_uses over (brought over own g uses_most (d ∷ [])) (own d) (g d)
