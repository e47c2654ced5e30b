-- The parts of right items.
-- Assumes nothing.
use Rattle.std.specs.Prelude.{◌≡◌, Bool, List, ℕ, ◌<◌, length}
use Prim.Native.Char.{code}
use Rattle.expansion.specs.declared.Item.TheVariants.{Wrong}
use Rattle.expansion.specs.declared.Lexed.{Lexed}
use Rattle.expansion.specs.Items.{byte_at, digits_end, width_at}

-- what was lexed is an item
abbrev pub RightLexed : Lexed → Type 0
RightLexed l = l.item ≡ Wrong → ⊥

-- the digits from place j on end at a `}`
pub record Closed (s : List ℕ) (j : ℕ) : Type 0 where
  pub inside : digits_end s j < length s
  pub closed : byte_at s (digits_end s j) ≡ code "}"

-- a right number's format has its width at place k
abbrev pub RightWidth : List ℕ → ℕ → Type 0
RightWidth s k = (zero : Bool) × RightLexed (width_at s k zero)

-- r is the place behind the right number's format whose width is at k
abbrev pub WidthEnd : List ℕ → ℕ → ℕ → Type 0
WidthEnd s k r = (zero : Bool) → RightLexed (width_at s k zero) → r ≡ (width_at s k zero).next
