-- Items that are right; an argument that is tested; and items that the run leaves to `machine::take`.
-- Assumes nothing.
use Rattle.std.specs.Prelude.{◌≡◌, List, ℕ, ◌+◌, ◌-◌, ◌≤◌, ◌<◌, length}
use Prim.Native.Char.{code}
use Rattle.expansion.specs.declared.Item.{Item}
use Rattle.expansion.specs.declared.Item.TheVariants as I
use Rattle.expansion.specs.Items.{byte_at, lexed, item_at}

-- a right item starts at place i, as the check for 14 finds it
pub record RightItem (s : List ℕ) (i : ℕ) : Type 0 where
  pub inside : i < length s
  pub right : (item_at s i).item ≡ I.Wrong → ⊥

-- an argument and `%t` stand at i, within the string
pub record ArgumentTested (s : List ℕ) (i : ℕ) : Type 0 where
  pub argument : item_at s i ≡ lexed (I.Argument (byte_at s (i + 2) - code "1")) (i + 3)
  pub digit : (code "1" ≤ byte_at s (i + 2)) × (byte_at s (i + 2) ≤ code "9")
  pub test : item_at s (i + 3) ≡ lexed I.Then (i + 5)
  pub inside : i + 5 ≤ length s

-- an item that the run leaves to `machine::take`: no argument, number, text, constant, `%i`, `%t` or `%e`
abbrev pub Simple : Item → Type 0
Simple (I.Byte b) = Unit {0}
Simple (I.Argument n) = ⊥
Simple (I.Number b z w) = ⊥
Simple I.Character = Unit {0}
Simple I.Text = ⊥
Simple I.Length = ⊥
Simple (I.Constant v) = ⊥
Simple (I.Store c) = Unit {0}
Simple (I.Load c) = Unit {0}
Simple (I.Binary o) = Unit {0}
Simple I.Not = Unit {0}
Simple I.Invert = Unit {0}
Simple I.Increment = ⊥
Simple I.If = Unit {0}
Simple I.Then = ⊥
Simple I.Else = ⊥
Simple I.End = Unit {0}
Simple I.Wrong = Unit {0}
