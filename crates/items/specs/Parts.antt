-- What the functions below `item_at` require and give.
-- Assumes nothing.
use Rattle.std.specs.Prelude.{◌≡◌, List, [], ◌∷◌, ℕ, ◌+◌}
use Prim.Native.Char.{code}
use Rattle.base.specs.Tabulate.{Each}
use Rattle.expansion.specs.declared.Item.{Item}
use Rattle.expansion.specs.declared.Item.TheVariants as I
use Rattle.expansion.specs.Items.{byte_at}
use Rattle.item_parts.specs.Right.{RightItem}
use Rattle.expansion.specs.declared.Lexed.{Lexed}
use Rattle.items.specs.declared.RunItem.{RunItem}
use Rattle.items.specs.declared.RunItem.TheVariants.{Number, Constant, Other}

-- an item that is not wrong
abbrev pub Right : Lexed → Type 0
Right l = l.item ≡ I.Wrong → ⊥

-- an item and the place behind it, as the run reads them
abbrev pub read_item : Item → ℕ → RunItem
read_item (I.Byte b) next = Other (I.Byte b) next
read_item (I.Argument n) next = Other (I.Argument n) next
read_item (I.Number base zero width) next = Number base zero width next
read_item I.Character next = Other I.Character next
read_item I.Text next = Other I.Text next
read_item I.Length next = Other I.Length next
read_item (I.Constant v) next = Constant v next
read_item (I.Store c) next = Other (I.Store c) next
read_item (I.Load c) next = Other (I.Load c) next
read_item (I.Binary o) next = Other (I.Binary o) next
read_item I.Not next = Other I.Not next
read_item I.Invert next = Other I.Invert next
read_item I.Increment next = Other I.Increment next
read_item I.If next = Other I.If next
read_item I.Then next = Other I.Then next
read_item I.Else next = Other I.Else next
read_item I.End next = Other I.End next
read_item I.Wrong next = Other I.Wrong next

abbrev pub other_item : Lexed → RunItem
other_item l = read_item l.item l.next

-- a right `%?` stands at i
pub record IfAt (s : List ℕ) (i : ℕ) : Type 0 where
  pub right : RightItem s i
  pub percent : byte_at s i ≡ code "%"
  pub question : byte_at s (i + 1) ≡ code "?"

-- a byte behind `%` that `item_at` leaves to `other_at`
abbrev pub LeftToOther : ℕ → Type 0
LeftToOther c =
    Each (λ k. c ≡ k → ⊥)
    (code "p" ∷ code "'" ∷ code "{" ∷ code "?" ∷ code "t" ∷ code "e" ∷ code ";" ∷ code "i" ∷ code "s" ∷ code "l" ∷ [])
