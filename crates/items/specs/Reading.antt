-- What the items of a run are.
-- Assumes nothing.
use Rattle.std.specs.Prelude.{◌≡◌, List, ℕ, ◌+◌, ◌≤◌, ◌<◌, length}
use Rattle.expansion.specs.declared.Item.TheVariants as I
use Rattle.expansion.specs.declared.Lexed.{Lexed}
use Rattle.expansion.specs.Items.{lexed, item_at}
use Rattle.item_parts.specs.Right.{Simple}
use Rattle.items.specs.declared.RunItem.{RunItem}
use Rattle.items.specs.declared.RunItem.TheVariants.{Byte, Argument, Test, Number, Constant, If, Then, Else}
use Rattle.items.specs.declared.RunItem.TheVariants.{End, Increment, Text, Length, Other}

-- the item that starts at place i, and the place behind it; of `%?`, an argument and `%t` in a row the first
abbrev pub lexed_item : ℕ → RunItem → Lexed
lexed_item i (Byte c) = lexed (I.Byte c) (i + 1)
lexed_item i (Argument n) = lexed (I.Argument n) (i + 3)
lexed_item i (Test n) = lexed I.If (i + 2)
lexed_item i (Number base zero width next) = lexed (I.Number base zero width) next
lexed_item i (Constant v next) = lexed (I.Constant v) next
lexed_item i If = lexed I.If (i + 2)
lexed_item i Then = lexed I.Then (i + 2)
lexed_item i Else = lexed I.Else (i + 2)
lexed_item i End = lexed I.End (i + 2)
lexed_item i Increment = lexed I.Increment (i + 2)
lexed_item i Text = lexed I.Text (i + 2)
lexed_item i Length = lexed I.Length (i + 2)
lexed_item i (Other k next) = lexed k next

-- behind the `%?` at i the argument n and `%t`, within the string
pub record TestAt (s : List ℕ) (i n : ℕ) : Type 0 where
  pub argument : item_at s (i + 2) ≡ lexed (I.Argument n) (i + 5)
  pub test : item_at s (i + 5) ≡ lexed I.Then (i + 7)
  pub few : n < 9
  pub inside : i + 7 ≤ length s

-- what more is known of an item at i that is read so
abbrev pub Beside : List ℕ → ℕ → RunItem → Type 0
Beside s i (Byte c) = Unit {0}
Beside s i (Argument n) = Unit {0}
Beside s i (Test n) = TestAt s i n
Beside s i (Number base zero width next) = Unit {0}
Beside s i (Constant v next) = Unit {0}
Beside s i If = Unit {0}
Beside s i Then = Unit {0}
Beside s i Else = Unit {0}
Beside s i End = Unit {0}
Beside s i Increment = Unit {0}
Beside s i Text = Unit {0}
Beside s i Length = Unit {0}
Beside s i (Other k next) = Simple k

-- the item at i is read as r
abbrev pub ReadAs : List ℕ → ℕ → RunItem → Type 0
ReadAs s i r = (lexed_item i r ≡ item_at s i) × Beside s i r
