-- What the functions that lex parts of an item give.
-- Assumes nothing.
use Rattle.std.specs.Prelude.{Bool, true, false, ◌&&◌, not, List, ℕ, ◌+◌, eqb, Option, Some, None}
use Prim.Native.Char.{code}
use Rattle.base.specs.If.{when◌then◌else◌}
use Rattle.expansion.specs.declared.Item.TheVariants.{Constant}
use Rattle.expansion.specs.declared.Lexed.{Lexed}
use Rattle.expansion.specs.declared.Classed.{Classed}
use Rattle.expansion.specs.Items.{byte_at, is_nonzero, lexed, wrong, width_at}
use Rattle.expansion.specs.Form.{class_of}
use Rattle.item_parts.specs.declared.Braced.{Braced}

-- an item's class and the place behind it
abbrev pub item_class : Lexed → Classed
item_class l = record { class = class_of l.item; next = l.next }

-- a byte that is no NUL, and `'`, behind the place j
abbrev pub quoted : List ℕ → ℕ → Bool
quoted s j = not (eqb (byte_at s (j + 1)) 0) && eqb (byte_at s (j + 2)) (code "'")

-- the constant in braces whose `{` is at j
abbrev pub lexed_constant : Option Braced → ℕ → Lexed
lexed_constant (Some b) j = lexed (Constant b.value) b.next
lexed_constant None j = wrong j

-- the item whose second byte, at j, starts no other item
abbrev pub other_at : List ℕ → ℕ → Lexed
other_at s j =
    when eqb (byte_at s j) (code "0") then width_at s (j + 1) true
    else when is_nonzero (byte_at s j) then width_at s j false
    else wrong (j + 1)
