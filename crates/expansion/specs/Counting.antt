-- How many items of a kind a string has, and the room that its output needs at most (document 02, 2026-06 and
-- 2026-07). The items of a string follow one another from its first byte on.
-- Assumes nothing.
use Rattle.std.specs.Prelude.{Bool, true, false, List, ℕ, zero, suc, ◌+◌, ◌*◌, ltb, length}
use Rattle.base.specs.If.{when◌then◌else◌}
use Rattle.expansion.specs.Limits.{room_for, text_most}
use Rattle.expansion.specs.declared.Item.{Item}
use Rattle.expansion.specs.declared.Item.TheVariants as I
use Rattle.expansion.specs.Items.{item_at}

-- the items from place i on that pass a test; the count falls with each item; the string's length is enough
-- (count_enough of expansion_laws)
unfoldable pub count_from : (Item → Bool) → ℕ → List ℕ → ℕ → ℕ
count_from ok zero s i = 0
count_from ok (suc k) s i =
    elim (ltb i (length s)) [
      | true ↦ (when ok (item_at s i).item then 1 else 0) + count_from ok k s (item_at s i).next
      | false ↦ 0
    ]

abbrev pub count_of : (Item → Bool) → List ℕ → ℕ
count_of ok s = count_from ok (length s) s 0

-- `%s`
unfoldable pub prints_text : Item → Bool
prints_text (I.Byte b) = false
prints_text (I.Argument n) = false
prints_text (I.Number b z w) = false
prints_text I.Character = false
prints_text I.Text = true
prints_text I.Length = false
prints_text (I.Constant v) = false
prints_text (I.Store c) = false
prints_text (I.Load c) = false
prints_text (I.Binary o) = false
prints_text I.Not = false
prints_text I.Invert = false
prints_text I.Increment = false
prints_text I.If = false
prints_text I.Then = false
prints_text I.Else = false
prints_text I.End = false
prints_text I.Wrong = false

-- the bytes that an accepted string produces at most, where no text has more than a number of bytes; that number is 0
-- where all arguments are numbers
abbrev pub room_with : ℕ → List ℕ → ℕ
room_with most s = room_for (length s) + most * count_of prints_text s

-- "25 times n plus 1,000 per `%s` item"
abbrev pub room_of : List ℕ → ℕ
room_of s = room_with text_most s
