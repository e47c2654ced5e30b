-- What is usual in source text, for which the code has a short way.
-- Assumes nothing.
use Rattle.std.specs.Prelude.{◌≡◌, Bool, ◌&&◌, List, ℕ, ◌+◌, ◌*◌, ◌%◌, eqb, get_or}
use Rattle.base.specs.If.{when◌then◌else◌}
use Rattle.text.specs.declared.StringItem.TheVariants as S
use Rattle.text.specs.Bytes.{between}
use Rattle.text.specs.Strings.{is_control, string_item_at, stored_byte}
use Rattle.contents.specs.declared.Usual.{Usual}
use Rattle.contents.specs.declared.Usual.TheVariants.{Itself, End, Pair, Octal, Other}

-- `\E` stands at i: 92 is the backslash
unfoldable pub is_escape : List ℕ → ℕ → Bool
is_escape t i = eqb (get_or t i 0) 92 && eqb (get_or t (i + 1) 0) 69

-- `^` with a code that makes it a control character stands at i: 94 is the caret
unfoldable pub is_control_at : List ℕ → ℕ → Bool
is_control_at t i = eqb (get_or t i 0) 94 && is_control (get_or t (i + 1) 0)

-- a backslash and three octal digits of at most 255 stand at i: 48 is the digit 0
unfoldable pub is_octal : List ℕ → ℕ → Bool
is_octal t i =
    eqb (get_or t i 0) 92
    && (between 48 51 (get_or t (i + 1) 0)
    && (between 48 55 (get_or t (i + 2) 0) && between 48 55 (get_or t (i + 3) 0)))

-- the byte that either of the first two stands for
unfoldable pub pair_of : List ℕ → ℕ → ℕ
pair_of t i = when eqb (get_or t i 0) 94 then get_or t (i + 1) 0 % 32 else 27

-- the byte that the third stands for
unfoldable pub octal_value : List ℕ → ℕ → ℕ
octal_value t i = get_or t (i + 1) 0 % 4 * 64 + get_or t (i + 2) 0 % 8 * 8 + get_or t (i + 3) 0 % 8

-- what is so of the item at i; nothing is said of another
abbrev pub Tells : Usual → List ℕ → ℕ → Type 0
Tells Itself t i = (string_item_at t i ≡ S.Byte (get_or t i 0) (i + 1)) × (stored_byte (get_or t i 0) ≡ get_or t i 0)
Tells End t i = string_item_at t i ≡ S.End
Tells Pair t i = string_item_at t i ≡ S.Byte (pair_of t i) (i + 2)
Tells Octal t i = string_item_at t i ≡ S.Byte (octal_value t i) (i + 4)
Tells Other t i = Unit {0}
