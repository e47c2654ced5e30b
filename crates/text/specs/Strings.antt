-- Strings of source text (document 01: Source text).
-- Assumes nothing.
use Rattle.std.specs.Prelude.{Bool, ◌||◌, List, [], ◌∷◌, ◌++◌, ℕ, ◌+◌, ◌-◌, ◌*◌, ◌%◌, eqb, leb, ltb, length, get_or}
use Rattle.std.specs.Prelude.{Option, Some, None}
use Prim.Native.Char.{code}
use Rattle.base.specs.If.{when◌then◌else◌}
use Rattle.base.specs.Loop.{Turn, go, stop, loop}
use Rattle.text.specs.declared.ByteClass.TheVariants as C
use Rattle.text.specs.declared.StringItem.{StringItem}
use Rattle.text.specs.declared.StringItem.TheVariants.{End, Byte, Removed, Malformed}
use Rattle.text.specs.declared.Content.{Content}
use Rattle.text.specs.Bytes.{◌is◌, between, is_blank, digit_of, run_end}

-- the value beside a byte in a list of pairs, 0 where it isn't there
abbrev pub beside : ℕ → List (ℕ × ℕ) → ℕ
beside b [] = 0
beside b (p ∷ ps) = when eqb b p.0 then p.1 else beside b ps

-- "`\E \e` 27, `\n \l` 10, `\r` 13, `\t` 9, `\b` 8, `\f` 12, `\s` 32, `\^ \\ \, \:` themselves"; 0 for any other byte
unfoldable pub letter_of : ℕ → ℕ
letter_of b =
    beside b
    ((code "E", 27)
    ∷ (code "e", 27)
    ∷ (code "n", 10)
    ∷ (code "l", 10)
    ∷ (code "r", 13)
    ∷ (code "t", 9)
    ∷ (code "b", 8)
    ∷ (code "f", 12)
    ∷ (code "s", 32)
    ∷ (code "^", code "^")
    ∷ (code "\\", code "\\")
    ∷ (code ",", code ",")
    ∷ (code ":", code ":")
    ∷ [])

-- "`\` with one to three octal digits (the most there are, at most 255)": digits of values a, b and c from place i
-- on, of which the second and the third may be none
unfoldable pub octal_of : ℕ → ℕ → ℕ → ℕ → StringItem
octal_of a b c i =
    when ltb b 8 then
    (when ltb c 8 then (when leb (a * 64 + b * 8 + c) 255 then Byte (a * 64 + b * 8 + c) (i + 3) else Malformed)
    else Byte (a * 8 + b) (i + 2))
    else Byte a (i + 1)

abbrev pub digit_at : List ℕ → ℕ → ℕ
digit_at t i = digit_of (get_or t i 0)

-- behind a backslash
unfoldable pub escape_at : List ℕ → ℕ → StringItem
escape_at t i =
    when ltb (digit_at t i) 8 then octal_of (digit_at t i) (digit_at t (i + 1)) (digit_at t (i + 2)) i
    else when eqb (letter_of (get_or t i 0)) 0 then Malformed
    else Byte (letter_of (get_or t i 0)) (i + 1)

-- "`^` with codes 64 to 95 or 97 to 122"
unfoldable pub is_control : ℕ → Bool
is_control b = between 64 95 b || between 97 122 b

-- behind a caret: "code mod 32; `^?` 127"
unfoldable pub caret_at : List ℕ → ℕ → StringItem
caret_at t i =
    when get_or t i 0 is "?" then Byte 127 (i + 1)
    else when is_control (get_or t i 0) then Byte (get_or t i 0 % 32) (i + 1)
    else Malformed

-- "A line end and the white space after it, of which there must be some, are removed"
unfoldable pub line_end_at : List ℕ → ℕ → StringItem
line_end_at t i = when is_blank (get_or t i 0) then Removed (run_end C.Blank t (i + 1)) else Malformed

-- "Strings hold codes 32 to 126 up to an unescaped comma"
unfoldable pub string_item_at : List ℕ → ℕ → StringItem
string_item_at t i =
    when get_or t i 0 is "," then End
    else when get_or t i 0 is "\\" then escape_at t (i + 1)
    else when get_or t i 0 is "^" then caret_at t (i + 1)
    else when get_or t i 0 is "\n" then line_end_at t (i + 1)
    else when between 32 126 (get_or t i 0) then Byte (get_or t i 0) (i + 1)
    else Malformed

-- "A result of 0 is stored as 128"
unfoldable pub stored_byte : ℕ → ℕ
stored_byte b = when eqb b 0 then 128 else b

-- a string read to the place at, with the bytes that it stands for so far
pub record Reading : Type 0 where
  pub at : ℕ
  pub bytes : List ℕ

-- the bytes that a string stands for, and the place of its comma
pub data Read : Type 0 where
  whole : List ℕ → ℕ → Read
  malformed : Read

unfoldable pub read_turn : List ℕ → Reading → Turn Reading Read
read_turn t s =
    elim (string_item_at t s.at) [
      | End ↦ stop (whole s.bytes s.at)
      | Byte b k ↦ go (record { at = k; bytes = s.bytes ++ (stored_byte b ∷ []) })
      | Removed k ↦ go (record { at = k; bytes = s.bytes })
      | Malformed ↦ stop malformed
    ]

unfoldable pub read_from : List ℕ → Reading → Read
read_from t s = loop (λ (r : Reading). length t - r.at) (read_turn t) malformed s

-- the string that starts at a place
abbrev pub read_at : List ℕ → ℕ → Read
read_at t i = read_from t (record { at = i; bytes = [] })

unfoldable pub read_bytes : Read → List ℕ
read_bytes (whole s k) = s
read_bytes malformed = []

-- a string's number of bytes, and the place of its comma
abbrev pub content : ℕ → ℕ → Option Content
content n k = Some (record { length = n; comma = k })

-- the same with the bytes counted only
unfoldable pub content_of : Read → Option Content
content_of (whole s k) = content (length s) k
content_of malformed = None
