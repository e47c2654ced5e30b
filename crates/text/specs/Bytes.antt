-- Bytes of source text (document 01: Source text). A place past the text's end reads as byte 0, which no rule inside a
-- field takes; a run of bytes ends with the text.
-- Assumes nothing.
use Rattle.std.specs.Prelude.{Bool, ◌&&◌, ◌||◌, not, List, ℕ, ◌-◌, eqb, leb, ltb, length, get_or}
use Prim.Native.Char.{Char, code}
use Rattle.base.specs.If.{when◌then◌else◌}
use Rattle.base.specs.Scan.{scan}
use Rattle.text.specs.declared.NumberBase.{NumberBase}
use Rattle.text.specs.declared.NumberBase.TheVariants as B
use Rattle.text.specs.declared.ByteClass.{ByteClass}
use Rattle.text.specs.declared.ByteClass.TheVariants as C

-- "At most 16,384 bytes"
abbrev pub text_most : ℕ
text_most = 16384

-- the byte of a character
infix 50 ◌is◌
abbrev pub ◌is◌ : ℕ → Char → Bool
b is c = eqb b (code c)

abbrev pub between : ℕ → ℕ → ℕ → Bool
between low high b = leb low b && leb b high

-- "White space is space and tab"
unfoldable pub is_blank : ℕ → Bool
is_blank b = b is " " || b is "\t"

-- "codes 33 to 126 without `,=#@`"
unfoldable pub is_name : ℕ → Bool
is_name b = between 33 126 b && not (b is "," || (b is "=" || (b is "#" || b is "@")))

-- "All names but the last: 1 to 14 bytes of codes 33 to 126 without comma, slash, bar"
unfoldable pub is_alias : ℕ → Bool
is_alias b = between 33 126 b && not (b is "," || (b is "/" || b is "|"))

-- "The last: 1 or more of codes 32 to 126 without comma or bar"
unfoldable pub is_last_name : ℕ → Bool
is_last_name b = between 32 126 b && not (b is "," || b is "|")

-- the value of a digit of any base up to 16; 16 for a byte that is none
unfoldable pub digit_of : ℕ → ℕ
digit_of b =
    when between (code "0") (code "9") b then b - code "0"
    else when between (code "A") (code "F") b then b - (code "A" - 10)
    else when between (code "a") (code "f") b then b - (code "a" - 10)
    else 16

abbrev pub base_of : NumberBase → ℕ
base_of B.Octal = 8
base_of B.Decimal = 10
base_of B.Hexadecimal = 16

abbrev pub is_digit_in : ℕ → ℕ → Bool
is_digit_in base b = ltb (digit_of b) base

unfoldable pub is_in : ByteClass → ℕ → Bool
is_in C.Blank b = is_blank b
is_in C.Name b = is_name b
is_in C.Alias b = is_alias b
is_in C.LastName b = is_last_name b
is_in C.Line b = not (b is "\n")
is_in C.Header b = not (b is ",")
is_in (C.Digit base) b = is_digit_in (base_of base) b

-- the first place from i on that holds no byte of the class, or the text's end
unfoldable pub run_end : ByteClass → List ℕ → ℕ → ℕ
run_end c t i = scan (λ j. is_in c (get_or t j 0)) i (length t - i)
