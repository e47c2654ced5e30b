-- The items of a parameterized string (document 01: Expansion). A place past the string's end reads as NUL, which no
-- item holds. A character stands for its byte: `code` gives it.
-- Assumes nothing.
use Rattle.std.specs.Prelude.{Bool, true, false, ◌&&◌, ◌||◌, not, List, [], ◌∷◌, ℕ, ◌+◌, ◌-◌, ◌*◌, eqb, leb, pos}
use Rattle.std.specs.Prelude.{length, get_or, take, drop}
use Prim.Native.Char.{code}
use Rattle.base.specs.If.{when◌then◌else◌}
use Rattle.base.specs.Scan.{scan}
use Rattle.expansion.specs.Limits.{constant_most}
use Rattle.expansion.specs.declared.Item.{Item}
use Rattle.expansion.specs.declared.Item.TheVariants.{Byte, Argument, Number, Character, Text, Length, Constant}
use Rattle.expansion.specs.declared.Item.TheVariants.{Store, Load, Binary, Not, Invert, Increment}
use Rattle.expansion.specs.declared.Item.TheVariants.{If, Then, Else, End, Wrong}
use Rattle.expansion.specs.declared.Operator.TheVariants.{Add, Subtract, Multiply, Divide, Remainder, BitAnd}
use Rattle.expansion.specs.declared.Operator.TheVariants.{BitOr, BitXor, Equal, Greater, Less, And, Or}
use Rattle.expansion.specs.declared.Base.TheVariants.{Decimal, Octal, SmallHex, CapitalHex}
use Rattle.expansion.specs.declared.Lexed.{Lexed}

abbrev pub byte_at : List ℕ → ℕ → ℕ
byte_at s i = get_or s i 0

abbrev pub within : ℕ → ℕ → ℕ → Bool
within a b c = leb a c && leb c b

-- 0 to 9; 1 to 9; a to z and A to Z
abbrev pub is_digit : ℕ → Bool
is_digit c = within (code "0") (code "9") c

abbrev pub is_nonzero : ℕ → Bool
is_nonzero c = within (code "1") (code "9") c

abbrev pub is_letter : ℕ → Bool
is_letter c = within (code "a") (code "z") c || within (code "A") (code "Z") c

abbrev pub lexed : Item → ℕ → Lexed
lexed k n = record { item = k; next = n }

-- no item; the place behind it means nothing, and lies behind its first byte
abbrev pub wrong : ℕ → Lexed
wrong j = lexed Wrong j

-- ---- items that are `%` and one more byte

unfoldable pub singles : List (ℕ × Item)
singles =
    (code "%", Byte (code "%")) ∷ (code "c", Character) ∷ (code "s", Text) ∷ (code "l", Length)
    ∷ (code "d", Number Decimal false 0) ∷ (code "o", Number Octal false 0)
    ∷ (code "x", Number SmallHex false 0) ∷ (code "X", Number CapitalHex false 0)
    ∷ (code "+", Binary Add) ∷ (code "-", Binary Subtract) ∷ (code "*", Binary Multiply)
    ∷ (code "/", Binary Divide) ∷ (code "m", Binary Remainder)
    ∷ (code "&", Binary BitAnd) ∷ (code "|", Binary BitOr) ∷ (code "^", Binary BitXor)
    ∷ (code "=", Binary Equal) ∷ (code ">", Binary Greater) ∷ (code "<", Binary Less)
    ∷ (code "A", Binary And) ∷ (code "O", Binary Or)
    ∷ (code "!", Not) ∷ (code "~", Invert) ∷ (code "i", Increment)
    ∷ (code "?", If) ∷ (code "t", Then) ∷ (code "e", Else) ∷ (code ";", End) ∷ []

unfoldable pub found : List (ℕ × Item) → ℕ → Item
found [] c = Wrong
found (p ∷ ps) c = when eqb c p.0 then p.1 else found ps c

-- ---- longer items; j is the place of the byte after `%`

-- `%p1` to `%p9`
unfoldable pub argument_at : List ℕ → ℕ → Lexed
argument_at s j =
    when is_nonzero (byte_at s (j + 1)) then lexed (Argument (byte_at s (j + 1) - code "1")) (j + 2) else wrong j

-- `%'b'` (any byte but NUL)
unfoldable pub quoted_at : List ℕ → ℕ → Lexed
quoted_at s j =
    let b : ℕ = byte_at s (j + 1) in
    when not (eqb b 0) && eqb (byte_at s (j + 2)) (code "'") then lexed (Constant (pos b)) (j + 3) else wrong j

-- the value of digits, highest first, behind digits of value v
unfoldable pub decimal : ℕ → List ℕ → ℕ
decimal v [] = v
decimal v (d ∷ ds) = decimal (v * 10 + (d - code "0")) ds

-- the place behind the digits that start at i
abbrev pub digits_end : List ℕ → ℕ → ℕ
digits_end s i = scan (λ k. is_digit (byte_at s k)) i (length s - i)

-- `%{digits}`, one or more, up to 2,147,483,647
unfoldable pub braced_at : List ℕ → ℕ → Lexed
braced_at s j =
    let e : ℕ = digits_end s (j + 1) in
    let v : ℕ = decimal 0 (take (e - (j + 1)) (drop (j + 1) s)) in
    let closed : Bool = eqb (byte_at s e) (code "}") in
    when is_digit (byte_at s (j + 1)) && (closed && leb v constant_most) then lexed (Constant (pos v)) (e + 1)
    else wrong j

-- `%P` and `%g` with a letter
unfoldable pub store_at : List ℕ → ℕ → Lexed
store_at s j = when is_letter (byte_at s (j + 1)) then lexed (Store (byte_at s (j + 1))) (j + 2) else wrong j

unfoldable pub load_at : List ℕ → ℕ → Lexed
load_at s j = when is_letter (byte_at s (j + 1)) then lexed (Load (byte_at s (j + 1))) (j + 2) else wrong j

-- the letter of a number's format at k, whose fill and width stand before it
unfoldable pub format_at : List ℕ → ℕ → Bool → ℕ → Lexed
format_at s k zero width =
    when eqb (byte_at s k) (code "d") then lexed (Number Decimal zero width) (k + 1)
    else when eqb (byte_at s k) (code "o") then lexed (Number Octal zero width) (k + 1)
    else when eqb (byte_at s k) (code "x") then lexed (Number SmallHex zero width) (k + 1)
    else when eqb (byte_at s k) (code "X") then lexed (Number CapitalHex zero width) (k + 1)
    else wrong k

-- a width at k: "one or two digits whose first is 1 to 9"
unfoldable pub width_at : List ℕ → ℕ → Bool → Lexed
width_at s k zero =
    let first : ℕ = byte_at s k - code "0" in
    let second : ℕ = byte_at s (k + 1) - code "0" in
    when not (is_nonzero (byte_at s k)) then wrong k
    else when is_digit (byte_at s (k + 1)) then format_at s (k + 2) zero (first * 10 + second)
    else format_at s (k + 1) zero first

-- the item whose second byte is at j; "0 needs a width"
unfoldable pub percent_at : List ℕ → ℕ → Lexed
percent_at s j =
    when eqb (byte_at s j) (code "p") then argument_at s j
    else when eqb (byte_at s j) (code "'") then quoted_at s j
    else when eqb (byte_at s j) (code "{") then braced_at s j
    else when eqb (byte_at s j) (code "P") then store_at s j
    else when eqb (byte_at s j) (code "g") then load_at s j
    else when eqb (byte_at s j) (code "0") then width_at s (j + 1) true
    else when is_nonzero (byte_at s j) then width_at s j false
    else lexed (found singles (byte_at s j)) (j + 1)

-- the item that starts at i: "a byte other than `%` and NUL", or `%` and what follows
unfoldable pub item_at : List ℕ → ℕ → Lexed
item_at s i =
    when eqb (byte_at s i) 0 then wrong (i + 1)
    else when eqb (byte_at s i) (code "%") then percent_at s (i + 1)
    else lexed (Byte (byte_at s i)) (i + 1)
