-- The header (document 01: Source text): "starts in column 1, has at least two names parted by `|`, ends in a comma,
-- then only white space to the line's end; the text's end closes a line too".
-- Assumes nothing.
use Rattle.std.specs.Prelude.{Bool, false, ◌&&◌, ◌||◌, not, List, [], ◌∷◌, ℕ, ◌+◌, ◌-◌, leb, ltb, length, get_or}
use Rattle.std.specs.Prelude.{take, drop, Result, Ok, Err}
use Prim.Native.Char.{code}
use Rattle.base.specs.If.{when◌then◌else◌}
use Rattle.base.specs.Scan.{every}
use Rattle.names.specs.Names.{parted}
use Rattle.text.specs.declared.ByteClass.{ByteClass}
use Rattle.text.specs.declared.ByteClass.TheVariants as C
use Rattle.text.specs.declared.TextRefusal.{TextRefusal}
use Rattle.text.specs.declared.TextRefusal.TheVariants.{Malformed, Limit}
use Rattle.text.specs.Bytes.{◌is◌, is_in, run_end}

-- "alias above 14 bytes"
abbrev pub alias_most : ℕ
alias_most = 14

-- "names parted by `|`"
abbrev pub names_in : List ℕ → List (List ℕ)
names_in s = parted (code "|") s

-- one or more bytes, all of the class
unfoldable pub made_of : ByteClass → List ℕ → Bool
made_of c n = leb 1 (length n) && every (λ i. is_in c (get_or n i 0)) (length n)

-- all names but the last, and the last; there are two at least
unfoldable pub right_names : List (List ℕ) → Bool
right_names [] = false
right_names (n ∷ []) = false
right_names (n ∷ m ∷ []) = made_of C.Alias n && made_of C.LastName m
right_names (n ∷ m ∷ l ∷ ns) = made_of C.Alias n && right_names (m ∷ l ∷ ns)

-- a name but the last has more than 14 bytes
unfoldable pub long_alias : List (List ℕ) → Bool
long_alias [] = false
long_alias (n ∷ []) = false
long_alias (n ∷ m ∷ ns) = ltb alias_most (length n) || long_alias (m ∷ ns)

-- the line ends at i
abbrev pub line_ends : List ℕ → ℕ → Bool
line_ends t i = leb (length t) i || get_or t i 0 is "\n"

-- the names up to the comma at c
abbrev pub names_to : List ℕ → ℕ → ℕ → List ℕ
names_to t i c = take (c - i) (drop i t)

-- the header whose comma is at c, which is the text's end where there is none
abbrev pub header_to : List ℕ → ℕ → ℕ → Result ℕ TextRefusal
header_to t i c =
    when leb (length t) c then Err Malformed
    else when not (right_names (names_in (names_to t i c))) then Err Malformed
    else when not (line_ends t (run_end C.Blank t (c + 1))) then Err Malformed
    else when long_alias (names_in (names_to t i c)) then Err Limit
    else Ok c

unfoldable pub header_at : List ℕ → ℕ → Result ℕ TextRefusal
header_at t i = header_to t i (run_end C.Header t i)
