-- The number that a word is: decimal digits, after a minus where it is negative, whose value 32 bits with a sign hold.
-- Assumes nothing.
use Rattle.std.specs.Prelude.{Bool, true, false, ◌&&◌, not, List, [], ◌∷◌, ℕ, ◌+◌, ◌-◌, ◌*◌, eqb, leb, ℤ, pos, neg_ℤ}
use Rattle.std.specs.Prelude.{length, get_or, drop, Option, Some, None}
use Rattle.base.specs.If.{when◌then◌else◌}
use Rattle.expansion.specs.Items.{is_digit, decimal}

unfoldable pub are_digits : List ℕ → Bool
are_digits [] = true
are_digits (c ∷ s) = is_digit c && are_digits s

-- one or more digits
abbrev pub is_numeral : List ℕ → Bool
is_numeral s = not (eqb (length s) 0) && are_digits s

-- -2,147,483,648 to 2,147,483,647
abbrev pub magnitude_most : Bool → ℕ
magnitude_most true = 2147483648
magnitude_most false = 2147483647

abbrev pub signed : Bool → ℕ → ℤ
signed true m = neg_ℤ (pos m)
signed false m = pos m

-- the number of a magnitude, after a minus or not
unfoldable pub signed_of : Bool → ℕ → Option ℤ
signed_of minus m = when leb m (magnitude_most minus) then Some (signed minus m) else None

-- the number of digits, after a minus or not
unfoldable pub numeral_of : Bool → List ℕ → Option ℤ
numeral_of minus s = when is_numeral s then signed_of minus (decimal 0 s) else None

-- 45 is the minus
unfoldable pub value_of : List ℕ → Option ℤ
value_of word = when eqb (get_or word 0 0) 45 then numeral_of true (drop 1 word) else numeral_of false word

-- ---- digits alone, as the code reads them

-- a larger magnitude is taken as this one, which is no number's
abbrev pub large_magnitude : ℕ
large_magnitude = 2147483649

abbrev pub limited : ℕ → ℕ
limited m = when leb m (magnitude_most true) then m else large_magnitude

-- none where the byte is no digit, or the number no magnitude
unfoldable pub with_digit : ℕ → ℕ → Option ℕ
with_digit n c =
    when is_digit c then (when leb n large_magnitude then Some (limited (n * 10 + (c - 48))) else None)
    else None

unfoldable pub magnitude_of : List ℕ → Option ℕ
magnitude_of s = when are_digits s then Some (limited (decimal 0 s)) else None

-- that of one or more digits
unfoldable pub numeral_in : List ℕ → Option ℕ
numeral_in s = when is_numeral s then Some (limited (decimal 0 s)) else None
