-- Printed numbers (document 01: Expansion): "Octal and hex print the value mod 2^32, `%x` with small letters, `%X`
-- with capitals. Blank fill stands left; zero fill after the sign." A character stands for its byte: `code` gives it.
-- Assumes nothing.
use Rattle.std.specs.Prelude.{Bool, true, false, List, [], ◌∷◌, ◌++◌, ℕ, zero, suc, ◌+◌, ◌-◌, ◌/◌, ◌%◌, ltb, ℤ, pos}
use Rattle.std.specs.Prelude.{negsuc, length, replicate}
use Prim.Native.Char.{code}
use Rattle.base.specs.If.{when◌then◌else◌}
use Rattle.signed.specs.Signed.{low32}
use Rattle.expansion.specs.declared.Base.{Base}
use Rattle.expansion.specs.declared.Base.TheVariants.{Decimal, Octal, SmallHex, CapitalHex}

-- the byte of a digit, letters from the code a on
abbrev pub digit_byte : ℕ → ℕ → ℕ
digit_byte a d = when ltb d 10 then code "0" + d else a + (d - 10)

-- n in base b, highest digit first; the count falls with each digit; n and one is enough (digits_enough of
-- expansion_laws)
unfoldable pub digits_from : ℕ → ℕ → ℕ → ℕ → List ℕ
digits_from zero b a n = []
digits_from (suc k) b a n =
    elim (ltb n b) [
      | true ↦ digit_byte a n ∷ []
      | false ↦ digits_from k b a (n / b) ++ (digit_byte a (n % b) ∷ [])
    ]

unfoldable pub digits : ℕ → ℕ → ℕ → List ℕ
digits b a n = digits_from (suc n) b a n

abbrev pub sign : Base → ℤ → List ℕ
sign Decimal (pos n) = []
sign Decimal (negsuc n) = code "-" ∷ []
sign Octal v = []
sign SmallHex v = []
sign CapitalHex v = []

unfoldable pub numeral : Base → ℤ → List ℕ
numeral Decimal (pos n) = digits 10 (code "a") n
numeral Decimal (negsuc n) = digits 10 (code "a") (suc n)
numeral Octal v = digits 8 (code "a") (low32 v)
numeral SmallHex v = digits 16 (code "a") (low32 v)
numeral CapitalHex v = digits 16 (code "A") (low32 v)

-- a number in a base, at least width bytes
unfoldable pub printed : Base → Bool → ℕ → ℤ → List ℕ
printed base zeros width v =
    let missing : ℕ = width - (length (sign base v) + length (numeral base v)) in
    when zeros then sign base v ++ (replicate missing (code "0") ++ numeral base v)
    else replicate missing (code " ") ++ (sign base v ++ numeral base v)
