-- A printed number by its parts: what stands before the digits, and the digits of a magnitude.
-- Assumes nothing.
use Rattle.std.specs.Prelude.{◌≡◌, Bool, true, false, List, [], ◌∷◌, ◌++◌, ℕ, ◌+◌, ◌-◌, ◌≤◌, eqb, ℤ, length, replicate}
use Prim.Native.Char.{code}
use Rattle.base.specs.If.{when◌then◌else◌}
use Rattle.expansion.specs.declared.Base.{Base}
use Rattle.expansion.specs.Print.{digits, sign, numeral}
use Rattle.print.specs.declared.Numeral.{Numeral}

abbrev pub minus_sign : Bool → List ℕ
minus_sign true = code "-" ∷ []
minus_sign false = []

-- the sign, with so many blanks before it or zeros after it
unfoldable pub front : Bool → Bool → ℕ → List ℕ
front minus zeros missing =
    when zeros then minus_sign minus ++ replicate missing (code "0")
    else replicate missing (code " ") ++ minus_sign minus

-- what stands before so many digits in a width
unfoldable pub before : Bool → Bool → ℕ → ℕ → List ℕ
before minus zeros width count = front minus zeros (width - (count + length (minus_sign minus)))

-- nothing stands before the digits
abbrev pub is_plain : Bool → ℕ → Bool
is_plain minus width = when minus then false else eqb width 0

-- the bytes of n in a width
abbrev pub bytes_of : Numeral → Bool → ℕ → List ℕ
bytes_of n zeros width =
    let ds : List ℕ = digits n.radix n.letters n.magnitude in
    before n.minus zeros width (length ds) ++ ds

-- n is what v is printed from in a base
pub record NumeralOf (base : Base) (v : ℤ) (n : Numeral) : Type 0 where
  pub sign_is : sign base v ≡ minus_sign n.minus
  pub digits_are : numeral base v ≡ digits n.radix n.letters n.magnitude
  pub radix_least : 2 ≤ n.radix
  pub radix_most : n.radix ≤ 16
  pub letters_most : n.letters ≤ code "a"
  pub decimal_letters : n.radix ≡ 10 → n.letters ≡ code "a"
