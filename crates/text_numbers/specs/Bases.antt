-- The base of a number and its first digit, apart from the number.
-- Assumes nothing.
use Rattle.std.specs.Prelude.{◌≡◌, refl, Bool, true, false, ◌||◌, List, ℕ, ◌+◌, eqb, get_or}
use Rattle.base.specs.If.{when◌then◌else◌}
use Rattle.text.specs.declared.NumberBase.{NumberBase}
use Rattle.text.specs.declared.NumberBase.TheVariants.{Octal, Decimal, Hexadecimal}
use Rattle.text.specs.Numbers.{digits_at, number_at}

abbrev based_on : Bool → Bool → NumberBase
based_on zero x = when zero then (when x then Hexadecimal else Octal) else Decimal

-- 48 is `0`, 120 and 88 are `x` and `X`
unfoldable pub base_at : List ℕ → ℕ → NumberBase
base_at t i = based_on (eqb (get_or t i 0) 48) (eqb (get_or t (i + 1) 0) 120 || eqb (get_or t (i + 1) 0) 88)

-- the first digit of a number that starts at i
abbrev pub first_digit : NumberBase → ℕ → ℕ
first_digit Octal i = i
first_digit Decimal i = i
first_digit Hexadecimal i = i + 2

-- ---- law

pub number_digits : (t : List ℕ) (i : ℕ) → digits_at (base_at t i) t (first_digit (base_at t i) i) ≡ number_at t i
unfolding base_at number_at
number_digits t i = by_tests (eqb (get_or t i 0) 48) (eqb (get_or t (i + 1) 0) 120 || eqb (get_or t (i + 1) 0) 88)
  where
    by_tests : (zero x : Bool)
        → digits_at (based_on zero x) t (first_digit (based_on zero x) i) ≡
        (when zero then (when x then digits_at Hexadecimal t (i + 2) else digits_at Octal t i)
        else digits_at Decimal t i)
    by_tests true true = refl
    by_tests true false = refl
    by_tests false x = refl
