-- Numbers of source text (document 01: Source text): "a C integer (decimal, 0 octal, 0x or 0X hex, no suffix, at most
-- 99 digits)".
-- Assumes nothing.
use Rattle.std.specs.Prelude.{◌&&◌, ◌||◌, List, ℕ, zero, suc, ◌+◌, ◌-◌, ◌*◌, eqb, leb, get_or, Option, Some, None}
use Rattle.base.specs.If.{when◌then◌else◌}
use Rattle.entry.specs.Limits.{number_most}
use Rattle.text.specs.declared.NumberBase.{NumberBase}
use Rattle.text.specs.declared.NumberBase.TheVariants.{Octal, Decimal, Hexadecimal}
use Rattle.text.specs.declared.ByteClass.TheVariants as C
use Rattle.text.specs.declared.FieldForm.{FieldForm}
use Rattle.text.specs.declared.FieldForm.TheVariants as F
use Rattle.text.specs.declared.Formed.{Formed}
use Rattle.text.specs.Bytes.{◌is◌, digit_of, base_of, run_end}

-- "number above 32,767 or 99 digits (0x not counted)": a number of more digits is past a limit, 13, and not malformed,
-- as the table of refusals has it
abbrev pub digits_most : ℕ
digits_most = 99

-- v with n more digits of a base, from place i on
unfoldable pub with_digits : ℕ → List ℕ → ℕ → ℕ → ℕ → ℕ
with_digits base t i zero v = v
with_digits base t i (suc n) v = with_digits base t (suc i) n (v * base + digit_of (get_or t i 0))

-- a number of value v and n digits
unfoldable pub number_form : ℕ → ℕ → FieldForm
number_form v n = when leb v number_most && leb n digits_most then F.Number v else F.LargeNumber

-- a form, and the place past it
abbrev pub formed : FieldForm → ℕ → Option Formed
formed f k = Some (record { form = f; next = k })

-- the digits from i to e
unfoldable pub digits_in : NumberBase → List ℕ → ℕ → ℕ → Option Formed
digits_in base t i e =
    when eqb e i then None else formed (number_form (with_digits (base_of base) t i (e - i) 0) (e - i)) e

abbrev pub digits_at : NumberBase → List ℕ → ℕ → Option Formed
digits_at base t i = digits_in base t i (run_end (C.Digit base) t i)

-- "decimal, 0 octal, 0x or 0X hex"
unfoldable pub number_at : List ℕ → ℕ → Option Formed
number_at t i =
    when get_or t i 0 is "0" then
    (when get_or t (i + 1) 0 is "x" || get_or t (i + 1) 0 is "X" then digits_at Hexadecimal t (i + 2)
    else digits_at Octal t i)
    else digits_at Decimal t i
