-- The number kept along a string's items, two bits for each open conditional, the innermost lowest: 1 a condition
-- from `%?` on, 2 a body, 3 what follows `%e`; and the form of what is left of a string, by that number.
-- Assumes nothing.
use Rattle.std.specs.Prelude.{true, false, List, ℕ, zero, suc, ◌+◌, ◌*◌, ◌/◌, ◌%◌, eqb, ltb, length}
use Rattle.std.specs.Prelude.{Result, Ok, Err}
use Rattle.base.specs.If.{when◌then◌else◌}
use Rattle.expansion.specs.declared.Class.{Class}
use Rattle.expansion.specs.declared.Class.TheVariants.{Plain, If, Then, Else, End, Wrong}
use Rattle.expansion.specs.Form.{Form, class_at}

-- the largest number kept: 16 conditionals of two bits
abbrev pub nested_most : ℕ
nested_most = 4294967295

-- what an item does to the number kept; an error: it may not stand there
unfoldable pub nested : Class → ℕ → Result ℕ (Unit {0})
nested Plain k = Ok k
nested If k = when ltb k 1073741824 then Ok (k * 4 + 1) else Err tt
nested Then k = when eqb (k % 2) 1 then Ok (k / 4 * 4 + 2) else Err tt
nested Else k = when eqb (k % 4) 2 then Ok (k + 1) else Err tt
nested End k = when ltb (k % 4) 2 then Err tt else Ok (k / 4)
nested Wrong k = Err tt

-- the form from place i on, with the number k kept; the count falls with each item, and the string's length and one
-- is enough
unfoldable pub checked : ℕ → List ℕ → ℕ → ℕ → Form
checked zero s i k = Err i
checked (suc f) s i k =
    elim (ltb i (length s)) [
      | true ↦ elim (nested (class_at s i).class k) [ Ok k' ↦ checked f s (class_at s i).next k' | Err e ↦ Err i ]
      | false ↦ when eqb k 0 then Ok tt else Err (length s)
    ]

abbrev pub form_left : List ℕ → ℕ → ℕ → Form
form_left s i k = checked (suc (length s)) s i k
