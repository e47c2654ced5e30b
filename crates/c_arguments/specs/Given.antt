-- The nine arguments of an expansion as C lends them: kinds, numbers, starts and lengths (document 02, 2026-07;
-- include/terminfo_c.h says the same in words).
-- Assumes nothing.
use Rattle.std.specs.Prelude.{List, ℕ, eqb, ℤ, pos, get_or}
use Rattle.base.specs.If.{when◌then◌else◌}
use Rattle.base.specs.Tabulate.{tabulate}
use Rattle.expansion.specs.declared.Argument.{Argument}
use Rattle.expansion.specs.declared.Operand.TheVariants as O

-- kind 0 is a number, any other a text
abbrev pub argument_given : ℕ → ℤ → ℕ → ℕ → Argument
argument_given kind v start n = record { operand = when eqb kind 0 then O.Number v else O.Text start n }

abbrev pub arguments_given : List ℕ → List ℤ → List ℕ → List ℕ → List Argument
arguments_given kinds numbers starts lengths =
    tabulate (λ i. argument_given (get_or kinds i 0) (get_or numbers i (pos 0)) (get_or starts i 0)
    (get_or lengths i 0)) 9
