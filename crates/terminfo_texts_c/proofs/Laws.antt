-- What expanding with the arguments that C lends answers, as a number.
-- Assumes nothing.
use Rattle.std.specs.Prelude.{Result}
use mathlib.Core.Path.{◌≡◌, subst, ap, ◌∙◌}
use mathlib.Core.List.{List}
use Prim.Native.Nat.{ℕ}
use lib.IntN.{ℤ}
use Rattle.expansion.specs.declared.Argument.{Argument}
use Rattle.expansion.specs.declared.Output.{Output}
use Rattle.expansion.specs.declared.ExpansionRefusal.{ExpansionRefusal}
use Rattle.expansion.specs.Expanding.{expanding, says_expansion}
use Rattle.expand_output.specs.Answers.{LentAs}
use Rattle.c_numbers.specs.Numbers.{numbered, counts_code}
use Rattle.c_numbers.specs.Expanded.{ExpandedNumber}

-- given: the arguments as they were lent, which are nine
pub numbered_as : (s lent : List ℕ) (size : ℕ) {n room at r : ℕ} {b b' : List ℕ} {v v' : List ℤ} {nine given : List Argument} {e : Result Output ExpansionRefusal}
    → nine ≡ given → LentAs n room (expanding s nine lent v size at) v v' b at b' e
    → r ≡ numbered counts_code (says_expansion e) → ExpandedNumber (expanding s given lent v size at) v v' b at b' r
numbered_as s lent size {at = at} {r = r} {b = b} {b' = b'} {v = v} {v' = v'} p l q =
    subst (λ (g : List Argument). ExpandedNumber (expanding s g lent v size at) v v' b at b' r) p
    (record { number = q ∙ ap (numbered counts_code) l.answer; lasting = l.lasting; output = l.output })
