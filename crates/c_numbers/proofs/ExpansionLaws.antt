-- What an expansion answers is within the bounds of the longest string: a longer one is refused.
-- Assumes nothing.
use mathlib.Core.Path.{◌≡◌, refl, ap}
use mathlib.Core.Bool.{Bool, true, false, not}
use mathlib.Core.List.{List, []}
use Prim.Native.Nat.{ℕ, ◌-◌, ◌≤◌}
use native.Mathlib.Omega.{arith}
use lib.Dec.{leb}
use lib.IntN.{ℤ}
use lib.ListN.{length}
use borrow.Author.Tests.{leb-true}
use Rattle.base.specs.If.{when◌then◌else◌}
use Rattle.base.specs.Answer.{Answer, refused, map_answer, number_of}
use Rattle.expansion.specs.Limits.{string_most, expansion_most}
use Rattle.expansion.specs.declared.Argument.{Argument}
use Rattle.std.specs.Prelude.{Result, Ok, Err}
use Rattle.expansion.specs.declared.Output.{Output}
use Rattle.expansion.specs.declared.ExpansionRefusal.{ExpansionRefusal}
use Rattle.expansion.specs.declared.ExpansionRefusal.TheVariants as E
use Rattle.expansion.specs.Form.{form_of}
use Rattle.expansion.specs.Machine.{run}
use Rattle.expansion.specs.Arguments.{lies_in, is_short, each_passes, values_of}
use Rattle.expansion.specs.Expanding.{Expanding, counted, says_expansion, Within, ended, formed, expanding}

within_more : (r : Result Output ExpansionRefusal) (n m room most : ℕ) → n ≤ m → room ≤ most → Within n room r → Within m most r
within_more (Ok o) n m room most h g w = omega arith
within_more (Err E.Place) n m room most h g w = tt
within_more (Err E.Length) n m room most h g w = tt
within_more (Err (E.Malformed i)) n m room most h g w = omega arith
within_more (Err (E.Empty i)) n m room most h g w = omega arith
within_more (Err (E.Full i)) n m room most h g w = omega arith
within_more (Err (E.Kind i)) n m room most h g w = omega arith
within_more (Err (E.Room l)) n m room most h g w = omega arith

-- 17 and 1 give no value
plain_place : (r : Result Output ExpansionRefusal) (m most : ℕ) → number_of (says_expansion r) ≡ 17 → Within m most r
plain_place (Ok o) m most e = absurd (let z : ⊥ = omega arith in z)
plain_place (Err E.Place) m most e = tt
plain_place (Err E.Length) m most e = tt
plain_place (Err (E.Malformed i)) m most e = absurd (let z : ⊥ = omega arith in z)
plain_place (Err (E.Empty i)) m most e = absurd (let z : ⊥ = omega arith in z)
plain_place (Err (E.Full i)) m most e = absurd (let z : ⊥ = omega arith in z)
plain_place (Err (E.Kind i)) m most e = absurd (let z : ⊥ = omega arith in z)
plain_place (Err (E.Room l)) m most e = absurd (let z : ⊥ = omega arith in z)

plain_length : (r : Result Output ExpansionRefusal) (m most : ℕ) → number_of (says_expansion r) ≡ 1 → Within m most r
plain_length (Ok o) m most e = absurd (let z : ⊥ = omega arith in z)
plain_length (Err E.Place) m most e = tt
plain_length (Err E.Length) m most e = tt
plain_length (Err (E.Malformed i)) m most e = absurd (let z : ⊥ = omega arith in z)
plain_length (Err (E.Empty i)) m most e = absurd (let z : ⊥ = omega arith in z)
plain_length (Err (E.Full i)) m most e = absurd (let z : ⊥ = omega arith in z)
plain_length (Err (E.Kind i)) m most e = absurd (let z : ⊥ = omega arith in z)
plain_length (Err (E.Room l)) m most e = absurd (let z : ⊥ = omega arith in z)

-- room: the bytes of output that a string of at most 1,000 bytes has at most
pub within_most : (s : List ℕ) (arguments : List Argument) (lent : List ℕ) (lasting : List ℤ) (size at room : ℕ) (r : Result Output ExpansionRefusal)
    → (length s ≤ string_most → room ≤ expansion_most)
    → says_expansion r ≡ map_answer counted (expanding s arguments lent lasting size at) → Within (length s) room r → Within string_most expansion_most r
unfolding expanding
within_most s arguments lent lasting size at room r m e w =
    by_place (leb at size) (each_passes (lies_in lent) arguments) (leb (length s) string_most) refl e
  where
    rest : Answer Expanding
    rest = when not (each_passes is_short arguments) then refused 1 [] else formed (form_of s) (ended (run s (values_of lent arguments) lasting) (size - at))

    by_place : (p q u : Bool) → leb (length s) string_most ≡ u
        → says_expansion r ≡ map_answer counted (when not p then refused 17 [] else when not q then refused 17 [] else when not u then refused 1 [] else rest)
        → Within string_most expansion_most r
    by_place false q u t e = plain_place r string_most expansion_most (ap number_of e)
    by_place true false u t e = plain_place r string_most expansion_most (ap number_of e)
    by_place true true false t e = plain_length r string_most expansion_most (ap number_of e)
    by_place true true true t e =
        let l : length s ≤ string_most = leb-true (length s) string_most t in
        within_more r (length s) string_most room expansion_most l (m l) w
