-- A text that a word is starts in the word.
-- Assumes nothing.
use Rattle.std.specs.Prelude.{Option, Some, None, ℤ}
use mathlib.Core.Path.{◌≡◌}
use mathlib.Core.Bool.{Bool, true, false}
use mathlib.Core.List.{List, [], ◌∷◌}
use Prim.Native.Nat.{ℕ, ◌≤◌}
use native.Mathlib.Omega.{arith}
use lib.Dec.{eqb}
use lib.ListN.{length}
use Rattle.base.specs.If.{when◌then◌else◌}
use Rattle.number_words.specs.Number.{is_numeral, value_of}
use Rattle.argument_words.specs.declared.ArgumentWord.TheVariants as A
use Rattle.argument_words.specs.Argument.{unsigned, number_of, argument_of}

no_number : (p : Option ℤ) (k n : ℕ) → number_of p ≡ Some (A.Text k) → k ≤ n
no_number (Some v) k n e = absurd (let z : ◌≡◌ {A = ℕ} 0 1 = cc in (let y : ⊥ = omega arith in y))
no_number None k n e = absurd (let z : ◌≡◌ {A = ℕ} 0 1 = cc in (let y : ⊥ = omega arith in y))

by_numeral : (w : List ℕ) (n : ℕ) (k : ℕ) (t : Bool) → (when t then number_of (value_of w) else Some (A.Text 0)) ≡ Some (A.Text k) → k ≤ n
by_numeral w n k true e = no_number (value_of w) k n e
by_numeral w n k false e = let z : k ≡ 0 = cc in omega arith

pub text_inside : (w : List ℕ) (k : ℕ) → argument_of w ≡ Some (A.Text k) → k ≤ length w
unfolding argument_of
text_inside [] k e = by_numeral [] 0 k (is_numeral (unsigned [])) e
text_inside (c ∷ w) k e = by_first (eqb c 61) e
  where
    by_first : (t : Bool) → (when t then Some (A.Text 1) else when is_numeral (unsigned (c ∷ w)) then number_of (value_of (c ∷ w)) else Some (A.Text 0)) ≡ Some (A.Text k)
        → k ≤ length (c ∷ w)
    by_first true q = let z : k ≡ 1 = cc in omega arith
    by_first false q = by_numeral (c ∷ w) (length (c ∷ w)) k (is_numeral (unsigned (c ∷ w))) q
