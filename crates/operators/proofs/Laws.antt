-- Whether two values are equal, by their bits; the bits inverted; and the value of a test.
-- Assumes nothing.
use mathlib.Core.Path.{◌≡◌, refl, sym, ap}
use mathlib.Core.Bool.{Bool, true, false}
use Prim.Native.Nat.{ℕ, suc, ◌-◌, ◌^◌}
use lib.IntN.{ℤ, pos, negsuc}
use lib.Dec.{eqb}
use borrow.Author.Tests.{eq-eqb, ne_eqb, eqb-true, eqb-false}
use mir.Syntax.{w32}
use mir.Val.{SFits, of_z, to_z, bool_byte}
use Rattle.signed.proofs.Laws.{same_bits}
use Rattle.expansion.specs.Machine.{equal, inverted, truth}

equal_self : (a : ℤ) → equal a a ≡ true
equal_self (pos n) = eq-eqb n n refl
equal_self (negsuc n) = eq-eqb n n refl

equal_yes : (a b : ℤ) → SFits w32 a → SFits w32 b → of_z w32 a ≡ of_z w32 b → equal a b ≡ true
equal_yes a b h k e = rw (same_bits h k e) (equal_self b)

equal_no : (a b : ℤ) → (of_z w32 a ≡ of_z w32 b → ⊥) → equal a b ≡ false
equal_no (pos a) (pos b) h = ne_eqb a b h
equal_no (pos a) (negsuc b) h = refl
equal_no (negsuc a) (pos b) h = refl
equal_no (negsuc a) (negsuc b) h = ne_eqb a b (λ e. h (ap (λ (n : ℕ). 2 ^ 32 - suc n) e))

pub equal_bits : (a b : ℤ) → SFits w32 a → SFits w32 b → eqb (of_z w32 a) (of_z w32 b) ≡ equal a b
equal_bits a b h k = by_test (eqb (of_z w32 a) (of_z w32 b)) refl
  where
    by_test : (t : Bool) → eqb (of_z w32 a) (of_z w32 b) ≡ t → t ≡ equal a b
    by_test true e = sym (equal_yes a b h k (eqb-true (of_z w32 a) (of_z w32 b) e))
    by_test false e = sym (equal_no a b (eqb-false (of_z w32 a) (of_z w32 b) e))

pub inverted_bits : (v : ℤ) → inverted v ≡ to_z w32 (4294967295 - of_z w32 v)
unfolding inverted
inverted_bits v = refl

pub truth_of : {b : Bool} (t : Bool) {r : ℤ} → r ≡ pos (bool_byte b) → b ≡ t → to_z w32 (of_z w32 r) ≡ truth t
truth_of true e q = rw (e, q)
truth_of false e q = rw (e, q)
