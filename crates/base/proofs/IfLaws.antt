-- Laws of choices and of tests.
-- Assumes nothing.
use mathlib.Core.Path.{◌≡◌, refl, sym}
use mathlib.Core.Bool.{Bool, true, false, ◌&&◌, ◌||◌, not}
use Prim.Native.Nat.{ℕ, ◌≤◌, ◌<◌}
use native.Mathlib.Nat.{lt_of_not-le}
use native.Mathlib.Decide.{dec_le}
use native.Mathlib.Omega.{arith}
use lib.Dec.{eqb}
use borrow.Author.Tests.{eq-eqb}
use Rattle.base.specs.If.{when◌then◌else◌}

-- no test is both
pub true_false {ℓ} : {A : Type ℓ} → true ≡ false → A
true_false e = absurd (let z : ◌≡◌ {A = ℕ} 0 1 = cc in (let y : ⊥ = omega arith in y))

-- both halves of a test that holds
pub and_left : (a b : Bool) → (a && b) ≡ true → a ≡ true
and_left true b e = refl
and_left false b e = true_false (sym e)

pub and_right : (a b : Bool) → (a && b) ≡ true → b ≡ true
and_right true b e = e
and_right false b e = true_false (sym e)

-- by the order of two numbers
pub below_or {ℓ} : {A : Type ℓ} (i n : ℕ) → (i < n → A) → (n ≤ i → A) → A
below_or i n f g = elim (dec_le n i) [ yes h ↦ g h | no h ↦ f (lt_of_not-le h) ]

-- one half of a test that holds
pub or_left : (a b : Bool) → a ≡ true → (a || b) ≡ true
or_left true b h = refl
or_left false b h = true_false (sym h)

pub or_right : (a b : Bool) → b ≡ true → (a || b) ≡ true
or_right true b h = refl
or_right false b h = h

-- both halves of a test that fails
pub neither : (a b : Bool) → (a || b) ≡ false → (a ≡ false) × (b ≡ false)
neither true b e = true_false e
neither false b e = (refl, e)

-- a test that doesn't hold
pub is_false : (b : Bool) → (b ≡ true → ⊥) → b ≡ false
is_false true h = absurd (h refl)
is_false false h = refl

pub not-true : (b : Bool) → not b ≡ true → b ≡ false
not-true true e = sym e
not-true false e = refl

-- a choice whose test is known
pub if_true : {A : Type 0} (t : Bool) (x y : A) → t ≡ true → x ≡ (when t then x else y)
if_true true x y h = refl
if_true false x y h = true_false (sym h)

pub if_false : {A : Type 0} (t : Bool) (x y : A) → t ≡ false → y ≡ (when t then x else y)
if_false true x y h = true_false h
if_false false x y h = refl

-- a choice has a property that both its values have
pub if_both : {A : Type 0} (P : A → Type 0) (b : Bool) {x y : A} → (b ≡ true → P x) → (b ≡ false → P y)
    → P (when b then x else y)
if_both P true hx hy = hx refl
if_both P false hx hy = hy refl

-- a number is itself
pub eqb_refl : (k : ℕ) → eqb k k ≡ true
eqb_refl k = eq-eqb k k refl
