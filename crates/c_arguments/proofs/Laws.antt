-- Laws of arguments as C lends them, by their places.
-- Assumes nothing.
use mathlib.Core.Path.{◌≡◌, ap, ◌∙◌}
use mathlib.Core.List.{List, [], ◌∷◌}
use Prim.Native.Nat.{ℕ, ◌^◌, ◌<◌}
use lib.IntN.{ℤ, pos}
use lib.Signed.{mag}
use lib.ListN.{get_or}
use mir.Syntax.{w32}
use mir.Val.{to_z, of_z, hbits}
use mir.Facts.{to_z-of_z}
use Rattle.base.specs.Tabulate.{tabulate}
use Rattle.expansion.specs.declared.Argument.{Argument}
use Rattle.c_arguments.specs.Given.{argument_given, arguments_given}

-- the argument at a place
abbrev pub GivenAt : List ℕ → List ℤ → List ℕ → List ℕ → ℕ → Argument → Type 0
GivenAt k v s n i a = a ≡ argument_given (get_or k i 0) (get_or v i (pos 0)) (get_or s i 0) (get_or n i 0)

-- its number went in and came out as bits
pub given_at : (k : List ℕ) (v : List ℤ) (s n : List ℕ) (i : ℕ) {a : Argument} → mag (get_or v i (pos 0)) < 2 ^ hbits w32
    → a ≡ argument_given (get_or k i 0) (to_z w32 (of_z w32 (get_or v i (pos 0)))) (get_or s i 0) (get_or n i 0) → GivenAt k v s n i a
given_at k v s n i h e =
    e ∙ ap (λ (z : ℤ). argument_given (get_or k i 0) z (get_or s i 0) (get_or n i 0)) (to_z-of_z {w = w32} {z = get_or v i (pos 0)} (record { sfits = h }))

pub given_are : (k : List ℕ) (v : List ℤ) (s n : List ℕ) {a b c d e f x y z : Argument} → GivenAt k v s n 0 a → GivenAt k v s n 1 b → GivenAt k v s n 2 c
    → GivenAt k v s n 3 d → GivenAt k v s n 4 e → GivenAt k v s n 5 f → GivenAt k v s n 6 x → GivenAt k v s n 7 y → GivenAt k v s n 8 z
    → (a ∷ b ∷ c ∷ d ∷ e ∷ f ∷ x ∷ y ∷ z ∷ []) ≡ arguments_given k v s n
unfolding tabulate
given_are k v s n p0 p1 p2 p3 p4 p5 p6 p7 p8 = rw (p0, p1, p2, p3, p4, p5, p6, p7, p8)
