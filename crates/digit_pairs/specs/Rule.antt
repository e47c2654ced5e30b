-- The two digits of a number below 100, by which proofs/Rule.antt gives the rule of the list of pairs.
-- Assumes nothing.
use Rattle.std.specs.Prelude.{List, [], ◌∷◌, ℕ, ◌/◌, ◌%◌}
use Prim.Native.Char.{code}
use Rattle.expansion.specs.Print.{digit_byte}

-- the two digits of k
abbrev pub two_digits : ℕ → List ℕ
two_digits k = digit_byte (code "a") (k / 10) ∷ digit_byte (code "a") (k % 10) ∷ []
