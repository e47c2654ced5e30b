-- Laws that the proofs cite: a turn of the loop over a text.
-- Assumes nothing.
use mathlib.Core.Path.{◌≡◌, refl, ap}
use mathlib.Core.List.{List}
use Prim.Native.Nat.{ℕ, suc, ◌+◌, ◌≤◌}
use native.Mathlib.Omega.{arith}
use lib.ListN.{get_or}
use borrow.Author.Tests.{eq-eqb, ne_eqb}
use Rattle.positions.specs.Position.{line_of, column_of}

-- line and column of the place i, both at most one more than i
abbrev pub At : List ℕ → ℕ → (line column : ℕ) → Type 0
At t i line column = (line ≡ line_of t i) × (column ≡ column_of t i) × (line ≤ i + 1) × (column ≤ i + 1)

pub at_line_end : (t : List ℕ) (i line column : ℕ) → At t i line column → get_or t i 0 ≡ 10 → At t (i + 1) (line + 1) 1
unfolding line_of column_of
at_line_end t i line column a e =
    let n : i + 1 ≡ suc i = omega arith in
    let m : line + 1 ≡ suc line = omega arith in
    rw (n, m, eq-eqb (get_or t i 0) 10 e) (ap suc a.0, refl, omega arith, omega arith)

pub at_other : (t : List ℕ) (i line column : ℕ) → At t i line column → (get_or t i 0 ≡ 10 → ⊥) → At t (i + 1) line (column + 1)
unfolding line_of column_of
at_other t i line column a e =
    let n : i + 1 ≡ suc i = omega arith in
    let m : column + 1 ≡ suc column = omega arith in
    rw (n, m, ne_eqb (get_or t i 0) 10 e) (a.0, ap suc a.1, omega arith, omega arith)

pub at_start : (t : List ℕ) → At t 0 1 1
unfolding line_of column_of
at_start t = (refl, refl, omega arith, omega arith)
