-- The first NUL of a list of bytes; lists without one.
-- Assumes nothing.
use Rattle.std.specs.Prelude.{◌≡◌, Bool, not, List, ℕ, ◌-◌, eqb, get_or}
use Rattle.base.specs.Scan.{scan}
use Rattle.base.specs.Tabulate.{Each}

abbrev pub NotNul : ℕ → Type 0
NotNul b = b ≡ 0 → ⊥

-- no byte is a NUL
abbrev pub NoNul : List ℕ → Type 0
NoNul s = Each NotNul s

abbrev pub not_nul_at : List ℕ → ℕ → Bool
not_nul_at f i = not (eqb (get_or f i 0) 0)

-- the place of f's first NUL from a on and before e, which is not below a; e where there is none
abbrev pub nul_from : List ℕ → ℕ → ℕ → ℕ
nul_from f a e = scan (not_nul_at f) a (e - a)
