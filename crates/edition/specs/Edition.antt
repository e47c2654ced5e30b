-- Editions and places (document 01: Three ordered lists).
-- Assumes nothing.
use Rattle.std.specs.Prelude.{Bool, ◌&&◌, ℕ, ◌≤◌, leb, ltb}
use Rattle.edition.specs.declared.Edition.{Edition}
use Rattle.edition.specs.declared.Place.{Place}

-- "booleans (0 to 64), numbers (0 to 64), strings (0 to 512)"
abbrev pub booleans_most : ℕ
booleans_most = 64

abbrev pub numbers_most : ℕ
numbers_most = 64

abbrev pub strings_most : ℕ
strings_most = 512

unfoldable pub ok_edition : Edition → Bool
ok_edition e = leb e.booleans booleans_most && (leb e.numbers numbers_most && leb e.strings strings_most)

-- the place of the capability that a list counts as its i-th, from 0
abbrev pub place : ℕ → Place
place i = record { 0 = i }

-- "An edition knows the list places below its counts": n is the edition's count in the place's list
abbrev pub knows : ℕ → Place → Bool
knows n p = ltb p.0 n

-- an edition that knows no more in any list than another
pub record NoMore (e E : Edition) : Type 0 where
  pub booleans : e.booleans ≤ E.booleans
  pub numbers : e.numbers ≤ E.numbers
  pub strings : e.strings ≤ E.strings
