-- `%c` prints no NUL.
-- Assumes nothing.
use Prim.Native.Nat.{◌%◌}
use native.Mathlib.Omega.{arith}
use lib.Dec.{eqb}
use lib.IntN.{ℤ}
use borrow.Author.Tests.{eqb-false}
use Rattle.base.proofs.IfLaws.{if_both}
use Rattle.word.specs.Nul.{NotNul}
use Rattle.signed.specs.Signed.{low32}
use Rattle.characters.specs.Character.{character}

pub character_not_nul : (v : ℤ) → NotNul (character v)
unfolding character
character_not_nul v =
    if_both NotNul (eqb (low32 v % 256) 0) (λ _ e. omega arith) (λ e. eqb-false (low32 v % 256) 0 e)
