-- A match on a number whose keys are the table's numbers.
-- Assumes nothing.
use mathlib.Core.Path.{◌≡◌}
use Prim.Native.Nat.{ℕ, ◌+◌, ◌<◌}
use native.Mathlib.Omega.{arith}
use lib.Dec.{lit≤}
use lib.ListN.{get_or}
use Rattle.base.proofs.KeyLaws.{NoKey, no_key}
use Rattle.names.specs.Naming.{packed_names}
use Rattle.names.specs.Searching.{searching}
use Rattle.names.proofs.Places.{numbers_count, only_place, no_place}
use Rattle.names.specs.Names.{all_named}

-- an arm's key is the number at place j
pub key_place : {w : ℕ} (j : ℕ) → j < all_named → w ≡ get_or packed_names j 0 → j ≡ searching 0 all_named w
key_place {w} j l q = let e : 0 + j ≡ j = omega arith in only_place 0 all_named w j (lit≤ tt) l (rw e q)

-- the last arm
pub rest_place : (w : ℕ) → NoKey Unit packed_names w → all_named ≡ searching 0 all_named w
rest_place w h =
    no_place 0 all_named w (λ j l q. let e : 0 + j ≡ j = omega arith in no_key packed_names w h j (rw numbers_count l) (rw e at q))
