-- `judge::no_nul` meets its contract, which is what `word::find_nul` ensures.
-- Assumes nothing.
use mathlib.Core.Path.{ap}
use Prim.Native.Nat.{ℕ}
use lib.Dec.{eqb}
use lib.ListN.{length}
use Rattle.write_limits.proofs.no_nul.Goals as goal

pub returns : goal.returns
returns c =
    ap (λ (n : ℕ). eqb n (length c.args.s.now)) c.find_nul.ensures
