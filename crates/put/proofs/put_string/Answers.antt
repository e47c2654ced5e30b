-- `put::put_string` meets its contract: the bytes put by the call, and a store behind them.
-- Assumes nothing.
use mathlib.Core.Path.{refl}
use mathlib.Core.List.{[], ◌∷◌, ◌++◌}
use Prim.Native.Nat.{◌+◌}
use native.Mathlib.Omega.{arith}
use lib.ListN.{length, length-set}
use Rattle.base.proofs.OverwriteLaws.{put_store}
use Rattle.put.proofs.put_string.Goals as goal

pub bounds-b-at : goal.bounds-b-at
bounds-b-at c = let k = c.put_bytes.auto.b in omega arith

pub shape_of-b : goal.shape_of-b
shape_of-b c = simp length-set c.put_bytes.auto.b

pub returns : goal.returns
returns c =
    put_store c.args.b.now c.put_bytes.new.b c.args.at (c.args.at + length c.args.s.now) 0 c.args.s.now (c.args.s.now ++ (0 ∷ [])) c.put_bytes.ensures refl refl (omega arith)
