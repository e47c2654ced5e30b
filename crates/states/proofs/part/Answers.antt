-- `states::part` meets its contract: where the part of a slice points, and what it holds.
use Prim.Native.Nat.{◌+◌, ◌-◌}
use mathlib.Core.Path.{◌≡◌, refl}
use native.Mathlib.Omega.{arith}
use Rattle.states.proofs.part.Goals as goal

pub returns : goal.returns
returns c =
    let e : c.args.p.start + c.args.p.length - c.args.p.start ≡ c.args.p.length = omega arith in
    record { block = refl; place = omega arith; bytes = rw e refl }
