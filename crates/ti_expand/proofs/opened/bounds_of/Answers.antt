-- `ti_expand::opened::bounds_of` meets its contract: a string of 1,000 bytes has at most 500 `%s` items.
-- Assumes nothing.
use mathlib.Core.Path.{refl, ap}
use Prim.Native.Nat.{ℕ, ◌+◌, ◌*◌, ◌≤◌}
use lib.ListN.{length}
use native.Mathlib.Nat.{mul-le-mul_left}
use native.Mathlib.Omega.{arith}
use Rattle.expansion.specs.Limits.{room_for}
use Rattle.expansion_laws.specs.Counts.{texts_half}
use Rattle.ti_expand.proofs.opened.bounds_of.Goals as goal

pub overflow_mul-result-2 : goal.overflow_mul-result-2
overflow_mul-result-2 c =
    let n : c.count-texts.result ≤ 500 = omega (arith, c.count-texts.ensures, texts_half c.args.string.now) in
    omega (arith, mul-le-mul_left c.args.longest n, c.ranges.longest)

pub overflow_add-result : goal.overflow_add-result
overflow_add-result c =
    let n : c.count-texts.result ≤ 500 = omega (arith, c.count-texts.ensures, texts_half c.args.string.now) in
    omega (arith, mul-le-mul_left c.args.longest n, c.ranges.longest)

pub returns : goal.returns
returns c h = (refl, ap (λ (n : ℕ). room_for (length c.args.string.now) + c.args.longest * n) c.count-texts.ensures)
