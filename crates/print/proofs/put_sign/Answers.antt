-- `print::put_sign` meets its contract, by the test of the sign.
-- Assumes nothing.
use mathlib.Core.Path.{◌≡◌, sym}
use native.Mathlib.Omega.{arith}
use lib.ListN.{length}
use Rattle.base.proofs.OverwriteLaws.{put_nil, put_set}
use Rattle.print.specs.Numeral.{minus_sign}
use Rattle.print.proofs.put_sign.Goals as goal

pub bounds-out-at : goal.bounds-out-at
bounds-out-at c = let e : length (minus_sign c.args.minus) ≡ 1 = rw c.if-minus.true in omega arith

pub returns-then-minus : goal.returns-then-minus
returns-then-minus c =
    rw c.if-minus.true (put_set c.args.out.now c.args.at 45 (let e : length (minus_sign c.args.minus) ≡ 1 = rw c.if-minus.true in omega arith))

pub returns-else-minus : goal.returns-else-minus
returns-else-minus c = rw c.if-minus.false (sym (put_nil c.args.out.now c.args.at))
