-- `decimals::put` meets its contract: the pairs, and before them the highest digit of an odd number of digits.
-- Assumes nothing.
use mathlib.Core.Path.{◌∙◌}
use Prim.Native.Nat.{◌<◌}
use native.Mathlib.Omega.{arith}
use Rattle.expansion_laws.specs.DigitCount.{digits_ten}
use Rattle.decimals.proofs.Rounds.{even_put, odd_put, odd_small}
use Rattle.decimals.proofs.put.Goals as goal

pub put_pairs-left-requires : goal.put_pairs-left-requires
put_pairs-left-requires c =
    let t = digits_ten 97 c.args.n c.ranges.n.fits in
    (omega (arith, c.requires.0), (omega (arith, c.requires.1.0), c.requires.1.1))

pub overflow_cast-out : goal.overflow_cast-out
overflow_cast-out c =
    let small : c.put_pairs-left.result < 10 = rw c.put_pairs-left.ensures.0 (odd_small c.args.n c.args.count c.requires.0 c.if-count-eq1.true) in
    omega (arith, small)

pub overflow_add-out : goal.overflow_add-out
overflow_add-out c =
    let small : c.put_pairs-left.result < 10 = rw c.put_pairs-left.ensures.0 (odd_small c.args.n c.args.count c.requires.0 c.if-count-eq1.true) in
    omega (arith, small)

pub returns-then-count-eq1 : goal.returns-then-count-eq1
returns-then-count-eq1 c =
    rw (c.put_pairs-left.ensures.0, c.put_pairs-left.ensures.1)
    (odd_put c.args.out.now c.args.end c.args.n c.args.count c.requires.0 c.requires.1.0 c.requires.1.1 c.if-count-eq1.true)

pub returns-else-count-eq1 : goal.returns-else-count-eq1
returns-else-count-eq1 c =
    c.put_pairs-left.ensures.1
    ∙ even_put c.args.out.now c.args.end c.args.n c.args.count c.requires.0 c.if-count-eq1.false
