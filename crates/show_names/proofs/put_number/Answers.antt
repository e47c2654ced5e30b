-- `show_names::put_number` meets its contract: the number's digits, and then what stands behind them.
-- Assumes nothing.
use native.Mathlib.Omega.{arith}
use Rattle.show_names.proofs.Laws.{digits_most_lem}
use Rattle.show_names.proofs.Laws.{number_puts}
use Rattle.show_names.proofs.put_number.Goals as goal

pub put_text-end-requires : goal.put_text-end-requires
put_text-end-requires c = omega (arith, c.decimal-k.ensures.in_bounds, digits_most_lem c.args.n c.decimal-k.result c.ranges.n.fits c.decimal-k.ensures.len)

pub put_text-requires : goal.put_text-requires
put_text-requires c = omega (arith, c.decimal-k.ensures.in_bounds, digits_most_lem c.args.n c.decimal-k.result c.ranges.n.fits c.decimal-k.ensures.len, c.put_text-end.ensures.few, c.put_text-end.auto.out)

pub returns : goal.returns
returns c =
    number_puts c.args.out.now _ _ c.decimal-k.new.out c.args.behind.now c.args.at _ _ c.args.n c.decimal-k.result c.ranges.n.fits c.decimal-k.ensures.in_bounds c.decimal-k.ensures.len c.decimal-k.ensures.digits c.requires c.put_text-end.ensures c.put_text.ensures
