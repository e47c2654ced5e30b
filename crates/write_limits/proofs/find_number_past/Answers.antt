-- `judge::find_number_past` meets its contract. The loop's invariant: the scan from the first place is the scan from i on.
-- Assumes nothing.
use mathlib.Core.Path.{◌≡◌, sym, ◌∙◌}
use native.Mathlib.Omega.{arith}
use Rattle.base.proofs.ScanLaws.{scan_step, scan_hit, scan_end, scan_start}
use Rattle.entry.specs.Writing.{number_fits_at}
use Rattle.entry.specs.Handed.{numbers_by}
use Rattle.write_limits.proofs.find_number_past.Goals as goal

pub loop-i-init : goal.loop-i-init
loop-i-init c = scan_start _ _

pub returns-then-not-number_fits : goal.returns-then-not-number_fits
unfolding number_fits_at
returns-then-not-number_fits c =
    sym (c.loop-i.invariant ∙ scan_hit (number_fits_at (numbers_by c.args.numbers.now)) c.loop-i.i c.args.n (sym c.number_fits.ensures ∙ c.if-not-number_fits.true) c.loop-i-test.true)

pub loop-i-preserved : goal.loop-i-preserved
unfolding number_fits_at
loop-i-preserved c =
    c.loop-i.invariant ∙ scan_step (number_fits_at (numbers_by c.args.numbers.now)) c.loop-i.i c.args.n (sym c.number_fits.ensures ∙ c.if-not-number_fits.false) c.loop-i-test.true

pub returns : goal.returns
returns c =
    let e : c.loop-i.i ≡ c.args.n = let h = c.loop-i.auto.i-end in let g = c.loop-i-test.false in omega arith in
    sym (c.loop-i.invariant ∙ scan_end (number_fits_at (numbers_by c.args.numbers.now)) c.loop-i.i c.args.n c.loop-i-test.false ∙ e)
