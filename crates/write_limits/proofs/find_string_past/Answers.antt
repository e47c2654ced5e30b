-- `judge::find_string_past` meets its contract. The loop's invariant: the scan from the first place is the scan from i on.
-- Assumes nothing.
use mathlib.Core.Path.{◌≡◌, sym, ◌∙◌}
use native.Mathlib.Omega.{arith}
use Rattle.base.proofs.ScanLaws.{scan_step, scan_hit, scan_end, scan_start}
use Rattle.entry.specs.Writing.{string_fits_at}
use Rattle.write_laws.proofs.AnswerLaws.{lent_at}
use Rattle.entry.specs.Handed.{strings_by}
use Rattle.write_limits.proofs.find_string_past.Goals as goal

pub loop-i-init : goal.loop-i-init
loop-i-init c = scan_start _ _

pub string_fits-requires : goal.string_fits-requires
string_fits-requires c =
    lent_at (strings_by c.args.strings.now c.args.lent.now) c.args.n c.requires.1.1.1 c.loop-i.i c.loop-i-test.true

pub returns-then-not-string_fits : goal.returns-then-not-string_fits
unfolding string_fits_at
returns-then-not-string_fits c =
    sym (c.loop-i.invariant ∙ scan_hit (string_fits_at (strings_by c.args.strings.now c.args.lent.now)) c.loop-i.i c.args.n (sym c.string_fits.ensures ∙ c.if-not-string_fits.true) c.loop-i-test.true)

pub loop-i-preserved : goal.loop-i-preserved
unfolding string_fits_at
loop-i-preserved c =
    c.loop-i.invariant ∙ scan_step (string_fits_at (strings_by c.args.strings.now c.args.lent.now)) c.loop-i.i c.args.n (sym c.string_fits.ensures ∙ c.if-not-string_fits.false) c.loop-i-test.true

pub returns : goal.returns
returns c =
    let e : c.loop-i.i ≡ c.args.n = let h = c.loop-i.auto.i-end in let g = c.loop-i-test.false in omega arith in
    sym (c.loop-i.invariant ∙ scan_end (string_fits_at (strings_by c.args.strings.now c.args.lent.now)) c.loop-i.i c.args.n c.loop-i-test.false ∙ e)
