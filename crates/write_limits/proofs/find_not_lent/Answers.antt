-- `judge::find_not_lent` meets its contract. The loop's invariant: the scan from the first place is the scan from i on.
-- Assumes nothing.
use mathlib.Core.Path.{◌≡◌, sym, ◌∙◌}
use native.Mathlib.Omega.{arith}
use Rattle.base.proofs.ScanLaws.{scan_step, scan_hit, scan_end, scan_start}
use Rattle.entry.specs.Writing.{is_lent}
use Rattle.entry.specs.Handed.{strings_by}
use Rattle.write_limits.proofs.find_not_lent.Goals as goal

pub loop-i-init : goal.loop-i-init
loop-i-init c = scan_start _ _

pub returns-then-not-is_lent : goal.returns-then-not-is_lent
unfolding is_lent
returns-then-not-is_lent c =
    sym (c.loop-i.invariant ∙ scan_hit (is_lent (strings_by c.args.strings.now c.args.lent.now)) c.loop-i.i c.args.n (sym c.is_lent.ensures ∙ c.if-not-is_lent.true) c.loop-i-test.true)

pub loop-i-preserved : goal.loop-i-preserved
unfolding is_lent
loop-i-preserved c =
    c.loop-i.invariant ∙ scan_step (is_lent (strings_by c.args.strings.now c.args.lent.now)) c.loop-i.i c.args.n (sym c.is_lent.ensures ∙ c.if-not-is_lent.false) c.loop-i-test.true

pub returns : goal.returns
returns c =
    let e : c.loop-i.i ≡ c.args.n = let h = c.loop-i.auto.i-end in let g = c.loop-i-test.false in omega arith in
    sym (c.loop-i.invariant ∙ scan_end (is_lent (strings_by c.args.strings.now c.args.lent.now)) c.loop-i.i c.args.n c.loop-i-test.false ∙ e)
