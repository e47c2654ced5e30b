-- `judge::find_boolean_past` meets its contract. The loop's invariant: the scan from the first place is the scan from i on.
-- Assumes nothing.
use mathlib.Core.Path.{◌≡◌, sym, ◌∙◌}
use mathlib.Core.Bool.{Bool}
use mathlib.Core.List.{List}
use Prim.Native.Nat.{ℕ}
use native.Mathlib.Omega.{arith}
use borrow.Author.Tests.{le-leb, lt-leb}
use Rattle.base.proofs.ScanLaws.{scan_step, scan_hit, scan_end, scan_start}
use Rattle.entry.specs.Writing.{boolean_fits_at}
use Rattle.entry.specs.Handed.{booleans_handed}
use Rattle.write_limits.proofs.find_boolean_past.Goals as goal

abbrev okAt : List ℕ → ℕ → Bool
okAt kinds = boolean_fits_at (booleans_handed kinds)

pub loop-i-init : goal.loop-i-init
loop-i-init c = scan_start _ _

pub returns-then-kinds-i-gt-CANCELLED : goal.returns-then-kinds-i-gt-CANCELLED
unfolding boolean_fits_at
returns-then-kinds-i-gt-CANCELLED c =
    sym (c.loop-i.invariant ∙ scan_hit (okAt c.args.kinds.now) c.loop-i.i c.args.n (lt-leb _ _ c.if-kinds-i-gt-CANCELLED.true) c.loop-i-test.true)

pub loop-i-preserved : goal.loop-i-preserved
unfolding boolean_fits_at
loop-i-preserved c =
    c.loop-i.invariant ∙ scan_step (okAt c.args.kinds.now) c.loop-i.i c.args.n (le-leb _ _ c.if-kinds-i-gt-CANCELLED.false) c.loop-i-test.true

pub returns : goal.returns
returns c =
    let e : c.loop-i.i ≡ c.args.n = let h = c.loop-i.auto.i-end in let g = c.loop-i-test.false in omega arith in
    sym (c.loop-i.invariant ∙ scan_end (okAt c.args.kinds.now) c.loop-i.i c.args.n c.loop-i-test.false ∙ e)
