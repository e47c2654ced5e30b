use native.Mathlib.Omega.{arith}
use native.Mathlib.Nat.{le_of_lt}
use Prim.Native.Nat.{◌≤◌}
use mathlib.Core.Path.{refl, sym, ◌∙◌}
use lib.ListN.{length}
use Rattle.text_laws.specs.Runs.{run_ge, run_le}
use Rattle.text_laws.specs.LineLaws.{lines_end, lines_blank, lines_comment, lines-column, lines-indented}
use Rattle.text_lines.proofs.line_at.Goals as goal

pub loop-at-init : goal.loop-at-init
loop-at-init c = refl

pub returns-then-text-j : goal.returns-then-text-j
returns-then-text-j c = sym (lines_end _ _ _ c.blanks_end-j.ensures c.if-text-j.true) ∙ c.loop-at.invariant

pub loop-at-smaller-then-b-eq10 : goal.loop-at-smaller-then-b-eq10
loop-at-smaller-then-b-eq10 c =
    let g : c.loop-at.i ≤ c.blanks_end-j.result = rw c.blanks_end-j.ensures (run_ge _ _ _) in
    omega arith

pub loop-at-preserved-then-b-eq10 : goal.loop-at-preserved-then-b-eq10
loop-at-preserved-then-b-eq10 c = sym (lines_blank _ _ _ c.blanks_end-j.ensures c.if-text-j.false c.if-b-eq10.true) ∙ c.loop-at.invariant

pub overflow_add-i-then-b-eq35 : goal.overflow_add-i-then-b-eq35
overflow_add-i-then-b-eq35 c =
    let g : c.run_end-i.result ≤ length c.args.text.now = rw c.run_end-i.ensures (run_le _ _ _ (le_of_lt c.if-text-j.false)) in
    omega arith

pub loop-at-smaller : goal.loop-at-smaller
loop-at-smaller c =
    let g : c.loop-at.i ≤ c.blanks_end-j.result = rw c.blanks_end-j.ensures (run_ge _ _ _) in
    let h : c.blanks_end-j.result ≤ c.run_end-i.result = rw c.run_end-i.ensures (run_ge _ _ _) in
    omega arith

pub loop-at-preserved : goal.loop-at-preserved
loop-at-preserved c = rw c.run_end-i.ensures (sym (lines_comment _ _ _ c.blanks_end-j.ensures c.if-text-j.false c.if-b-eq10.false c.if-b-eq35.true) ∙ c.loop-at.invariant)

pub returns-then-j-i : goal.returns-then-j-i
returns-then-j-i c = sym (lines-column _ _ _ c.blanks_end-j.ensures c.if-text-j.false c.if-b-eq10.false c.if-b-eq35.false c.if-j-i.true) ∙ c.loop-at.invariant

pub returns-else-j-i : goal.returns-else-j-i
returns-else-j-i c = sym (lines-indented _ _ _ c.blanks_end-j.ensures c.if-text-j.false c.if-b-eq10.false c.if-b-eq35.false c.if-j-i.false) ∙ c.loop-at.invariant
