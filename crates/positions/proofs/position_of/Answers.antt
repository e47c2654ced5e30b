-- `positions::position_of` meets its contract. The loop's invariant: line and column are those of the place passed.
-- Assumes nothing.
use mathlib.Core.Path.{◌≡◌, sym, ◌∙◌}
use Prim.Native.Nat.{◌<◌}
use lib.ListN.{get_or, take}
use borrow.Author.Rules.{rules}
use Rattle.std.proofs.lemmas.List.{get_or-take}
use Rattle.positions.proofs.Laws.{at_start, at_line_end, at_other}
use Rattle.positions.proofs.position_of.Goals as goal
use Rattle.positions.proofs.position_of.Goals.{then-c-eq10, else-c-eq10}

pub loop-c-init : goal.loop-c-init
loop-c-init c = at_start c.args.text.now

pub loop-c-preserved : goal.loop-c-preserved
loop-c-preserved c =
    let t = c.args.text.now in
    let l = c.loop-c in
    let h : l.c-index < c.min.result = search rules in
    let here : get_or (take c.min.result t) l.c-index 0 ≡ get_or t l.c-index 0 = get_or-take c.min.result t l.c-index 0 h in
    elim c.if-c-eq10.branch [
      | then-c-eq10 w ↦ rw (w.line-is, w.column-is) (at_line_end t l.c-index l.line l.column l.invariant (sym here ∙ w.if-c-eq10.true))
      | else-c-eq10 w ↦ rw (w.line-is, w.column-is) (at_other t l.c-index l.line l.column l.invariant (λ e. w.if-c-eq10.false (here ∙ e)))
    ]
