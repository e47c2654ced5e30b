-- `conditionals::form_of` meets its contract. The loop's invariant: what is left from here has the form of the string.
-- The measure is what is left of the string. Assumes nothing.
use mathlib.Core.Path.{sym, ap, ◌∙◌}
use native.Mathlib.Omega.{arith}
use borrow.Author.Tests.{eq-eqb, ne_eqb}
use Rattle.expansion.specs.declared.Classed.{Classed}
use Rattle.expansion_laws.specs.Forms.{class_on}
use Rattle.conditionals.proofs.WalkLaws.{left_start, left_go, left_stop, left_end, nested_most_lem}
use Rattle.conditionals.proofs.form_of.Goals as goal

pub loop-p-init : goal.loop-p-init
loop-p-init c = (left_start c.args.s.now, omega arith)

pub returns-then-p-eq0 : goal.returns-then-p-eq0
returns-then-p-eq0 c =
    let s = c.args.s.now in
    let p = c.scan-p.result in
    sym (c.loop-p.invariant.0 ∙ c.scan-p.ensures.form ∙ left_end s p.at p.kept c.if-s-p.true ∙ rw (eq-eqb p.kept 0 c.if-p-eq0.true))

pub returns-else-p-eq0 : goal.returns-else-p-eq0
returns-else-p-eq0 c =
    let s = c.args.s.now in
    let p = c.scan-p.result in
    sym (c.loop-p.invariant.0 ∙ c.scan-p.ensures.form ∙ left_end s p.at p.kept c.if-s-p.true ∙ rw (ne_eqb p.kept 0 c.if-p-eq0.false))

pub returns-in_default : goal.returns-in_default
returns-in_default c =
    let s = c.args.s.now in
    let p = c.scan-p.result in
    let e = c.class_at-c.ensures in
    let q = sym c.nest.ensures ∙ c.in_default.is in
    sym (c.loop-p.invariant.0 ∙ c.scan-p.ensures.form ∙ left_stop s p.at p.kept c.if-s-p.false (rw e at q))

pub loop-p-smaller : goal.loop-p-smaller
loop-p-smaller c =
    let s = c.args.s.now in
    let n = ap (λ (x : Classed). x.next) c.class_at-c.ensures in
    let h = c.if-s-p.false in
    omega (arith, n, class_on s c.scan-p.result.at h, c.scan-p.ensures.on, h)

pub loop-p-preserved : goal.loop-p-preserved
loop-p-preserved c =
    let s = c.args.s.now in
    let p = c.scan-p.result in
    let e = c.class_at-c.ensures in
    let q = sym c.nest.ensures ∙ c.in-Ok.is in (
      c.loop-p.invariant.0 ∙ c.scan-p.ensures.form ∙ rw e (left_go s p.at p.kept c.in-Ok.behind c.if-s-p.false (rw e at q)),
      nested_most_lem c.class_at-c.result.class p.kept c.in-Ok.behind c.scan-p.ensures.most q,
    )
