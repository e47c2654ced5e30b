-- `word::find_nul` meets its contract. The invariant: the first NUL from a on is the first from i on.
use mathlib.Core.Path.{◌≡◌, sym, ◌∙◌}
use native.Mathlib.Omega.{arith}
use borrow.Author.Tests.{ne_eqb}
use Rattle.base.proofs.IfLaws.{below_or}
use Rattle.base.proofs.ScanLaws.{scan_step, scan_hit, scan_end}
use Rattle.word.specs.Nul.{not_nul_at}
use Rattle.word.proofs.find_nul.Goals as goal

pub returns-then-f-i-eq0 : goal.returns-then-f-i-eq0
returns-then-f-i-eq0 c =
    let a = c.args in
    sym (c.loop-i.invariant ∙ scan_hit (not_nul_at a.f.now) c.loop-i.i a.e (rw c.if-f-i-eq0.true) c.loop-i-test.true)

pub loop-i-preserved : goal.loop-i-preserved
loop-i-preserved c =
    let a = c.args in
    c.loop-i.invariant ∙ scan_step (not_nul_at a.f.now) c.loop-i.i a.e (rw (ne_eqb _ _ c.if-f-i-eq0.false)) c.loop-i-test.true

pub returns : goal.returns
returns c =
    let a = c.args in
    let i = c.loop-i.i in
    below_or a.a a.e
    (λ h.
    let m : c.max.result ≡ i = omega arith in
    m ∙ sym (c.loop-i.invariant ∙ scan_end (not_nul_at a.f.now) i a.e c.loop-i-test.false))
    (λ h.
    let m : c.max.result ≡ a.a = omega arith in
    m ∙ sym (scan_end (not_nul_at a.f.now) a.a a.e h))
