-- `file_tables::offsets_end` meets its contract. The invariant: the bytes from i on are no NUL.
use Prim.Native.Nat.{◌+◌, ◌-◌}
use mathlib.Core.Path.{◌≡◌}
use native.Mathlib.Decide.{ℕ_discrete}
use native.Mathlib.Omega.{arith}
use borrow.Author.Tests.{ne_eqb}
use Rattle.file_tables.proofs.Laws.{offsets_below}
use Rattle.file_tables.proofs.offsets_end.Goals as goal

pub loop-i-init : goal.loop-i-init
loop-i-init c = λ j l r. absurd (let z : ⊥ = omega arith in z)

pub returns-then-file-at-eq0 : goal.returns-then-file-at-eq0
returns-then-file-at-eq0 c =
    let a = c.args in
    let t = c.loop-i in
    let h = c.loop-i-test.true in
    let m : t.i ≡ t.i - 1 + 1 = omega arith in
    rw (← m) (offsets_below a.file.now a.at a.n t.i t.auto.i t.invariant (λ z. c.if-file-at-eq0.true))

pub loop-i-preserved : goal.loop-i-preserved
loop-i-preserved c =
    let t = c.loop-i in
    let h = c.loop-i-test.true in
    λ j l r. elim (ℕ_discrete j (t.i - 1)) [
      | yes e ↦ rw (e, ne_eqb _ _ c.if-file-at-eq0.false)
      | no e ↦ t.invariant j (omega arith) r
    ]

pub returns : goal.returns
returns c =
    let a = c.args in
    let t = c.loop-i in
    offsets_below a.file.now a.at a.n 0 (omega arith) (λ j l r. t.invariant j (omega (arith, c.loop-i-test.false)) r)
    (λ z. absurd (let y : ⊥ = omega arith in y))
