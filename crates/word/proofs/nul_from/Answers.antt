-- `word::nul_from` meets its contract. The invariant: the first NUL from a on is the first from i on, so that i is below
-- the length.
use Prim.Native.Nat.{ℕ, ◌-◌, ◌<◌}
use mathlib.Core.Path.{◌≡◌, sym, ◌∙◌}
use mathlib.Core.List.{List}
use native.Mathlib.Omega.{arith}
use lib.ListN.{length}
use borrow.Author.Tests.{ne_eqb, eq-eqb}
use Rattle.base.proofs.ScanLaws.{scan_ge, scan_step, scan_hit}
use Rattle.word.specs.Nul.{nul_from, not_nul_at}
use Rattle.word.proofs.nul_from.Goals as goal

-- a place from which on there is a NUL
below : (f : List ℕ) (a i : ℕ) → nul_from f a (length f) < length f → nul_from f a (length f) ≡ nul_from f i (length f)
    → i < length f
below f a i h q = let g = scan_ge (not_nul_at f) i (length f - i) in omega arith

pub bounds-f-i : goal.bounds-f-i
bounds-f-i c =
    let a = c.args in
    below a.f.now a.a c.loop-i.i c.requires c.loop-i.invariant

pub overflow_add-i : goal.overflow_add-i
overflow_add-i c =
    let a = c.args in
    let l = below a.f.now a.a c.loop-i.i c.requires c.loop-i.invariant in
    let g = c.well_formed in
    omega arith

pub loop-i-smaller : goal.loop-i-smaller
loop-i-smaller c =
    let a = c.args in
    let l = below a.f.now a.a c.loop-i.i c.requires c.loop-i.invariant in
    omega arith

pub loop-i-preserved : goal.loop-i-preserved
loop-i-preserved c =
    let a = c.args in
    c.loop-i.invariant
    ∙ scan_step (not_nul_at a.f.now) c.loop-i.i (length a.f.now) (rw (ne_eqb _ _ c.loop-i-test.true))
    (below a.f.now a.a c.loop-i.i c.requires c.loop-i.invariant)

pub returns : goal.returns
returns c =
    let a = c.args in
    sym
    (c.loop-i.invariant
    ∙ scan_hit (not_nul_at a.f.now) c.loop-i.i (length a.f.now) (rw (eq-eqb _ _ c.loop-i-test.false))
    (below a.f.now a.a c.loop-i.i c.requires c.loop-i.invariant))
