-- `file_tables::first_bad_boolean` meets its contract. The invariant: the first bad byte is the first from i on.
use Prim.Native.Nat.{ℕ, ◌+◌}
use mathlib.Core.Bool.{Bool}
use mathlib.Core.List.{List}
use mathlib.Core.Path.{◌≡◌, sym, ◌∙◌}
use lib.ListN.{get_or}
use native.Mathlib.Omega.{arith}
use Rattle.base.proofs.ScanLaws.{scan_step, scan_hit, scan_end, scan_start}
use Rattle.entry.specs.State.{ok_boolean}
use Rattle.file_tables.proofs.first_bad_boolean.Goals as goal

abbrev okAt : List ℕ → ℕ → ℕ → Bool
okAt f at j = ok_boolean (get_or f (at + j) 0)

pub loop-i-init : goal.loop-i-init
loop-i-init c = scan_start _ _

pub returns-then-not-boolean_ok : goal.returns-then-not-boolean_ok
returns-then-not-boolean_ok c =
    let a = c.args in
    let t = c.loop-i in
    sym (t.invariant ∙ scan_hit (okAt a.file.now a.at) t.i a.n (sym c.boolean_ok.ensures ∙ c.if-not-boolean_ok.true) c.loop-i-test.true)

pub loop-i-preserved : goal.loop-i-preserved
loop-i-preserved c =
    let a = c.args in
    let t = c.loop-i in
    t.invariant ∙ scan_step (okAt a.file.now a.at) t.i a.n (sym c.boolean_ok.ensures ∙ c.if-not-boolean_ok.false) c.loop-i-test.true

pub returns : goal.returns
returns c =
    let a = c.args in
    let i = c.loop-i.i in
    let m : a.n ≡ i = omega arith in
    m ∙ sym (c.loop-i.invariant ∙ scan_end (okAt a.file.now a.at) i a.n c.loop-i-test.false)
