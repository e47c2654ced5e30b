-- `file_tables::first_bad_slot` meets its contract. The invariant: the first bad slot is the first from i on.
use Prim.Native.Nat.{ℕ, ◌+◌, ◌*◌}
use mathlib.Core.Bool.{Bool}
use mathlib.Core.List.{List}
use mathlib.Core.Path.{◌≡◌, sym, ap, ◌∙◌}
use lib.Dec.{ltb}
use native.Mathlib.Omega.{arith}
use Rattle.base.proofs.ScanLaws.{scan_step, scan_hit, scan_end, scan_start}
use Rattle.word.specs.Word.{word}
use Rattle.entry.specs.Limits.{short_width}
use Rattle.entry.specs.State.{ok_slot}
use Rattle.file_tables.proofs.first_bad_slot.Goals as goal

abbrev okCode : ℕ → ℕ → Bool
okCode bound c = ok_slot short_width (λ d. ltb d bound) c

abbrev okAt : List ℕ → ℕ → ℕ → ℕ → Bool
okAt f at bound j = okCode bound (word short_width f (at + short_width * j))

pub loop-i-init : goal.loop-i-init
loop-i-init c = scan_start _ _

pub returns-then-not-slot_ok : goal.returns-then-not-slot_ok
returns-then-not-slot_ok c =
    let a = c.args in
    let t = c.loop-i in
    let e = c.slot_ok.ensures ∙ ap (okCode a.bound) c.short_at.ensures.0 in
    sym (t.invariant ∙ scan_hit (okAt a.file.now a.at a.bound) t.i a.n (sym e ∙ c.if-not-slot_ok.true) c.loop-i-test.true)

pub loop-i-preserved : goal.loop-i-preserved
loop-i-preserved c =
    let a = c.args in
    let t = c.loop-i in
    let e = c.slot_ok.ensures ∙ ap (okCode a.bound) c.short_at.ensures.0 in
    t.invariant ∙ scan_step (okAt a.file.now a.at a.bound) t.i a.n (sym e ∙ c.if-not-slot_ok.false) c.loop-i-test.true

pub returns : goal.returns
returns c =
    let a = c.args in
    let i = c.loop-i.i in
    let m : a.n ≡ i = omega arith in
    m ∙ sym (c.loop-i.invariant ∙ scan_end (okAt a.file.now a.at a.bound) i a.n c.loop-i-test.false)
