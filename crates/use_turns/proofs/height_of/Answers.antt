-- `use_turns::height_of` meets its contract: the height is that of the uses read, with those that are left.
-- Assumes nothing.
use mathlib.Core.Path.{◌≡◌, sym, ap, ◌∙◌}
use Prim.Native.Nat.{ℕ, max, suc}
use native.Mathlib.Omega.{arith}
use lib.ListN.{get_or}
use Rattle.uses.specs.Heights.{low}
use Rattle.use_turns.proofs.ReadLaws.{height_start, height_missing, height_unfinished}
use Rattle.use_turns.proofs.ReadLaws.{height_more, height_end}
use Rattle.use_turns.proofs.height_of.Goals.{then-h-x, else-h-x}
use Rattle.use_turns.proofs.height_of.Goals as goal

pub loop-i-init : goal.loop-i-init
loop-i-init c = (omega arith, λ places. height_start _)

pub returns-then-target-eq-NO_TARGET : goal.returns-then-target-eq-NO_TARGET
returns-then-target-eq-NO_TARGET c =
    λ places. height_missing places c.args.targets.now c.args.heights.now c.loop-i.i c.args.end c.loop-i.h
    c.loop-i-test.true (sym c.from-target.ensures ∙ c.if-target-eq-NO_TARGET.true)
    ∙ ap low (sym (c.loop-i.invariant.1 places))

pub returns-then-x-ge-UNFINISHED : goal.returns-then-x-ge-UNFINISHED
returns-then-x-ge-UNFINISHED c =
    let w = c.from-target.ensures in
    let b = c.requires.1.1.1 c.loop-i.i c.loop-i-test.true (λ e. c.if-target-eq-NO_TARGET.false (w ∙ e)) in
    λ places. height_unfinished places c.args.targets.now c.args.heights.now c.loop-i.i c.args.end c.loop-i.h
    c.loop-i-test.true c.from-target.result w c.if-target-eq-NO_TARGET.false (omega arith) c.if-x-ge-UNFINISHED.true
    ∙ ap low (sym (c.loop-i.invariant.1 places))

pub loop-i-preserved : goal.loop-i-preserved
loop-i-preserved c =
    let w = c.from-target.ensures in
    let b = c.requires.1.1.1 c.loop-i.i c.loop-i-test.true (λ e. c.if-target-eq-NO_TARGET.false (w ∙ e)) in
    let x : ℕ = get_or c.args.heights.now c.from-target.result 0 in
    let m : c.if-h-x.h ≡ max c.loop-i.h (suc x) =
    elim c.if-h-x.branch [ then-h-x v ↦ omega arith | else-h-x v ↦ omega arith ]
    in (
      omega arith,
      λ places. c.loop-i.invariant.1 places
          ∙ height_more places c.args.targets.now c.args.heights.now c.loop-i.i c.args.end c.loop-i.h
          c.loop-i-test.true c.from-target.result w c.if-target-eq-NO_TARGET.false (omega arith) c.if-h-x.h c.if-x-ge-UNFINISHED.false m,
    )

pub returns : goal.returns
returns c =
    λ places. height_end places c.args.targets.now c.args.heights.now c.loop-i.i c.args.end c.loop-i.h
    c.loop-i-test.false
    ∙ ap low (sym (c.loop-i.invariant.1 places))
