-- `judge::string_fits` meets its contract: each test decides the kind, the length or the content.
-- Assumes nothing.
use mathlib.Core.Path.{◌≡◌, refl, ap, ◌∙◌}
use Prim.Native.Nat.{ℕ, ◌+◌, ◌-◌}
use native.Mathlib.Omega.{arith}
use lib.ListN.{take, drop}
use borrow.Author.Tests.{le-leb, lt-leb}
use Rattle.write_laws.proofs.AnswerLaws.{content_fits_none, content_fits_present}
use Rattle.write_limits.proofs.string_fits.Goals as goal

pub returns-then-kind-gt-CANCELLED : goal.returns-then-kind-gt-CANCELLED
returns-then-kind-gt-CANCELLED c = rw (lt-leb _ _ c.if-kind-gt-CANCELLED.true)

pub returns-then-kind-ne-PRESENT : goal.returns-then-kind-ne-PRESENT
returns-then-kind-ne-PRESENT c =
    rw (le-leb _ _ c.if-kind-gt-CANCELLED.false, content_fits_none c.args.kind _ c.if-kind-ne-PRESENT.true)

pub returns-then-size-gt-CONTENT_MOST : goal.returns-then-size-gt-CONTENT_MOST
returns-then-size-gt-CONTENT_MOST c =
    let h = c.requires c.if-kind-ne-PRESENT.false in
    let s = take c.args.size (drop c.args.start c.args.lent.now) in
    rw (le-leb _ _ c.if-kind-gt-CANCELLED.false, content_fits_present c.args.kind c.args.start c.args.size c.args.lent.now s c.if-kind-ne-PRESENT.false h refl, lt-leb _ _ c.if-size-gt-CONTENT_MOST.true)

pub overflow_add-end : goal.overflow_add-end
overflow_add-end c =
    let a = c.args in
    let h = c.requires c.if-kind-ne-PRESENT.false in
    omega arith

pub slice_bounds-no_nul-end : goal.slice_bounds-no_nul-end
slice_bounds-no_nul-end c =
    let a = c.args in
    let h = c.requires c.if-kind-ne-PRESENT.false in
    omega arith

pub returns : goal.returns
returns c =
    let h = c.requires c.if-kind-ne-PRESENT.false in
    let s = take (c.args.start + c.args.size - c.args.start) (drop c.args.start c.args.lent.now) in
    let n : c.args.start + c.args.size - c.args.start ≡ c.args.size = omega arith in
    let q : s ≡ take c.args.size (drop c.args.start c.args.lent.now) = ap (λ (k : ℕ). take k (drop c.args.start c.args.lent.now)) n in
    c.no_nul.ensures ∙ rw (le-leb _ _ c.if-kind-gt-CANCELLED.false, content_fits_present c.args.kind c.args.start c.args.size c.args.lent.now s c.if-kind-ne-PRESENT.false h q, le-leb _ _ c.if-size-gt-CONTENT_MOST.false)
