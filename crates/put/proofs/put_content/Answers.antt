-- `put::put_content` meets its contract: a present string is put from the slice in which it lies.
-- Assumes nothing.
use mathlib.Core.Path.{◌≡◌, sym, ap, ◌∙◌}
use mathlib.Core.List.{List, [], ◌∷◌, ◌++◌}
use Prim.Native.Nat.{ℕ, ◌+◌, ◌-◌}
use native.Mathlib.Omega.{arith}
use lib.ListN.{length, take, drop, length-append, length-drop, length-take}
use Rattle.base.specs.Overwrite.{put_at}
use Rattle.base.proofs.OverwriteLaws.{put_nil}
use Rattle.put.proofs.TableLaws.{bytes_present, bytes_none, part_none, part_present, in_first, in_second}
use Rattle.put.proofs.put_content.Goals as goal

pub returns-then-kind-ne-PRESENT : goal.returns-then-kind-ne-PRESENT
returns-then-kind-ne-PRESENT c =
    let z = bytes_none c.args.kind c.args.size c.if-kind-ne-PRESENT.true in
    (sym (put_nil _ _) ∙ ap (put_at c.args.b.now c.args.at) (sym (part_none c.args.kind _ c.if-kind-ne-PRESENT.true)), omega arith)

pub overflow_add-end : goal.overflow_add-end
overflow_add-end c =
    let h = c.requires.1 c.if-kind-ne-PRESENT.false in
    let z = bytes_present c.args.kind c.args.size c.if-kind-ne-PRESENT.false in
    let f = h.1 c.if-start-skipped.true in
    omega arith

pub slice_bounds-put_string-end : goal.slice_bounds-put_string-end
slice_bounds-put_string-end c =
    let h = c.requires.1 c.if-kind-ne-PRESENT.false in
    let z = bytes_present c.args.kind c.args.size c.if-kind-ne-PRESENT.false in
    let f = h.1 c.if-start-skipped.true in
    omega arith

pub put_string-requires : goal.put_string-requires
put_string-requires c =
    let h = c.requires.1 c.if-kind-ne-PRESENT.false in
    let z = bytes_present c.args.kind c.args.size c.if-kind-ne-PRESENT.false in
    let f = h.1 c.if-start-skipped.true in
    simp (length-take, length-drop) (omega arith)

pub overflow_add-result : goal.overflow_add-result
overflow_add-result c =
    let z = bytes_present c.args.kind c.args.size c.if-kind-ne-PRESENT.false in
    omega (arith, c.requires.0)

pub overflow_add-result-then-start-skipped : goal.overflow_add-result-then-start-skipped
overflow_add-result-then-start-skipped c =
    let z = bytes_present c.args.kind c.args.size c.if-kind-ne-PRESENT.false in
    omega (arith, c.requires.0)

pub returns-then-start-skipped : goal.returns-then-start-skipped
returns-then-start-skipped c =
    let h = c.requires.1 c.if-kind-ne-PRESENT.false in
    let z = bytes_present c.args.kind c.args.size c.if-kind-ne-PRESENT.false in
    let f = h.1 c.if-start-skipped.true in
    let s = take c.args.size (drop c.args.start (c.args.first.now ++ c.args.second.now)) in
    let n : c.args.start + c.args.size - c.args.start ≡ c.args.size = omega arith in
    let e : take (c.args.start + c.args.size - c.args.start) (drop c.args.start c.args.first.now) ≡ s =
    ap (λ (k : ℕ). take k (drop c.args.start c.args.first.now)) n ∙ sym (in_first c.args.first.now c.args.second.now c.args.start c.args.size f) in
    (c.put_string.ensures ∙ ap (put_at c.args.b.now c.args.at) (ap (λ (t : List ℕ). t ++ (0 ∷ [])) e ∙ sym (part_present c.args.kind s c.if-kind-ne-PRESENT.false)), omega arith)

pub overflow_add-end-2 : goal.overflow_add-end-2
overflow_add-end-2 c =
    let h = c.requires.1 c.if-kind-ne-PRESENT.false in
    let z = bytes_present c.args.kind c.args.size c.if-kind-ne-PRESENT.false in
    let l = length-append c.args.first.now c.args.second.now in
    let f = h.0 in
    omega arith

pub slice_bounds-put_string-end-2 : goal.slice_bounds-put_string-end-2
slice_bounds-put_string-end-2 c =
    let h = c.requires.1 c.if-kind-ne-PRESENT.false in
    let z = bytes_present c.args.kind c.args.size c.if-kind-ne-PRESENT.false in
    let l = length-append c.args.first.now c.args.second.now in
    let f = h.0 in
    omega arith

pub put_string-requires-2 : goal.put_string-requires-2
put_string-requires-2 c =
    let h = c.requires.1 c.if-kind-ne-PRESENT.false in
    let z = bytes_present c.args.kind c.args.size c.if-kind-ne-PRESENT.false in
    let l = length-append c.args.first.now c.args.second.now in
    let f = h.0 in
    simp (length-take, length-drop) (omega arith)

pub overflow_add-result-2 : goal.overflow_add-result-2
overflow_add-result-2 c =
    let z = bytes_present c.args.kind c.args.size c.if-kind-ne-PRESENT.false in
    omega (arith, c.requires.0)

pub overflow_add-result-3 : goal.overflow_add-result-3
overflow_add-result-3 c =
    let z = bytes_present c.args.kind c.args.size c.if-kind-ne-PRESENT.false in
    omega (arith, c.requires.0)

pub returns : goal.returns
returns c =
    let h = c.requires.1 c.if-kind-ne-PRESENT.false in
    let z = bytes_present c.args.kind c.args.size c.if-kind-ne-PRESENT.false in
    let l = length-append c.args.first.now c.args.second.now in
    let f = h.0 in
    let s = take c.args.size (drop c.args.start (c.args.first.now ++ c.args.second.now)) in
    let from = c.args.start - length c.args.first.now in
    let n : from + c.args.size - from ≡ c.args.size = omega arith in
    let e : take (from + c.args.size - from) (drop from c.args.second.now) ≡ s =
    ap (λ (k : ℕ). take k (drop from c.args.second.now)) n ∙ sym (in_second c.args.first.now c.args.second.now c.args.start c.args.size c.if-start-skipped.false) in
    (c.put_string-2.ensures ∙ ap (put_at c.args.b.now c.args.at) (ap (λ (t : List ℕ). t ++ (0 ∷ [])) e ∙ sym (part_present c.args.kind s c.if-kind-ne-PRESENT.false)), omega arith)
