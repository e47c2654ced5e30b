use native.Mathlib.Omega.{arith}
use Prim.Native.Nat.{zero-le}
use mathlib.Core.Path.{refl, sym, ◌∙◌, subst}
use mathlib.Core.List.{[]}
use Rattle.text_laws.specs.Reads.{Forward, item_forward, item_past, scanned_byte, scanned_removed, scanned_end, scanned_malformed}
use Rattle.contents.proofs.UsualLaws.{as_told}
use Rattle.contents.proofs.content_at.Goals as goal

pub loop-i-init : goal.loop-i-init
loop-i-init c = (([], refl, refl), zero-le)

pub overflow_add-n : goal.overflow_add-n
overflow_add-n c = omega arith

pub overflow_add-i : goal.overflow_add-i
overflow_add-i c = omega arith

pub loop-i-smaller-in-Itself : goal.loop-i-smaller-in-Itself
loop-i-smaller-in-Itself c = omega arith

pub loop-i-preserved-in-Itself : goal.loop-i-preserved-in-Itself
loop-i-preserved-in-Itself c = (scanned_byte c.args.text.now _ _ _ c.loop-i.invariant.0 _ _ (as_told c.args.text.now c.loop-i.i c.in-Itself.is c.usual_at.ensures).0, omega arith)

pub returns-in-End : goal.returns-in-End
returns-in-End c = scanned_end c.args.text.now _ _ _ c.loop-i.invariant.0 (as_told c.args.text.now c.loop-i.i c.in-End.is c.usual_at.ensures)

pub overflow_add-n-in-Pair : goal.overflow_add-n-in-Pair
overflow_add-n-in-Pair c = omega arith

pub overflow_add-i-in-Pair : goal.overflow_add-i-in-Pair
overflow_add-i-in-Pair c = omega arith

pub loop-i-smaller-in-Pair : goal.loop-i-smaller-in-Pair
loop-i-smaller-in-Pair c = omega arith

pub loop-i-preserved-in-Pair : goal.loop-i-preserved-in-Pair
loop-i-preserved-in-Pair c = (scanned_byte c.args.text.now _ _ _ c.loop-i.invariant.0 _ _ (as_told c.args.text.now c.loop-i.i c.in-Pair.is c.usual_at.ensures), omega arith)

pub overflow_add-n-in-Octal : goal.overflow_add-n-in-Octal
overflow_add-n-in-Octal c = omega arith

pub overflow_add-i-in-Octal : goal.overflow_add-i-in-Octal
overflow_add-i-in-Octal c = omega arith

pub loop-i-smaller-in-Octal : goal.loop-i-smaller-in-Octal
loop-i-smaller-in-Octal c = omega arith

pub loop-i-preserved-in-Octal : goal.loop-i-preserved-in-Octal
loop-i-preserved-in-Octal c = (scanned_byte c.args.text.now _ _ _ c.loop-i.invariant.0 _ _ (as_told c.args.text.now c.loop-i.i c.in-Octal.is c.usual_at.ensures), omega arith)

pub returns-in-End-item_at : goal.returns-in-End-item_at
returns-in-End-item_at c = scanned_end c.args.text.now _ _ _ c.loop-i.invariant.0 (sym c.item_at.ensures ∙ c.in-End-item_at.is)

pub overflow_add-n-in-Byte : goal.overflow_add-n-in-Byte
overflow_add-n-in-Byte c = omega arith

pub loop-i-smaller-in-Byte : goal.loop-i-smaller-in-Byte
loop-i-smaller-in-Byte c =
    let e = sym c.item_at.ensures ∙ c.in-Byte.is in
    let f = subst (Forward c.loop-i.i) e (item_forward c.args.text.now c.loop-i.i) in
    omega arith

pub loop-i-preserved-in-Byte : goal.loop-i-preserved-in-Byte
loop-i-preserved-in-Byte c =
    let e = sym c.item_at.ensures ∙ c.in-Byte.is in
    let f = subst (Forward c.loop-i.i) e (item_forward c.args.text.now c.loop-i.i) in
    (scanned_byte c.args.text.now _ _ _ c.loop-i.invariant.0 _ _ e, omega arith)

pub loop-i-smaller : goal.loop-i-smaller
loop-i-smaller c =
    let e = sym c.item_at.ensures ∙ c.in-Removed.is in
    let f = subst (Forward c.loop-i.i) e (item_forward c.args.text.now c.loop-i.i) in
    omega arith

pub loop-i-preserved : goal.loop-i-preserved
loop-i-preserved c =
    let e = sym c.item_at.ensures ∙ c.in-Removed.is in
    let f = subst (Forward c.loop-i.i) e (item_forward c.args.text.now c.loop-i.i) in
    (scanned_removed c.args.text.now _ _ _ c.loop-i.invariant.0 _ e, omega arith)

pub returns-in-Malformed : goal.returns-in-Malformed
returns-in-Malformed c = scanned_malformed c.args.text.now _ _ _ c.loop-i.invariant.0 (sym c.item_at.ensures ∙ c.in-Malformed.is)

pub returns : goal.returns
returns c = scanned_malformed c.args.text.now _ _ _ c.loop-i.invariant.0 (item_past _ _ c.loop-i-test.false)
