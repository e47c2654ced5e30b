use native.Mathlib.Omega.{arith}
use mathlib.Core.Path.{sym, ◌∙◌, subst}
use Rattle.text_laws.specs.Reads.{Forward, item_forward}
use Rattle.contents.proofs.Putting.{filled_start, filled_length, filled_within, filled_room, filled_before, filled_malformed, filled_all, filled_removed, filled_byte, filled_itself}
use Rattle.contents.proofs.UsualLaws.{as_told}
use Rattle.contents.proofs.put_read.Goals as goal

pub overflow_add-end : goal.overflow_add-end
overflow_add-end c = let r = c.requires.room in omega arith

pub loop-p-init : goal.loop-p-init
loop-p-init c = filled_start _ _ _ _

pub usual_at-requires : goal.usual_at-requires
usual_at-requires c = filled_within c.loop-p.invariant c.requires

pub bounds-text-i : goal.bounds-text-i
bounds-text-i c = filled_within c.loop-p.invariant c.requires

pub bounds-b-p : goal.bounds-b-p
bounds-b-p c = filled_room c.loop-p.invariant c.requires c.loop-p-test.true

pub overflow_add-p : goal.overflow_add-p
overflow_add-p c =
    let l = filled_room c.loop-p.invariant c.requires c.loop-p-test.true in
    omega arith

pub overflow_add-i : goal.overflow_add-i
overflow_add-i c =
    let l = filled_within c.loop-p.invariant c.requires in
    omega arith

pub loop-p-smaller-in-Itself : goal.loop-p-smaller-in-Itself
loop-p-smaller-in-Itself c =
    let l = filled_within c.loop-p.invariant c.requires in
    omega arith

pub loop-p-preserved-in-Itself : goal.loop-p-preserved-in-Itself
loop-p-preserved-in-Itself c = filled_itself c.loop-p.invariant c.requires c.loop-p-test.true (as_told c.args.text.now c.loop-p.i c.in-Itself.is c.usual_at.ensures)

pub shape_of-b-in-End : goal.shape_of-b-in-End
shape_of-b-in-End c = filled_length c.loop-p.invariant c.requires

pub returns-in-End : goal.returns-in-End
returns-in-End c = absurd (filled_before c.loop-p.invariant c.requires c.loop-p-test.true (as_told c.args.text.now c.loop-p.i c.in-End.is c.usual_at.ensures))

pub pair-requires : goal.pair-requires
pair-requires c = filled_within c.loop-p.invariant c.requires

pub bounds-b-p-in-Pair : goal.bounds-b-p-in-Pair
bounds-b-p-in-Pair c = filled_room c.loop-p.invariant c.requires c.loop-p-test.true

pub overflow_add-p-in-Pair : goal.overflow_add-p-in-Pair
overflow_add-p-in-Pair c =
    let l = filled_room c.loop-p.invariant c.requires c.loop-p-test.true in
    omega arith

pub overflow_add-i-in-Pair : goal.overflow_add-i-in-Pair
overflow_add-i-in-Pair c =
    let l = filled_within c.loop-p.invariant c.requires in
    omega arith

pub loop-p-smaller-in-Pair : goal.loop-p-smaller-in-Pair
loop-p-smaller-in-Pair c =
    let l = filled_within c.loop-p.invariant c.requires in
    omega arith

pub loop-p-preserved-in-Pair : goal.loop-p-preserved-in-Pair
loop-p-preserved-in-Pair c = rw (c.stored_byte.ensures, c.pair.ensures) (filled_byte c.loop-p.invariant c.requires c.loop-p-test.true _ _ (as_told c.args.text.now c.loop-p.i c.in-Pair.is c.usual_at.ensures))

pub octal-requires : goal.octal-requires
octal-requires c = filled_within c.loop-p.invariant c.requires

pub bounds-b-p-in-Octal : goal.bounds-b-p-in-Octal
bounds-b-p-in-Octal c = filled_room c.loop-p.invariant c.requires c.loop-p-test.true

pub overflow_add-p-in-Octal : goal.overflow_add-p-in-Octal
overflow_add-p-in-Octal c =
    let l = filled_room c.loop-p.invariant c.requires c.loop-p-test.true in
    omega arith

pub overflow_add-i-in-Octal : goal.overflow_add-i-in-Octal
overflow_add-i-in-Octal c =
    let l = filled_within c.loop-p.invariant c.requires in
    omega arith

pub loop-p-smaller-in-Octal : goal.loop-p-smaller-in-Octal
loop-p-smaller-in-Octal c =
    let l = filled_within c.loop-p.invariant c.requires in
    omega arith

pub loop-p-preserved-in-Octal : goal.loop-p-preserved-in-Octal
loop-p-preserved-in-Octal c = rw (c.stored_byte-in-Octal.ensures, c.octal.ensures) (filled_byte c.loop-p.invariant c.requires c.loop-p-test.true _ _ (as_told c.args.text.now c.loop-p.i c.in-Octal.is c.usual_at.ensures))

pub item_at-requires : goal.item_at-requires
item_at-requires c = filled_within c.loop-p.invariant c.requires

pub shape_of-b-in-End-item_at : goal.shape_of-b-in-End-item_at
shape_of-b-in-End-item_at c = filled_length c.loop-p.invariant c.requires

pub returns-in-End-item_at : goal.returns-in-End-item_at
returns-in-End-item_at c = absurd (filled_before c.loop-p.invariant c.requires c.loop-p-test.true (sym c.item_at.ensures ∙ c.in-End-item_at.is))

pub bounds-b-p-in-Byte : goal.bounds-b-p-in-Byte
bounds-b-p-in-Byte c = filled_room c.loop-p.invariant c.requires c.loop-p-test.true

pub overflow_add-p-in-Byte : goal.overflow_add-p-in-Byte
overflow_add-p-in-Byte c =
    let l = filled_room c.loop-p.invariant c.requires c.loop-p-test.true in
    omega arith

pub loop-p-smaller-in-Byte : goal.loop-p-smaller-in-Byte
loop-p-smaller-in-Byte c =
    let l = filled_within c.loop-p.invariant c.requires in
    let e = sym c.item_at.ensures ∙ c.in-Byte.is in
    let f = subst (Forward c.loop-p.i) e (item_forward c.args.text.now c.loop-p.i) in
    omega arith

pub loop-p-preserved-in-Byte : goal.loop-p-preserved-in-Byte
loop-p-preserved-in-Byte c = rw c.stored_byte-in-Byte.ensures (filled_byte c.loop-p.invariant c.requires c.loop-p-test.true _ _ (sym c.item_at.ensures ∙ c.in-Byte.is))

pub loop-p-smaller : goal.loop-p-smaller
loop-p-smaller c =
    let l = filled_within c.loop-p.invariant c.requires in
    let e = sym c.item_at.ensures ∙ c.in-Removed.is in
    let f = subst (Forward c.loop-p.i) e (item_forward c.args.text.now c.loop-p.i) in
    omega arith

pub loop-p-preserved : goal.loop-p-preserved
loop-p-preserved c = filled_removed c.loop-p.invariant c.requires _ (sym c.item_at.ensures ∙ c.in-Removed.is)

pub shape_of-b-in-Malformed : goal.shape_of-b-in-Malformed
shape_of-b-in-Malformed c = filled_length c.loop-p.invariant c.requires

pub returns-in-Malformed : goal.returns-in-Malformed
returns-in-Malformed c = absurd (filled_malformed c.loop-p.invariant c.requires (sym c.item_at.ensures ∙ c.in-Malformed.is))

pub shape_of-b : goal.shape_of-b
shape_of-b c = filled_length c.loop-p.invariant c.requires

pub returns : goal.returns
returns c = filled_all c.loop-p.invariant c.requires c.loop-p-test.false
