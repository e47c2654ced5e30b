-- `used_name::read` meets its contract.
-- Assumes nothing.
use mathlib.Core.Path.{refl, sym, ◌∙◌, subst}
use Prim.Native.Nat.{zero-le}
use native.Mathlib.Omega.{arith}
use lib.ListN.{length-set}
use Rattle.text_laws.specs.Reads.{Forward, item_forward, item_past}
use Rattle.used_name.proofs.NameLaws.{read_start, name_ends, name_malformed, name_removed, name_byte, name_longer}
use Rattle.used_name.proofs.read.Goals as goal

pub loop-i-init : goal.loop-i-init
loop-i-init c = (read_start _ _ _, refl, zero-le)

pub shape_of-name-in-End : goal.shape_of-name-in-End
shape_of-name-in-End c = c.loop-i.invariant.1

pub returns-in-End : goal.returns-in-End
returns-in-End c = (c.loop-i.invariant.2, name_ends c.loop-i.invariant.0 (sym c.item_at.ensures ∙ c.in-End.is))

pub shape_of-name-then-n-ge-ALIAS_MOST : goal.shape_of-name-then-n-ge-ALIAS_MOST
shape_of-name-then-n-ge-ALIAS_MOST c = c.loop-i.invariant.1

pub returns-then-n-ge-ALIAS_MOST : goal.returns-then-n-ge-ALIAS_MOST
returns-then-n-ge-ALIAS_MOST c = λ w.
    let l = name_longer c.loop-i.invariant.0 _ _ (sym c.item_at.ensures ∙ c.in-Byte.is) w in
    omega (arith, l, c.if-n-ge-ALIAS_MOST.true)

pub bounds-name-n : goal.bounds-name-n
bounds-name-n c = omega (arith, c.loop-i.invariant.1, c.if-n-ge-ALIAS_MOST.false, c.requires)

pub overflow_add-n : goal.overflow_add-n
overflow_add-n c = omega (arith, c.loop-i.invariant.2)

pub loop-i-smaller-in-Byte : goal.loop-i-smaller-in-Byte
loop-i-smaller-in-Byte c =
    let e = sym c.item_at.ensures ∙ c.in-Byte.is in
    let f = subst (Forward c.loop-i.i) e (item_forward c.args.text.now c.loop-i.i) in
    omega (arith, f, c.loop-i-test.true)

pub loop-i-preserved-in-Byte : goal.loop-i-preserved-in-Byte
loop-i-preserved-in-Byte c = (
  rw c.stored_byte.ensures
      (name_byte c.loop-i.invariant.0 _ _ (sym c.item_at.ensures ∙ c.in-Byte.is)
      (omega (arith, c.loop-i.invariant.1, c.if-n-ge-ALIAS_MOST.false, c.requires))),
  length-set c.loop-i.name c.loop-i.n c.stored_byte.result ∙ c.loop-i.invariant.1,
  omega (arith, c.if-n-ge-ALIAS_MOST.false),
)

pub loop-i-smaller : goal.loop-i-smaller
loop-i-smaller c =
    let e = sym c.item_at.ensures ∙ c.in-Removed.is in
    let f = subst (Forward c.loop-i.i) e (item_forward c.args.text.now c.loop-i.i) in
    omega (arith, f, c.loop-i-test.true)

pub loop-i-preserved : goal.loop-i-preserved
loop-i-preserved c = (
  name_removed c.loop-i.invariant.0 _ (sym c.item_at.ensures ∙ c.in-Removed.is),
  c.loop-i.invariant.1,
  c.loop-i.invariant.2,
)

pub shape_of-name-in-Malformed : goal.shape_of-name-in-Malformed
shape_of-name-in-Malformed c = c.loop-i.invariant.1

pub returns-in-Malformed : goal.returns-in-Malformed
returns-in-Malformed c = (zero-le, name_malformed c.loop-i.invariant.0 (sym c.item_at.ensures ∙ c.in-Malformed.is))

pub shape_of-name : goal.shape_of-name
shape_of-name c = c.loop-i.invariant.1

pub returns : goal.returns
returns c = (zero-le, name_malformed c.loop-i.invariant.0 (item_past _ _ c.loop-i-test.false))
