-- `items::filled_at` meets its contract: a byte other than 0 is 1 to 9, since the item is right.
-- Assumes nothing.
use mathlib.Core.Path.{ap, ◌∙◌}
use Prim.Native.Nat.{◌<◌}
use native.Mathlib.Omega.{arith}
use lib.ListN.{length}
use Rattle.items.specs.Parts.{other_item}
use Rattle.items.proofs.Laws.{right_as, filled_inside, filled_zero, filled_nonzero}
use Rattle.items.proofs.filled_at.Goals as goal

pub bounds-s-j : goal.bounds-s-j
bounds-s-j c =
    let inside : c.args.j < length c.args.s.now = filled_inside c.args.s.now c.args.j c.requires in
    inside

pub overflow_add-j : goal.overflow_add-j
overflow_add-j c =
    let inside : c.args.j < length c.args.s.now = filled_inside c.args.s.now c.args.j c.requires in
    omega (arith, inside)

pub width_at-requires : goal.width_at-requires
width_at-requires c =
    right_as (filled_zero c.args.s.now c.args.j c.requires c.if-s-j-eq48.true) c.requires

pub width_at-requires-else-s-j-eq48 : goal.width_at-requires-else-s-j-eq48
width_at-requires-else-s-j-eq48 c =
    right_as (filled_nonzero c.args.s.now c.args.j c.requires c.if-s-j-eq48.false) c.requires

pub returns-then-s-j-eq48 : goal.returns-then-s-j-eq48
returns-then-s-j-eq48 c =
    c.width_at.ensures ∙ ap other_item (filled_zero c.args.s.now c.args.j c.requires c.if-s-j-eq48.true)

pub returns-else-s-j-eq48 : goal.returns-else-s-j-eq48
returns-else-s-j-eq48 c =
    c.width_at-else-s-j-eq48.ensures ∙ ap other_item (filled_nonzero c.args.s.now c.args.j c.requires c.if-s-j-eq48.false)
