-- `items::width_at` meets its contract: the first byte is 1 to 9 and a second one up to 9 is a digit, since the item is right.
-- Assumes nothing.
use mathlib.Core.Path.{ap, ◌∙◌}
use Prim.Native.Nat.{◌+◌, ◌≤◌, ◌<◌}
use native.Mathlib.Omega.{arith}
use lib.ListN.{length}
use Rattle.expansion.specs.Items.{byte_at}
use Rattle.items.specs.Parts.{other_item}
use Rattle.items.proofs.Laws.{right_as, width_first, width_second, width_inside, width_two, width_one}
use Rattle.items.proofs.width_at.Goals as goal

pub bounds-s-k : goal.bounds-s-k
bounds-s-k c =
    let inside : c.args.k + 1 < length c.args.s.now = width_inside c.args.s.now c.args.k c.args.zero c.requires in
    omega (arith, inside)

pub overflow_add-d : goal.overflow_add-d
overflow_add-d c =
    let inside : c.args.k + 1 < length c.args.s.now = width_inside c.args.s.now c.args.k c.args.zero c.requires in
    omega (arith, inside)

pub bounds-s-k-2 : goal.bounds-s-k-2
bounds-s-k-2 c =
    let inside : c.args.k + 1 < length c.args.s.now = width_inside c.args.s.now c.args.k c.args.zero c.requires in
    inside

pub overflow_add-k : goal.overflow_add-k
overflow_add-k c =
    let inside : c.args.k + 1 < length c.args.s.now = width_inside c.args.s.now c.args.k c.args.zero c.requires in
    omega (arith, inside)

-- the bounds of the digits
pub overflow_sub-c : goal.overflow_sub-c
overflow_sub-c c =
    let first : (49 ≤ byte_at c.args.s.now c.args.k) × (byte_at c.args.s.now c.args.k ≤ 57) = width_first c.args.s.now c.args.k c.args.zero c.requires in
    let h = first in omega arith

pub overflow_mul-c : goal.overflow_mul-c
overflow_mul-c c =
    let first : (49 ≤ byte_at c.args.s.now c.args.k) × (byte_at c.args.s.now c.args.k ≤ 57) = width_first c.args.s.now c.args.k c.args.zero c.requires in
    let h = first in omega arith

pub overflow_sub-d : goal.overflow_sub-d
overflow_sub-d c =
    let second : (48 ≤ byte_at c.args.s.now (c.args.k + 1)) × (byte_at c.args.s.now (c.args.k + 1) ≤ 57) = width_second c.args.s.now c.args.k c.args.zero c.requires c.if-d-le57.true in
    let h = second in omega arith

pub overflow_add-c : goal.overflow_add-c
overflow_add-c c =
    let first : (49 ≤ byte_at c.args.s.now c.args.k) × (byte_at c.args.s.now c.args.k ≤ 57) = width_first c.args.s.now c.args.k c.args.zero c.requires in
    let second : (48 ≤ byte_at c.args.s.now (c.args.k + 1)) × (byte_at c.args.s.now (c.args.k + 1) ≤ 57) = width_second c.args.s.now c.args.k c.args.zero c.requires c.if-d-le57.true in
    let h = first in
    let g = second in
    omega arith

pub format_at-requires : goal.format_at-requires
format_at-requires c =
    right_as (width_two c.args.s.now c.args.k c.args.zero c.requires c.if-d-le57.true) c.requires

pub overflow_add-k-else-d-le57 : goal.overflow_add-k-else-d-le57
overflow_add-k-else-d-le57 c =
    let inside : c.args.k + 1 < length c.args.s.now = width_inside c.args.s.now c.args.k c.args.zero c.requires in
    omega (arith, inside)

pub overflow_sub-c-else-d-le57 : goal.overflow_sub-c-else-d-le57
overflow_sub-c-else-d-le57 c =
    let first : (49 ≤ byte_at c.args.s.now c.args.k) × (byte_at c.args.s.now c.args.k ≤ 57) = width_first c.args.s.now c.args.k c.args.zero c.requires in
    let h = first in omega arith

pub format_at-requires-else-d-le57 : goal.format_at-requires-else-d-le57
format_at-requires-else-d-le57 c =
    right_as (width_one c.args.s.now c.args.k c.args.zero c.requires c.if-d-le57.false) c.requires

pub returns-then-d-le57 : goal.returns-then-d-le57
returns-then-d-le57 c =
    c.format_at.ensures ∙ ap other_item (width_two c.args.s.now c.args.k c.args.zero c.requires c.if-d-le57.true)

pub returns-else-d-le57 : goal.returns-else-d-le57
returns-else-d-le57 c =
    c.format_at-else-d-le57.ensures ∙ ap other_item (width_one c.args.s.now c.args.k c.args.zero c.requires c.if-d-le57.false)
