-- `items::other_at` meets its contract: each arm's byte is a case of the definition, and the last arm has the digits, since the item is right.
-- Assumes nothing.
use mathlib.Core.Path.{refl, ap, ◌∙◌}
use Prim.Native.Nat.{◌+◌, ◌<◌}
use native.Mathlib.Omega.{arith}
use lib.ListN.{length}
use Rattle.expansion.specs.Items.{singles, found, store_at, load_at}
use Rattle.item_parts.proofs.Cases.{percent_byte}
use Rattle.items.specs.Parts.{Right, other_item}
use Rattle.items.proofs.Laws.{right_as, store_inside, store_letter, load_inside, load_letter, percent_inside, percent_left}
use Rattle.items.proofs.other_at.Goals as goal

pub bounds-s-j : goal.bounds-s-j
unfolding singles found
bounds-s-j c =
    let inside : c.args.j < length c.args.s.now = percent_inside c.args.s.now c.args.j c.requires.1 in
    inside

pub overflow_add-next : goal.overflow_add-next
unfolding singles found
overflow_add-next c =
    let inside : c.args.j < length c.args.s.now = percent_inside c.args.s.now c.args.j c.requires.1 in
    omega (arith, inside)

-- `%P` and `%g`
pub overflow_add-j : goal.overflow_add-j
unfolding singles found
overflow_add-j c =
    let store : Right (store_at c.args.s.now c.args.j) = right_as (percent_byte c.args.s.now c.args.j refl 80 c.in-80.is) c.requires.1 in
    let store_in : c.args.j + 1 < length c.args.s.now = store_inside c.args.s.now c.args.j store in
    omega (arith, store_in)

pub bounds-s-j-in-80 : goal.bounds-s-j-in-80
unfolding singles found
bounds-s-j-in-80 c =
    let store : Right (store_at c.args.s.now c.args.j) = right_as (percent_byte c.args.s.now c.args.j refl 80 c.in-80.is) c.requires.1 in
    let store_in : c.args.j + 1 < length c.args.s.now = store_inside c.args.s.now c.args.j store in
    store_in

pub overflow_add-j-in-80 : goal.overflow_add-j-in-80
unfolding singles found
overflow_add-j-in-80 c =
    let store : Right (store_at c.args.s.now c.args.j) = right_as (percent_byte c.args.s.now c.args.j refl 80 c.in-80.is) c.requires.1 in
    let store_in : c.args.j + 1 < length c.args.s.now = store_inside c.args.s.now c.args.j store in
    omega (arith, store_in)

pub overflow_add-j-in-103 : goal.overflow_add-j-in-103
unfolding singles found
overflow_add-j-in-103 c =
    let load : Right (load_at c.args.s.now c.args.j) = right_as (percent_byte c.args.s.now c.args.j refl 103 c.in-103.is) c.requires.1 in
    let load-in : c.args.j + 1 < length c.args.s.now = load_inside c.args.s.now c.args.j load in
    omega (arith, load-in)

pub bounds-s-j-in-103 : goal.bounds-s-j-in-103
unfolding singles found
bounds-s-j-in-103 c =
    let load : Right (load_at c.args.s.now c.args.j) = right_as (percent_byte c.args.s.now c.args.j refl 103 c.in-103.is) c.requires.1 in
    let load-in : c.args.j + 1 < length c.args.s.now = load_inside c.args.s.now c.args.j load in
    load-in

pub overflow_add-j-in-103-2 : goal.overflow_add-j-in-103-2
unfolding singles found
overflow_add-j-in-103-2 c =
    let load : Right (load_at c.args.s.now c.args.j) = right_as (percent_byte c.args.s.now c.args.j refl 103 c.in-103.is) c.requires.1 in
    let load-in : c.args.j + 1 < length c.args.s.now = load_inside c.args.s.now c.args.j load in
    omega (arith, load-in)

pub filled_at-requires : goal.filled_at-requires
unfolding singles found
filled_at-requires c = right_as (percent_left c.args.s.now c.args.j c.requires.0 c.in_default.in_default-own.rest) c.requires.1

pub returns-in-80 : goal.returns-in-80
unfolding singles found
returns-in-80 c =
    let store : Right (store_at c.args.s.now c.args.j) = right_as (percent_byte c.args.s.now c.args.j refl 80 c.in-80.is) c.requires.1 in
    c.other.ensures ∙ ap other_item (store_letter _ _ store ∙ percent_byte _ _ refl 80 c.in-80.is)

pub returns-in-103 : goal.returns-in-103
unfolding singles found
returns-in-103 c =
    let load : Right (load_at c.args.s.now c.args.j) = right_as (percent_byte c.args.s.now c.args.j refl 103 c.in-103.is) c.requires.1 in
    c.other-in-103.ensures ∙ ap other_item (load_letter _ _ load ∙ percent_byte _ _ refl 103 c.in-103.is)

pub returns-in-37 : goal.returns-in-37
unfolding singles found
returns-in-37 c = c.other-in-37.ensures ∙ ap other_item (percent_byte _ _ refl 37 c.in-37.is)

pub returns-in-99 : goal.returns-in-99
unfolding singles found
returns-in-99 c = c.other-in-99.ensures ∙ ap other_item (percent_byte _ _ refl 99 c.in-99.is)

pub returns-in-100 : goal.returns-in-100
unfolding singles found
returns-in-100 c = c.number.ensures ∙ ap other_item (percent_byte _ _ refl 100 c.in-100.is)

pub returns-in-111 : goal.returns-in-111
unfolding singles found
returns-in-111 c = c.number-in-111.ensures ∙ ap other_item (percent_byte _ _ refl 111 c.in-111.is)

pub returns-in-120 : goal.returns-in-120
unfolding singles found
returns-in-120 c = c.number-in-120.ensures ∙ ap other_item (percent_byte _ _ refl 120 c.in-120.is)

pub returns-in-88 : goal.returns-in-88
unfolding singles found
returns-in-88 c = c.number-in-88.ensures ∙ ap other_item (percent_byte _ _ refl 88 c.in-88.is)

pub returns-in-43 : goal.returns-in-43
unfolding singles found
returns-in-43 c = c.other-in-43.ensures ∙ ap other_item (percent_byte _ _ refl 43 c.in-43.is)

pub returns-in-45 : goal.returns-in-45
unfolding singles found
returns-in-45 c = c.other-in-45.ensures ∙ ap other_item (percent_byte _ _ refl 45 c.in-45.is)

pub returns-in-42 : goal.returns-in-42
unfolding singles found
returns-in-42 c = c.other-in-42.ensures ∙ ap other_item (percent_byte _ _ refl 42 c.in-42.is)

pub returns-in-47 : goal.returns-in-47
unfolding singles found
returns-in-47 c = c.other-in-47.ensures ∙ ap other_item (percent_byte _ _ refl 47 c.in-47.is)

pub returns-in-109 : goal.returns-in-109
unfolding singles found
returns-in-109 c = c.other-in-109.ensures ∙ ap other_item (percent_byte _ _ refl 109 c.in-109.is)

pub returns-in-38 : goal.returns-in-38
unfolding singles found
returns-in-38 c = c.other-in-38.ensures ∙ ap other_item (percent_byte _ _ refl 38 c.in-38.is)

pub returns-in-124 : goal.returns-in-124
unfolding singles found
returns-in-124 c = c.other-in-124.ensures ∙ ap other_item (percent_byte _ _ refl 124 c.in-124.is)

pub returns-in-94 : goal.returns-in-94
unfolding singles found
returns-in-94 c = c.other-in-94.ensures ∙ ap other_item (percent_byte _ _ refl 94 c.in-94.is)

pub returns-in-61 : goal.returns-in-61
unfolding singles found
returns-in-61 c = c.other-in-61.ensures ∙ ap other_item (percent_byte _ _ refl 61 c.in-61.is)

pub returns-in-62 : goal.returns-in-62
unfolding singles found
returns-in-62 c = c.other-in-62.ensures ∙ ap other_item (percent_byte _ _ refl 62 c.in-62.is)

pub returns-in-60 : goal.returns-in-60
unfolding singles found
returns-in-60 c = c.other-in-60.ensures ∙ ap other_item (percent_byte _ _ refl 60 c.in-60.is)

pub returns-in-65 : goal.returns-in-65
unfolding singles found
returns-in-65 c = c.other-in-65.ensures ∙ ap other_item (percent_byte _ _ refl 65 c.in-65.is)

pub returns-in-79 : goal.returns-in-79
unfolding singles found
returns-in-79 c = c.other-in-79.ensures ∙ ap other_item (percent_byte _ _ refl 79 c.in-79.is)

pub returns-in-33 : goal.returns-in-33
unfolding singles found
returns-in-33 c = c.other-in-33.ensures ∙ ap other_item (percent_byte _ _ refl 33 c.in-33.is)

pub returns-in-126 : goal.returns-in-126
unfolding singles found
returns-in-126 c = c.other-in-126.ensures ∙ ap other_item (percent_byte _ _ refl 126 c.in-126.is)

pub returns-in_default : goal.returns-in_default
unfolding singles found
returns-in_default c = c.filled_at.ensures ∙ ap other_item (percent_left c.args.s.now c.args.j c.requires.0 c.in_default.in_default-own.rest)
