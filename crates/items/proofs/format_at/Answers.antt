-- `items::format_at` meets its contract: the arms are the definition's tests, and the last letter is X, since the item is right.
-- Assumes nothing.
use mathlib.Core.Path.{ap, ◌∙◌}
use Prim.Native.Nat.{◌<◌}
use native.Mathlib.Omega.{arith}
use lib.ListN.{length}
use Rattle.expansion.specs.Items.{format_at}
use Rattle.items.specs.Parts.{other_item}
use Rattle.items.proofs.Laws.{format_inside, format_capital}
use Rattle.items.proofs.format_at.Goals as goal

pub bounds-s-k : goal.bounds-s-k
bounds-s-k c =
    let inside : c.args.k < length c.args.s.now = format_inside c.args.s.now c.args.k c.args.zero c.args.width c.requires in
    inside

pub overflow_add-next : goal.overflow_add-next
overflow_add-next c =
    let inside : c.args.k < length c.args.s.now = format_inside c.args.s.now c.args.k c.args.zero c.args.width c.requires in
    omega (arith, inside)

pub returns-in-100 : goal.returns-in-100
unfolding format_at
returns-in-100 c = rw c.in-100.is c.number.ensures

pub returns-in-111 : goal.returns-in-111
unfolding format_at
returns-in-111 c = rw c.in-111.is c.number-in-111.ensures

pub returns-in-120 : goal.returns-in-120
unfolding format_at
returns-in-120 c = rw c.in-120.is c.number-in-120.ensures

pub returns-in_default : goal.returns-in_default
returns-in_default c =
    c.number-in_default.ensures ∙ ap other_item (format_capital c.args.s.now c.args.k c.args.zero c.args.width c.requires c.in_default.in_default-own.rest.0.0.1 c.in_default.in_default-own.rest.0.1 c.in_default.in_default-own.rest.1)
