-- `list_states::list_booleans` meets its contract. The loop's invariant: the places passed are filled.
use mathlib.Core.Path.{ap, ◌∙◌}
use native.Mathlib.Omega.{arith}
use Rattle.list_states.specs.Listing.{kind_given}
use Rattle.list_states.proofs.Laws.{filled_none, filled_more, filled_all}
use Rattle.list_states.proofs.list_booleans.Goals as goal

pub loop-i-init : goal.loop-i-init
loop-i-init c = filled_none _ _

pub boolean_opened-s-requires : goal.boolean_opened-s-requires
boolean_opened-s-requires c = c.requires.0

pub loop-i-preserved : goal.loop-i-preserved
loop-i-preserved c =
    filled_more _ _ _ _ _ (omega arith) c.loop-i.invariant (c.kind_of.ensures ∙ ap kind_given c.boolean_opened-s.ensures)

pub returns : goal.returns
returns c = filled_all _ _ _ _ _ (omega arith) c.loop-i.invariant
