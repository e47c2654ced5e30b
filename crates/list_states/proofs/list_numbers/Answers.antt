-- `list_states::list_numbers` meets its contract. The loop's invariant: the places passed are filled.
use mathlib.Core.Path.{ap, ◌∙◌}
use native.Mathlib.Omega.{arith}
use Rattle.list_states.specs.Listing.{kind_given, value_given}
use Rattle.list_states.proofs.Laws.{filled_none, filled_more, filled_all}
use Rattle.list_states.proofs.list_numbers.Goals as goal

pub loop-i-init : goal.loop-i-init
loop-i-init c = record { kinds = filled_none _ _; values = filled_none _ _ }

pub number_opened-s-requires : goal.number_opened-s-requires
number_opened-s-requires c = c.requires.opened

pub loop-i-preserved : goal.loop-i-preserved
loop-i-preserved c =
    let v = c.loop-i.invariant in
    let n = c.number_opened-s.ensures in
    record {
      kinds = filled_more _ _ _ _ _ (omega arith) v.kinds (c.kind_of.ensures ∙ ap kind_given n);
      values = filled_more _ _ _ _ _ (omega arith) v.values (c.present_or.ensures ∙ ap value_given n);
    }

pub returns : goal.returns
returns c =
    let v = c.loop-i.invariant in
    (filled_all _ _ _ _ _ (omega arith) v.kinds, filled_all _ _ _ _ _ (omega arith) v.values)
