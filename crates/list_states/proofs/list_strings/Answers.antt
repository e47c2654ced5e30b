-- `list_states::list_strings` meets its contract. The loop's invariant: the places passed are filled.
use mathlib.Core.Path.{ap, ◌∙◌}
use native.Mathlib.Omega.{arith}
use Rattle.entry.specs.declared.Part.{Part}
use Rattle.entry.specs.Asking.{part_given}
use Rattle.entry.specs.Says.{says_state}
use Rattle.list_states.specs.Listing.{kind_given}
use Rattle.list_states.proofs.Laws.{filled_none, filled_more, filled_all, kind_small, part_or}
use Rattle.list_states.proofs.list_strings.Goals as goal

pub loop-i-init : goal.loop-i-init
loop-i-init c = record { kinds = filled_none _ _; starts = filled_none _ _; lengths = filled_none _ _ }

pub string_opened-s-requires : goal.string_opened-s-requires
string_opened-s-requires c = c.requires.opened

pub loop-i-preserved : goal.loop-i-preserved
loop-i-preserved c =
    let v = c.loop-i.invariant in
    let n = c.string_opened-s.ensures in
    let p = c.present_or-part.ensures ∙ part_or (says_state c.string_opened-s.result) ∙ ap part_given n in
    record {
      kinds = filled_more _ _ _ _ _ (omega arith) v.kinds (omega (arith, kind_small (says_state c.string_opened-s.result), c.kind_of.ensures, ap kind_given n));
      starts = filled_more _ _ _ _ _ (omega arith) v.starts (ap (λ (q : Part). q.start) p);
      lengths = filled_more _ _ _ _ _ (omega arith) v.lengths (ap (λ (q : Part). q.length) p);
    }

pub returns : goal.returns
returns c =
    let v = c.loop-i.invariant in
    (filled_all _ _ _ _ _ (omega arith) v.kinds, (filled_all _ _ _ _ _ (omega arith) v.starts, filled_all _ _ _ _ _ (omega arith) v.lengths))
