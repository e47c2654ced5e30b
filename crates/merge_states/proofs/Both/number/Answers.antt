-- `merge_states::Both::number` meets its contract: the first file's state stands unless it is absent.
use mathlib.Core.Path.{sym, ◌∙◌}
use Rattle.merge_states.proofs.Laws.{number_stands, number_leaves}
use Rattle.merge_states.proofs.Both.number.Goals as goal

pub returns-then-kind_of-ne-ABSENT : goal.returns-then-kind_of-ne-ABSENT
returns-then-kind_of-ne-ABSENT c = number_stands c.requires.0 c.args.place _ c.requires.1 c.number_opened-number.ensures (λ z. c.if-kind_of-ne-ABSENT.true (c.kind_of.ensures ∙ z))

pub returns : goal.returns
returns c = number_leaves c.requires.0 c.args.place _ c.requires.1 c.number_opened-number.ensures _ (sym c.kind_of.ensures ∙ c.if-kind_of-ne-ABSENT.false) c.number_opened.ensures
