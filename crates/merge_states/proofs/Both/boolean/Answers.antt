-- `merge_states::Both::boolean` meets its contract: the first file's state stands unless it is absent.
use native.Mathlib.Omega.{arith}
use Rattle.entry.specs.Says.{says_state}
use Rattle.merge_states.proofs.Laws.{boolean_stands, boolean_leaves, kind_small}
use Rattle.merge_states.proofs.Both.boolean.Goals as goal

pub returns-then-kind_of-ne-ABSENT : goal.returns-then-kind_of-ne-ABSENT
returns-then-kind_of-ne-ABSENT c = boolean_stands c.requires.0 c.args.place _ c.requires.1 c.boolean_opened-boolean.ensures (λ z. c.if-kind_of-ne-ABSENT.true (omega (arith, z, c.kind_of.ensures)))

pub returns : goal.returns
returns c = boolean_leaves c.requires.0 c.args.place _ c.requires.1 c.boolean_opened-boolean.ensures _ (omega (arith, kind_small (says_state c.boolean_opened-boolean.result), c.kind_of.ensures, c.if-kind_of-ne-ABSENT.false)) c.boolean_opened.ensures
