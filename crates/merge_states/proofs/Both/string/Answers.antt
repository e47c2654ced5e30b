-- `merge_states::Both::string` meets its contract: the first file's state stands unless it is absent, and the second
-- file's bytes count behind the first's.
use mathlib.Core.Path.{ap}
use native.Mathlib.Omega.{arith}
use Rattle.entry.specs.declared.Part.{Part}
use Rattle.entry.specs.Says.{says_state}
use Rattle.merge_states.proofs.Laws.{opened_file, start_most, kind_small, string_stands, string_leaves}
use Rattle.merge_states.proofs.Both.string.Goals as goal

pub returns-then-kind-ne-ABSENT : goal.returns-then-kind-ne-ABSENT
returns-then-kind-ne-ABSENT c =
    let k = kind_small (says_state c.string_opened-string.result) in
    string_stands c.requires.0 c.args.place c.requires.1 _ c.string_opened-string.ensures _ _ (omega (arith, k, c.kind_of-kind.ensures)) c.present_or-part.ensures c.if-kind-ne-ABSENT.true

pub overflow_add-start : goal.overflow_add-start
overflow_add-start c =
    let m = start_most c.requires.0.second c.args.place c.requires.1 _ c.string_opened-string-2.ensures in
    let n = (opened_file c.requires.0.first).most in
    let q = ap (λ (s : Part). s.start) c.present_or-part-2.ensures in
    omega arith

pub returns : goal.returns
returns c =
    let k = kind_small (says_state c.string_opened-string.result) in
    string_leaves c.requires.0 c.args.place c.requires.1 _ c.string_opened-string.ensures _ _ c.kind_of-kind.ensures c.present_or-part.ensures _ c.string_opened-string-2.ensures _ _ c.kind_of-kind-2.ensures c.present_or-part-2.ensures (omega (arith, k, c.kind_of-kind.ensures, c.if-kind-ne-ABSENT.false))
