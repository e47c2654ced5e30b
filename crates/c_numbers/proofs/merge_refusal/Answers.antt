-- `c_numbers::merge_refusal` meets its contract: which file is refused stands below the number.
use mathlib.Core.Path.{sym, ap, ◌∙◌}
use Rattle.entry.specs.declared.MergeRefusal.{MergeRefusal}
use Rattle.entry.specs.Says.{refused_merge}
use Rattle.c_numbers.specs.Numbers.{merging_number}
use Rattle.c_numbers.proofs.Laws.{merged_first, merged_second}
use Rattle.c_numbers.proofs.merge_refusal.Goals as goal

pub returns-in-First : goal.returns-in-First
returns-in-First c =
    merged_first c.in-First.first _ c.refusal.ensures
    ∙ ap (λ (g : MergeRefusal). merging_number (λ n. n) (refused_merge g)) (sym c.in-First.is)

pub returns-in-Second : goal.returns-in-Second
returns-in-Second c =
    merged_second c.in-Second.second _ c.refusal-in-Second.ensures
    ∙ ap (λ (g : MergeRefusal). merging_number (λ n. n) (refused_merge g)) (sym c.in-Second.is)

pub returns-in-Edition : goal.returns-in-Edition
unfolding merging_number
returns-in-Edition c = rw (c.refusal-in-Edition.ensures, c.in-Edition.is)

pub returns-in-Size : goal.returns-in-Size
unfolding merging_number
returns-in-Size c = rw (c.refusal-in-Size.ensures, c.in-Size.is)

pub returns-in-Room : goal.returns-in-Room
unfolding merging_number
returns-in-Room c = rw (c.refusal-in-Room.ensures, c.in-Room.is)
