-- `terminfo_c::terminfo_merge` meets its contract: what merging answers, as a number.
use mathlib.Core.Path.{ap, ◌∙◌}
use Rattle.c_numbers.specs.Numbers.{merging_number}
use Rattle.terminfo_c.proofs.Laws.{merged_within, merged_length}
use Rattle.terminfo_c.proofs.terminfo_merge.Goals as goal

pub merged_number-requires : goal.merged_number-requires
merged_number-requires c = merged_within _ _ _ _ c.merge-m.result c.merge-m.ensures.0

pub returns : goal.returns
returns c =
    let r = rw c.edition_of.ensures at c.merge-m.ensures in
    record {
      number = c.merged_number.ensures ∙ ap (merging_number (λ n. n)) r.0 ∙ merged_length _;
      buffer = r.1;
    }
