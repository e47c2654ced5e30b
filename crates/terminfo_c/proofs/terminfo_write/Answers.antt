-- `terminfo_c::terminfo_write` meets its contract: what writing answers, as a number.
use mathlib.Core.Path.{ap, ◌∙◌}
use Rattle.c_numbers.specs.Numbers.{numbered}
use Rattle.terminfo_c.proofs.Laws.{written_within, written_by, written_bits, numbered_length}
use Rattle.terminfo_c.proofs.terminfo_write.Goals as goal

pub length_number-requires : goal.length_number-requires
length_number-requires c =
    written_bits c.write-w.result (written_within _ _ _ c.write-w.result c.write-w.ensures.0)

pub returns : goal.returns
returns c =
    let r = rw c.edition_of.ensures at c.write-w.ensures in
    record {
      number = c.length_number.ensures ∙ ap (numbered (λ n. n)) (written_by c.write-w.result ∙ r.0) ∙ numbered_length _;
      buffer = r.1;
    }
