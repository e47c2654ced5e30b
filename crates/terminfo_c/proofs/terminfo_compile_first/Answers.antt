-- `terminfo_c::terminfo_compile_first` meets its contract: what compiling answers, as a number.
-- Assumes nothing.
use mathlib.Core.Path.{sym, ap, ◌∙◌, subst}
use lib.ListN.{length}
use Rattle.text.specs.Building.{first}
use Rattle.building_laws.specs.Values.{Bounded}
use Rattle.building_laws.proofs.Values.{compiling_bounded}
use Rattle.c_numbers.specs.Numbers.{numbered}
use Rattle.terminfo_c.proofs.Laws.{numbered_length, compiled_by, compiled_bits}
use Rattle.terminfo_c.proofs.terminfo_compile_first.Goals as goal

pub length_number-requires : goal.length_number-requires
length_number-requires c =
    compiled_bits c.compile_first-c.result
    (subst Bounded (sym c.compile_first-c.ensures.0) (compiling_bounded _ c.args.text.now first (length c.args.buffer.now)))

pub returns : goal.returns
returns c =
    let r = rw c.edition_of.ensures at c.compile_first-c.ensures in
    record {
      number = c.length_number.ensures ∙ ap (numbered (λ n. n)) (compiled_by c.compile_first-c.result ∙ r.0) ∙ numbered_length _;
      buffer = r.1;
    }
