-- `terminfo_c::terminfo_compile` meets its contract: what compiling answers, as a number.
-- Assumes nothing.
use mathlib.Core.Path.{sym, ap, ◌∙◌, subst}
use lib.ListN.{length}
use Rattle.text.specs.Building.{named}
use Rattle.building_laws.specs.Values.{Bounded}
use Rattle.building_laws.proofs.Values.{compiling_bounded}
use Rattle.c_numbers.specs.Numbers.{numbered}
use Rattle.terminfo_c.proofs.Laws.{numbered_length, compiled_by, compiled_bits}
use Rattle.terminfo_c.proofs.terminfo_compile.Goals as goal

pub length_number-requires : goal.length_number-requires
length_number-requires c =
    compiled_bits c.compile-c.result
    (subst Bounded (sym c.compile-c.ensures.0) (compiling_bounded _ c.args.text.now (named c.args.wanted.now) (length c.args.buffer.now)))

pub returns : goal.returns
returns c =
    let r = rw c.edition_of.ensures at c.compile-c.ensures in
    record {
      number = c.length_number.ensures ∙ ap (numbered (λ n. n)) (compiled_by c.compile-c.result ∙ r.0) ∙ numbered_length _;
      buffer = r.1;
    }
