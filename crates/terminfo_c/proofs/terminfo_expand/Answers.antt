-- `terminfo_c::terminfo_expand` meets its contract: what expanding answers, as a number.
use mathlib.Core.Path.{ap, ◌∙◌}
use Rattle.c_numbers.specs.Numbers.{numbered, counts_code}
use mathlib.Core.List.{[]}
use native.Mathlib.Omega.{arith}
use lib.ListN.{length}
use Rattle.expansion.specs.Limits.{room_for}
use Rattle.expansion.specs.Arguments.{numbers_given}
use borrow.Author.Rules.{rules}
use Rattle.c_numbers.proofs.ExpansionLaws.{within_most}
use Rattle.terminfo_c.proofs.terminfo_expand.Goals as goal

pub expansion_number-requires : goal.expansion_number-requires
expansion_number-requires c =
    within_most c.args.string.now (numbers_given c.args.arguments.now) [] c.args.lasting.now (length c.args.buffer.now) c.args.at (room_for (length c.args.string.now)) c.expand_lent.result (λ h. omega arith) c.expand_lent.ensures.answer c.expand_lent.ensures.within

pub returns : goal.returns
returns c =
    record { number = c.expansion_number.ensures ∙ ap (numbered counts_code) c.expand_lent.ensures.answer; lasting = c.expand_lent.ensures.lasting; output = c.expand_lent.ensures.output }
