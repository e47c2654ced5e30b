-- `terminfo_texts_c::terminfo_expand_texts` meets its contract: what expanding answers, as a number.
-- Assumes nothing.
use lib.ListN.{length}
use Rattle.expansion.specs.Counting.{room_of}
use Rattle.expansion_laws.specs.Counts.{room_most}
use Rattle.c_numbers.proofs.ExpansionLaws.{within_most}
use Rattle.terminfo_texts_c.proofs.Laws.{numbered_as}
use borrow.Author.Rules.{rules}
use Rattle.terminfo_texts_c.proofs.terminfo_expand_texts.Goals as goal

pub expansion_number-requires : goal.expansion_number-requires
expansion_number-requires c =
    within_most c.args.string.now c.given-nine.result c.args.texts.now c.args.lasting.now (length c.args.buffer.now) c.args.at
    (room_of c.args.string.now) c.expand_texts_lent.result (room_most c.args.string.now) c.expand_texts_lent.ensures.answer c.expand_texts_lent.ensures.within

pub returns : goal.returns
returns c =
    numbered_as c.args.string.now c.args.texts.now (length c.args.buffer.now) c.given-nine.ensures c.expand_texts_lent.ensures
    c.expansion_number.ensures
