-- `merge::merge` meets its contract: the edition, then what judging the two files says.
use mathlib.Core.Path.{◌≡◌, sym, ◌∙◌}
use mathlib.Core.Bool.{true}
use Rattle.edition.specs.Edition.{ok_edition}
use Rattle.file_tables.proofs.Laws.{accepted_shorts}
use Rattle.merge_states.proofs.Laws.{opens, merge_edition, merge_first, merge_second}
use Rattle.merge.proofs.merge.Goals as goal

pub returns-then-not-edition_ok : goal.returns-then-not-edition_ok
returns-then-not-edition_ok c =
    merge_edition c.args.edition c.args.first.now c.args.second.now c.args.buffer.now (sym c.edition_ok.ensures ∙ c.if-not-edition_ok.true)

pub tables_for-t-requires : goal.tables_for-t-requires
tables_for-t-requires c = accepted_shorts c.args.first.now _ c.in-Ok.ensures

pub returns-in-Err : goal.returns-in-Err
returns-in-Err c =
    merge_first c.args.edition c.args.first.now c.args.second.now c.args.buffer.now (sym c.edition_ok.ensures ∙ c.if-not-edition_ok.false) _ _ c.in-Err.ensures

pub tables_for-u-requires : goal.tables_for-u-requires
tables_for-u-requires c = accepted_shorts c.args.second.now _ c.in-Ok-judge.ensures

pub returns-in-Err-judge : goal.returns-in-Err-judge
returns-in-Err-judge c =
    let k : ok_edition c.args.edition ≡ true = sym c.edition_ok.ensures ∙ c.if-not-edition_ok.false in
    let o = opens c.args.edition c.args.first.now c.in-Ok.s c.tables_for-t.result k c.in-Ok.ensures c.tables_for-t.ensures in
    merge_second c.args.edition c.args.first.now c.args.second.now c.args.buffer.now o _ _ c.in-Err-judge.ensures

pub merge_opened-requires : goal.merge_opened-requires
merge_opened-requires c =
    let k : ok_edition c.args.edition ≡ true = sym c.edition_ok.ensures ∙ c.if-not-edition_ok.false in
    record {
      first = opens c.args.edition c.args.first.now c.in-Ok.s c.tables_for-t.result k c.in-Ok.ensures c.tables_for-t.ensures;
      second = opens c.args.edition c.args.second.now c.in-Ok-judge.s c.tables_for-u.result k c.in-Ok-judge.ensures c.tables_for-u.ensures;
    }
