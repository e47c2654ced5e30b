-- `read::open` meets its contract: the edition, then what judging the file says.
use mathlib.Core.Path.{sym, ◌∙◌}
use Rattle.std.proofs.lemmas.Result.{err_from_is_err_and}
use Rattle.base.specs.Answer.{gives}
use Rattle.file_tables.proofs.Laws.{open_edition, open_file, accepted_shorts}
use Rattle.read.proofs.open.Goals as goal

pub returns-then-not-edition_ok : goal.returns-then-not-edition_ok
returns-then-not-edition_ok c = open_edition _ _ (sym c.edition_ok.ensures ∙ c.if-not-edition_ok.true)

pub tables_for-requires : goal.tables_for-requires
tables_for-requires c = accepted_shorts c.args.file.now _ c.in_ok-s.ensures

pub returns : goal.returns
returns c =
    (λ i. gives (record { tables = c.tables_for.ensures i; beyond = c.beyond.ensures i }))
    ∙ open_file _ _ (sym c.edition_ok.ensures ∙ c.if-not-edition_ok.false) _ c.in_ok-s.ensures

pub returns-in_err-s : goal.returns-in_err-s
returns-in_err-s c =
    let p = err_from_is_err_and c.from_residual.result c.from_residual.ensures.1 in
    rw (p.1, p.2) (open_file _ _ (sym c.edition_ok.ensures ∙ c.if-not-edition_ok.false) _ c.in_err-s.ensures)
