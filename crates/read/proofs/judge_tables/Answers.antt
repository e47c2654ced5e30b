-- `read::judge_tables` meets its contract: one law for each refusal, in order.
use mathlib.Core.Path.{sym, ◌∙◌}
use Rattle.file_tables.proofs.Laws.{tables_names, tables_booleans, tables_numbers, tables-strings, tables-done}
use Rattle.read.proofs.judge_tables.Goals as goal

pub returns-then-not-names_ok : goal.returns-then-not-names_ok
returns-then-not-names_ok c =
    tables_names c.requires c.bad_names.ensures
    (sym c.names_ok.ensures ∙ c.if-not-names_ok.true)

pub returns-then-not-booleans_ok : goal.returns-then-not-booleans_ok
returns-then-not-booleans_ok c =
    tables_booleans c.requires
    (sym c.names_ok.ensures ∙ c.if-not-names_ok.false)
    c.bad_boolean.ensures (sym c.booleans_ok.ensures ∙ c.if-not-booleans_ok.true)

pub returns-then-not-numbers_ok : goal.returns-then-not-numbers_ok
returns-then-not-numbers_ok c =
    tables_numbers c.requires
    (sym c.names_ok.ensures ∙ c.if-not-names_ok.false)
    (sym c.booleans_ok.ensures ∙ c.if-not-booleans_ok.false)
    c.bad_number.ensures (sym c.numbers_ok.ensures ∙ c.if-not-numbers_ok.true)

pub returns-then-not-strings_ok : goal.returns-then-not-strings_ok
returns-then-not-strings_ok c =
    tables-strings c.requires
    (sym c.names_ok.ensures ∙ c.if-not-names_ok.false)
    (sym c.booleans_ok.ensures ∙ c.if-not-booleans_ok.false)
    (sym c.numbers_ok.ensures ∙ c.if-not-numbers_ok.false)
    c.bad_string.ensures (sym c.strings_ok.ensures ∙ c.if-not-strings_ok.true)

pub returns : goal.returns
returns c =
    tables-done c.requires
    (sym c.names_ok.ensures ∙ c.if-not-names_ok.false)
    (sym c.booleans_ok.ensures ∙ c.if-not-booleans_ok.false)
    (sym c.numbers_ok.ensures ∙ c.if-not-numbers_ok.false)
    (sym c.strings_ok.ensures ∙ c.if-not-strings_ok.false)
