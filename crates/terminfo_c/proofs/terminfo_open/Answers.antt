-- `terminfo_c::terminfo_open` meets its contract: what opening answers, as a number and an array.
use mathlib.Core.Path.{sym, ap, ◌∙◌}
use native.Mathlib.Omega.{arith}
use Rattle.entry.specs.Says.{says_file}
use Rattle.file_positions.proofs.Positions.{opened_fits}
use Rattle.terminfo_c.proofs.Laws.{open_done, open_refused}
use Rattle.terminfo_c.proofs.terminfo_open.Goals as goal

pub refusal-requires : goal.refusal-requires
refusal-requires c =
    omega (arith, opened_fits _ _ _ _ (sym (ap says_file (sym c.in-Err.is) ∙ c.open.ensures)))

pub returns-in-Ok : goal.returns-in-Ok
returns-in-Ok c =
    let o = rw c.edition_of.ensures at c.open.ensures in
    let p = open_done _ c.args.tables.now _ (ap says_file (sym c.in-Ok.is) ∙ o) in
    (p.0, c.opening_array.ensures ∙ p.1)

pub returns-in-Err : goal.returns-in-Err
returns-in-Err c =
    let o = rw c.edition_of.ensures at c.open.ensures in
    let p = open_refused _ c.args.tables.now _ _ (ap says_file (sym c.in-Err.is) ∙ o) in
    (c.refusal.ensures ∙ p.0, p.1)
