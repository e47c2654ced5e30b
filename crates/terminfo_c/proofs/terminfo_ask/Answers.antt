-- `terminfo_c::terminfo_ask` meets its contract: refused as a whole, or eight answers stored.
use mathlib.Core.Path.{sym, ap, ◌∙◌}
use Rattle.entry.specs.Says.{says_file}
use Rattle.terminfo_c.proofs.Laws.{ask_done, ask_refused}
use Rattle.terminfo_c.proofs.terminfo_ask.Goals as goal

pub returns-in-Ok : goal.returns-in-Ok
returns-in-Ok c =
    let g = rw c.edition_of-e.ensures at c.open-o.ensures in
    let a = rw c.edition_of-e.ensures at c.asked_numbers.ensures in
    let p = ask_done _ c.args.file.now c.args.kinds.now c.args.places.now c.args.answers.now _ (ap says_file (sym c.in-Ok.is) ∙ g) in
    (p.0, a ∙ p.1)

pub returns-in-Err : goal.returns-in-Err
returns-in-Err c =
    let g = rw c.edition_of-e.ensures at c.open-o.ensures in
    ask_refused _ _ _ _ _ _ _ (ap says_file (sym c.in-Err.is) ∙ g)
