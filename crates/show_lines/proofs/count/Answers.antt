-- `show_lines::count` meets its contract: a file opens in an edition that is none too large.
-- Assumes nothing.
use mathlib.Core.Path.{refl, sym, ap, ◌∙◌}
use native.Mathlib.Omega.{arith}
use Rattle.entry.specs.Says.{says_file}
use Rattle.show_lines.proofs.Laws.{opened_counts}
use Rattle.show_lines.proofs.count.Goals as goal

pub overflow_add-result : goal.overflow_add-result
overflow_add-result c =
    let e = ap says_file (sym c.in-Ok.is) ∙ c.args.opened.opened in
    let l = opened_counts c.args.opened.edition c.args.opened.file.now _ e in
    omega (arith, l.0, l.1.0)

pub overflow_add-result-in-Ok : goal.overflow_add-result-in-Ok
overflow_add-result-in-Ok c =
    let e = ap says_file (sym c.in-Ok.is) ∙ c.args.opened.opened in
    let l = opened_counts c.args.opened.edition c.args.opened.file.now _ e in
    omega (arith, l.0, l.1.0, l.1.1)

pub returns-in-Ok : goal.returns-in-Ok
returns-in-Ok c =
    let e = ap says_file (sym c.in-Ok.is) ∙ c.args.opened.opened in
    rw (← e) refl

pub returns-in-Err : goal.returns-in-Err
returns-in-Err c =
    let e = ap says_file (sym c.in-Err.is) ∙ c.args.opened.opened in
    rw (← e) refl
