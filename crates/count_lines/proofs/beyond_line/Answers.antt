-- `count_lines::beyond_line` meets its contract, by what opening answered.
-- Assumes nothing.
use mathlib.Core.Path.{sym, ap, ◌∙◌}
use native.Mathlib.Omega.{arith}
use Rattle.entry.specs.Says.{says_file}
use Rattle.names.specs.Names.{ascii}
use Rattle.shown.proofs.PutsLaws.{puts_first}
use Rattle.count_lines.specs.Counts.{beyond_line}
use Rattle.show_names.proofs.LineLaws.{holds_none}
use Rattle.count_lines.proofs.beyond_line.Goals as goal

pub returns-in-Ok : goal.returns-in-Ok
unfolding beyond_line ascii
returns-in-Ok c =
    let e = ap says_file (sym c.in-Ok.is) ∙ c.args.opened.opened in
    rw (← e) (puts_first c.put_counts.ensures (omega (arith, c.requires)))

pub returns-in-Err : goal.returns-in-Err
unfolding beyond_line
returns-in-Err c =
    let e = ap says_file (sym c.in-Err.is) ∙ c.args.opened.opened in
    rw (← e) (holds_none c.args.out.now)
