-- `show_lines::names_line` meets its contract: a text, and behind it the names, where there are any.
-- Assumes nothing.
use mathlib.Core.Path.{◌≡◌, sym, ap, ◌∙◌}
use mathlib.Core.List.{[]}
use native.Mathlib.Omega.{arith}
use Rattle.base.specs.Answer.{refused}
use Rattle.entry.specs.Asking.{asking_names}
use Rattle.entry.specs.Says.{says_file}
use Rattle.opened_file.proofs.Laws.{names_inside, asking_unopened}
use Rattle.names.specs.Names.{ascii}
use Rattle.shown.proofs.PutsLaws.{puts_then, puts_first}
use Rattle.shown.specs.Shown.{shown}
use Rattle.show_lines.specs.Lines.{names_line}
use Rattle.show_lines.proofs.Laws.{part_short}
use Rattle.show_lines.proofs.names_line.Goals as goal

pub names_opened-p-requires : goal.names_opened-p-requires
names_opened-p-requires c =
    record { beyond = c.in-Ok.opening.beyond; given = ap says_file (sym c.in-Ok.is) ∙ c.args.opened.opened }

pub part-requires : goal.part-requires
part-requires c = names_inside _ _ _ c.names_opened-p.ensures

pub put_shown-requires : goal.put_shown-requires
put_shown-requires c = omega (arith, c.requires, part_short c.part.ensures, c.put_text-at.ensures.few, c.put_text-at.auto.out)

pub returns-in-Ok : goal.returns-in-Ok
unfolding names_line ascii
returns-in-Ok c =
    let s = part_short c.part.ensures in
    rw (← c.names_opened-p.ensures, ← c.part.ensures.bytes)
    (puts_first (puts_then c.put_text-at.ensures c.put_shown.ensures (omega (arith, c.requires))) (omega (arith, c.requires)))

pub returns-in-Err : goal.returns-in-Err
unfolding names_line ascii shown
returns-in-Err c =
    let e : refused 17 [] ≡ asking_names c.args.opened.edition c.args.opened.file.now =
    asking_unopened _ _ _ _ _ _ (ap says_file (sym c.in-Err.is) ∙ c.args.opened.opened)
    in
    let p = puts_then c.put_text-at.ensures c.put_text.ensures (omega (arith, c.requires)) in
    rw (← e) (puts_first p (omega (arith, c.requires)))
