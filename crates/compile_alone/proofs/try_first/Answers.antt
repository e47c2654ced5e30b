-- `compile_alone::try_first` meets its contract: by what the first line is.
-- Assumes nothing.
use mathlib.Core.Path.{sym, ◌∙◌, subst}
use Rattle.text_laws.specs.LineLaws.{LineAfter, lines_after}
use Rattle.compile_alone.proofs.Alone.{no_line, indented_line}
use Rattle.compile_alone.proofs.try_first.Goals as goal

pub try_headed-requires : goal.try_headed-requires
try_headed-requires c = (c.requires, (sym c.line_at.ensures ∙ c.in-Column.is, (subst (LineAfter c.args.text.now 0) (sym c.line_at.ensures ∙ c.in-Column.is) (lines_after c.args.text.now 0)).1))

pub returns-in-End : goal.returns-in-End
returns-in-End c =
    rw c.refused.ensures (no_line c.args.edition c.args.text.now _ c.args.buffer.now (sym c.line_at.ensures ∙ c.in-End.is))

pub returns-in-Indented : goal.returns-in-Indented
returns-in-Indented c =
    rw c.refused-in-Indented.ensures
    (indented_line c.args.edition c.args.text.now _ c.args.buffer.now _ (sym c.line_at.ensures ∙ c.in-Indented.is))
