-- `descriptions::read` meets its contract.
-- Assumes nothing.
use mathlib.Core.Path.{sym, ◌∙◌}
use Rattle.descriptions.proofs.ReadLaws.{begun_end, begun_indented}
use Rattle.descriptions.proofs.read.Goals as goal

pub read_from-requires : goal.read_from-requires
read_from-requires c =
    (sym c.line_at.ensures ∙ c.in-Column.is, record { short = c.requires.0; many_heads = c.requires.1.0; many_commas = c.requires.1.1.0; many_starts = c.requires.1.1.1.0; many_places = c.requires.1.1.1.1.0; unset = c.requires.1.1.1.1.1 })

pub returns-in-End : goal.returns-in-End
returns-in-End c = begun_end _ _ (sym c.line_at.ensures ∙ c.in-End.is)

pub returns-in-Column : goal.returns-in-Column
returns-in-Column c = c.read_from.ensures

pub returns-in-Indented : goal.returns-in-Indented
returns-in-Indented c = begun_indented _ _ (sym c.line_at.ensures ∙ c.in-Indented.is)
