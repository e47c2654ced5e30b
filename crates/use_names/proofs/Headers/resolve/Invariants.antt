-- `use_names::Headers::resolve` meets its contract. The loop's invariant: the first i uses lead where the targets say.
-- Assumes nothing.
use mathlib.Core.List.{List}
use Rattle.edition.specs.declared.Edition.{Edition}
use Rattle.text.specs.Describing.{Description}
use Rattle.compile_laws.specs.Listed.{Listed, Targets}
use Rattle.use_names.proofs.Headers.resolve.Given as goal

abbrev pub invariant-loop-i : goal.invariant-loop-i
invariant-loop-i l =
    (e : Edition) (ds : List Description)
    → Listed e l.self.text.now l.self.heads.now l.self.commas.now l.self.count ds
    → Targets l.self.text.now ds l.places l.targets l.i
