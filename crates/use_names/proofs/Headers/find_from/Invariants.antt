-- `use_names::Headers::find_from` meets its contract. The loop's invariant: no description before d has the name.
-- Assumes nothing.
use Rattle.use_names.specs.Searched.{NoneFrom}
use Rattle.use_names.proofs.Headers.find_from.Given as goal

abbrev pub invariant-loop-d : goal.invariant-loop-d
invariant-loop-d l = NoneFrom l.self.text.now l.self.heads.now l.self.commas.now l.name l.first l.d
