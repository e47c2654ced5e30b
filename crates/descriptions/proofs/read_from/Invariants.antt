-- `descriptions::read_from` meets its contract. The loop's invariant: the arrays hold the descriptions read.
-- Assumes nothing.
use Rattle.descriptions.proofs.ReadLaws.{ReadTo}
use Rattle.descriptions.proofs.read_from.Given as goal

abbrev pub invariant-loop-d : goal.invariant-loop-d
invariant-loop-d l = ReadTo l.edition l.text l.heads l.commas l.starts l.places l.d l.at l.uses
