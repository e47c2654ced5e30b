use Rattle.text_laws.specs.NumberLaws.{Valued}
use Rattle.text_numbers.proofs.value_of.Given as goal

abbrev pub invariant-loop-i : goal.invariant-loop-i
invariant-loop-i l = Valued l.base l.text l.at l.end l.i l.v
