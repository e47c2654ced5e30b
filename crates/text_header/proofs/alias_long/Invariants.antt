use Rattle.text_laws.specs.HeadingLaws.{Passed}
use Rattle.text_header.proofs.alias_long.Given as goal

abbrev pub invariant-loop-i : goal.invariant-loop-i
invariant-loop-i l = Passed l.names l.start l.i
