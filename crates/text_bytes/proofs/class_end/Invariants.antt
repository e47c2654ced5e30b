use mathlib.Core.Path.{◌≡◌}
use Rattle.text.specs.Bytes.{run_end}
use Rattle.text_bytes.proofs.class_end.Given as goal

abbrev pub invariant-loop-i : goal.invariant-loop-i
invariant-loop-i l = run_end l.class l.text l.i ≡ run_end l.class l.text l.at
