-- `c_asked::asked_numbers` meets its contract. The invariant: the first i answers are stored.
use Prim.Native.Nat.{ℕ}
use mathlib.Core.List.{List}
use mathlib.Core.Path.{◌≡◌}
use lib.ListN.{length, get_or}
use Rattle.base.specs.Overwrite.{put_at}
use Rattle.base.specs.Tabulate.{tabulate}
use Rattle.edition.specs.declared.Edition.{Edition}
use Rattle.c_asked.specs.Asked.{asked_code}
use Rattle.c_asked.proofs.asked_numbers.Given as goal

abbrev code : Edition → List ℕ → List ℕ → List ℕ → ℕ → ℕ
code e f kinds places j = asked_code e f (get_or kinds j 0) (get_or places j 0)

abbrev pub invariant-loop-i : goal.invariant-loop-i
invariant-loop-i l = (length l.initial.answers ≡ 8) × (l.answers ≡ put_at l.initial.answers 0 (tabulate (code l.e l.file l.kinds l.places) l.i))
