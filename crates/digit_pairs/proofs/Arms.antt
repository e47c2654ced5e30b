-- A match on k whose keys are the numbers below 100.
-- Assumes nothing.
use mathlib.Core.Path.{◌≡◌, sym, ap, ◌∙◌}
use mathlib.Core.List.{List, []}
use Prim.Native.Nat.{ℕ, ◌<◌}
use lib.ListN.{length, get_or}
use Rattle.base.specs.Tabulate.{tabulate}
use Rattle.base.proofs.TabulateLaws.{length_tabulate, get_d_tabulate}
use Rattle.base.proofs.KeyLaws.{NoKey, no_key}
use Rattle.word.specs.Word.{word}
use Rattle.digit_pairs.specs.Pairs.{pairs}

-- an arm's value is the pair of its key
pub arm_pair : {k r : ℕ} (n : ℕ) → k ≡ n → r ≡ word 2 (get_or pairs n []) 0 → r ≡ word 2 (get_or pairs k []) 0
arm_pair n e q = q ∙ ap (λ (j : ℕ). word 2 (get_or pairs j []) 0) (sym e)

abbrev below100 : List ℕ
below100 = tabulate (λ (i : ℕ). i) 100

-- no k below 100 comes to the last arm
pub no_rest : (k : ℕ) → NoKey Unit below100 k → k < 100 → ⊥
no_rest k h l =
    let few : k < length below100 = rw (length_tabulate (λ (i : ℕ). i) 100) l in
    no_key below100 k h k few (get_d_tabulate (λ (i : ℕ). i) 100 k 0 l)
