-- The rule of the list of pairs: at each k below 100 it has the two digits of k.
-- Assumes nothing.
use Rattle.std.specs.Prelude.{◌≡◌, refl, List, [], ℕ, ◌<◌, get_or}
use Rattle.std.proofs.Common.{ap, ◌∙◌}
use Rattle.base.specs.Tabulate.{tabulate}
use Rattle.base.proofs.TabulateLaws.{get_d_tabulate}
use Rattle.names.specs.Names.{ascii, parted}
use Rattle.digit_pairs.specs.Pairs.{pairs}
use Rattle.digit_pairs.specs.Rule.{two_digits}

-- computed over the whole list
pairs_are : pairs ≡ tabulate two_digits 100
unfolding pairs parted ascii tabulate
pairs_are = refl

pub pair_at : (k : ℕ) → k < 100 → get_or pairs k [] ≡ two_digits k
pair_at k h = ap (λ (l : List (List ℕ)). get_or l k []) pairs_are ∙ get_d_tabulate two_digits 100 k [] h
