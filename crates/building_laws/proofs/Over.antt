-- What fields say over a bare entry is merged below what another holds.
-- Assumes nothing.
use Rattle.std.specs.Prelude.{◌≡◌, List, ℕ}
use Rattle.std.proofs.Common.{sym}
use Rattle.edition.specs.declared.Edition.{Edition}
use Rattle.text.specs.Describing.{SayingAt}
use Rattle.text.specs.Describing.{described, bare}
use Rattle.text.specs.Building.{over_in}
use Rattle.building_laws.specs.Over.{bare_edition, described_over}

pub bare_over : (e : Edition) (n : List ℕ) (ss : List SayingAt)
    → over_in e (bare e n) (described (bare e n) ss) ≡ described (bare e n) ss
bare_over e n ss = sym (described_over e n (bare e n) ss (bare_edition e n))
