-- What a caller of the `*_opened` accessors has proved, and the bound of a slot's code.
-- Assumes nothing.
use Rattle.std.specs.Prelude.{◌≡◌, List, ℕ, ◌<◌}
use Rattle.edition.specs.declared.Edition.{Edition}
use Rattle.entry.specs.declared.Tables.{Tables}
use Rattle.entry.specs.declared.Beyond.{Beyond}
use Rattle.entry.specs.declared.State.{State}
use Rattle.entry.specs.declared.State.TheVariants as S
use Rattle.base.specs.Answer.{gives}
use Rattle.entry.specs.Asking.{opening}

-- opening the file in the edition gives these tables
pub record OpenedAs (e : Edition) (f : List ℕ) (t : Tables) : Type 0 where
  pub beyond : Beyond
  pub given : gives (record { tables = t; beyond = beyond }) ≡ opening e f

-- a code fits a short
abbrev pub CodeFits : State ℕ → Type 0
CodeFits S.Absent = Unit {0}
CodeFits S.Cancelled = Unit {0}
CodeFits (S.Present c) = c < 65536
