-- What the parts of the call ask for.
-- Assumes nothing.
use Rattle.std.specs.Prelude.{List, ℕ, ◌≤◌, length}
use Rattle.edition.specs.declared.Edition.{Edition}
use Rattle.edition.specs.Edition.{strings_most}
use Rattle.entry.specs.declared.Tables.{Tables}
use Rattle.opened_file.specs.Opened.{OpenedAs}

-- the file is opened, and the two arrays of numbers have the edition's places
pub record NumbersLent (e : Edition) (f : List ℕ) (t : Tables) (kinds values : List ℕ) : Type 0 where
  pub opened : OpenedAs e f t
  pub kinds_lent : e.numbers ≤ length kinds
  pub values_lent : e.numbers ≤ length values

-- the same of the three arrays of strings
pub record StringsLent (e : Edition) (f : List ℕ) (t : Tables) (kinds starts lengths : List ℕ) : Type 0 where
  pub opened : OpenedAs e f t
  pub kinds_lent : e.strings ≤ length kinds
  pub starts_lent : e.strings ≤ length starts
  pub lengths_lent : e.strings ≤ length lengths

-- the counts of an edition that passes are no larger than the largest of their limits
abbrev pub CountsFit : Edition → Type 0
CountsFit e = (e.booleans ≤ strings_most) × ((e.numbers ≤ strings_most) × (e.strings ≤ strings_most))
