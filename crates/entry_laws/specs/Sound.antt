-- What a written file is (document 01: Compiled entry).
-- Assumes nothing.
use Rattle.std.specs.Prelude.{◌≡◌, true, List, ℕ, ◌≤◌, length}
use Rattle.base.specs.Tabulate.{Each}
use Rattle.word.specs.Nul.{NoNul}
use Rattle.edition.specs.declared.Edition.{Edition}
use Rattle.edition.specs.Edition.{ok_edition}
use Rattle.entry.specs.Limits.{file_most, number_most, given_names_most}
use Rattle.entry.specs.State.{State, absent, cancelled, present}
use Rattle.entry.specs.Reading.{Entry, edition_of}
use Rattle.entry.specs.Writing.{encode}

abbrev pub NumberFits : State ℕ → Type 0
NumberFits absent = Unit {0}
NumberFits cancelled = Unit {0}
NumberFits (present n) = n ≤ number_most

abbrev pub ContentFree : State (List ℕ) → Type 0
ContentFree absent = Unit {0}
ContentFree cancelled = Unit {0}
ContentFree (present s) = NoNul s

-- an entry that has a written form. Contents may have any length: 1,000 bytes is the writer's and the text's limit
-- (13) alone, and a merge keeps longer ones.
pub record Sound (x : Entry) : Type 0 where
  pub edition : ok_edition (edition_of x) ≡ true
  pub named : 1 ≤ length x.names
  pub names_most : length x.names ≤ given_names_most
  pub names_free : NoNul x.names
  pub numbers_fit : Each NumberFits x.numbers
  pub strings_free : Each ContentFree x.strings
  pub fits : length (encode x) ≤ file_most

-- "A file written in an edition, by whatever call, holds names and, for each place that the edition knows, a state":
-- f is written in the edition e and holds x
pub record WrittenIn (e : Edition) (x : Entry) (f : List ℕ) : Type 0 where
  pub sound : Sound x
  pub edition : edition_of x ≡ e
  pub file : f ≡ encode x
