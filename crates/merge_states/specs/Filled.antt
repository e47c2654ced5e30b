-- What a merge hands to the writer: the state of each place, the first file's over the second's. Strings are parts of
-- the first file and the second behind it.
-- Assumes nothing.
use Rattle.std.specs.Prelude.{Option, Some, None, ◌≡◌, List, ◌++◌, ℕ, ◌≤◌, ◌<◌, ◌^◌, length, get_or}
use Rattle.edition.specs.declared.Edition.{Edition}
use Rattle.edition.specs.declared.Place.{Place}
use Rattle.edition.specs.Edition.{place}
use Rattle.entry.specs.declared.Tables.{Tables}
use Rattle.entry.specs.Limits.{file_most}
use Rattle.entry.specs.Layout.{size_of}
use Rattle.entry.specs.Writing.{Handed, state_of, string_table}
use Rattle.entry.specs.Merging.{merged_boolean, merged_number, merged_string, merged}
use Rattle.put.specs.Table.{string_of, total, InPools, AllInPools}
use Rattle.opened_file.specs.Opened.{OpenedAs}
use Rattle.merge_states.specs.declared.Both.{Both}
use Rattle.write_laws.specs.File.{Given, sizes_handed}

-- both files are opened in the edition
pub record BothOpened (e : Edition) (a : List ℕ) (t : Tables) (b : List ℕ) (u : Tables) : Type 0 where
  pub first : OpenedAs e a t
  pub second : OpenedAs e b u

abbrev pub AreOpened : Both → Type 0
AreOpened s = BothOpened s.edition s.first.now s.t s.second.now s.u

-- ---- the first n places of a list

abbrev pub BooleansFilled : ℕ → (a b kinds : List ℕ) → Type 0
BooleansFilled n a b kinds = (i : ℕ) → i < n → state_of (get_or kinds i 0) tt ≡ merged_boolean a b (place i)

abbrev pub NumbersFilled : ℕ → (a b kinds values : List ℕ) → Type 0
NumbersFilled n a b kinds values =
    (i : ℕ) → i < n → state_of (get_or kinds i 0) (get_or values i 0) ≡ merged_number a b (place i)

-- the string is the merged one, and a present one's content lies in one of the two files
pub record StringFilled (a b : List ℕ) (p : Place) (kind start size : ℕ) : Type 0 where
  pub state : string_of kind start size (a ++ b) ≡ merged_string a b p
  pub lent : kind ≡ 1 → InPools start size a b

abbrev pub StringsFilled : ℕ → (a b kinds starts lengths : List ℕ) → Type 0
StringsFilled n a b kinds starts lengths =
    (i : ℕ) → i < n → StringFilled a b (place i) (get_or kinds i 0) (get_or starts i 0) (get_or lengths i 0)

-- ---- the string table of the merged entry

-- its length
abbrev pub merged_table : Edition → (a b : List ℕ) → ℕ
merged_table e a b = length (string_table (merged e a b).strings)

-- the strings are filled, and their table of so many bytes is no longer than a file may be
pub record Measured (e : Edition) (a b kinds starts lengths : List ℕ) (table : ℕ) : Type 0 where
  pub filled : StringsFilled e.strings a b kinds starts lengths
  pub whole : table ≡ merged_table e a b
  pub most : table ≤ file_most

-- what filling the strings answers: where their table alone is too large, the strings behind are not filled
abbrev pub StringsMeasured : Edition → (a b kinds starts lengths : List ℕ) → Option ℕ → Type 0
StringsMeasured e a b kinds starts lengths (Some n) = Measured e a b kinds starts lengths n
StringsMeasured e a b kinds starts lengths None = file_most < merged_table e a b

-- as many strings as the edition counts are given
pub record StringsGiven (e : Edition) (kinds starts lengths : List ℕ) : Type 0 where
  pub kinds_given : e.strings ≤ length kinds
  pub starts_given : e.strings ≤ length starts
  pub lengths_given : e.strings ≤ length lengths

-- ---- what is handed over can be put, and its string table has so many bytes: room and the file's most bytes are
-- still to be tested

pub record Ready (e : Edition) (h : Handed) (first second : List ℕ) (table : ℕ) : Type 0 where
  pub given : Given e h
  pub lent : AllInPools h.string_kinds h.string_starts h.string_lengths first second e.strings
  pub summed : table ≡ total h.string_kinds h.string_lengths e.strings
  pub measured : size_of (sizes_handed e h) < 2 ^ 64
