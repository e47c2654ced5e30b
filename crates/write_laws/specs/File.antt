-- The file of what is handed over, part by part, and when it fits a buffer.
-- Assumes nothing.
use Rattle.std.specs.Prelude.{◌≡◌, List, [], ◌∷◌, ◌++◌, map, ℕ, ◌+◌, ◌*◌, ◌≤◌, length}
use Rattle.base.specs.Tabulate.{tabulate}
use Rattle.word.specs.Word.{words}
use Rattle.edition.specs.declared.Edition.{Edition}
use Rattle.entry.specs.declared.Sizes.{Sizes}
use Rattle.entry.specs.Limits.{file_most, number_width, offset_width, short_width}
use Rattle.entry.specs.State.{State, boolean_code}
use Rattle.entry.specs.Layout.{pad_of, size_of}
use Rattle.entry.specs.Reading.{Entry}
use Rattle.entry.specs.Writing.{Handed, header, padding, number_code, offset_code}
use Rattle.put.specs.Table.{booleans_of, numbers_of, slots_of, total, AllInPools}

-- the header's sizes, with a string table of so many bytes
abbrev pub sizes_with : Edition → (names : List ℕ) → (table : ℕ) → Sizes
sizes_with e names table =
    record {
      names = length names + 1;
      booleans = e.booleans;
      numbers = e.numbers;
      strings = e.strings;
      table = table;
    }

-- the header's sizes, from kinds and lengths alone
abbrev pub sizes_handed : Edition → Handed → Sizes
sizes_handed e h = sizes_with e h.names (total h.string_kinds h.string_lengths e.strings)

-- the entry handed over, with the strings g in place of those in the lent bytes
abbrev pub entry_with : Edition → Handed → (ℕ → State (List ℕ)) → Entry
entry_with e h g =
    record {
      names = h.names;
      booleans = booleans_of h.boolean_kinds e.booleans;
      numbers = numbers_of h.number_kinds h.number_values e.numbers;
      strings = tabulate g e.strings;
    }

-- the header, the names, the booleans and the pad byte
unfoldable pub head : Sizes → Handed → List ℕ
head s h =
    ((words short_width (header s) ++ (h.names ++ (0 ∷ [])))
    ++ map boolean_code (booleans_of h.boolean_kinds s.booleans)) ++ padding (pad_of s)

-- the slots of the numbers and of the strings
unfoldable pub slots : Sizes → Handed → List ℕ
slots s h =
    words number_width (map number_code (numbers_of h.number_kinds h.number_values s.numbers))
    ++ words offset_width (map offset_code (slots_of h.string_kinds h.string_lengths s.strings))

-- all that stands before the string table
abbrev pub front : Sizes → Handed → List ℕ
front s h = head s h ++ slots s h

-- ---- what the parts ask of the buffer and of what is handed over

pub record HeadFits (b : List ℕ) (s : Sizes) (h : Handed) : Type 0 where
  pub named : s.names ≡ length h.names + 1
  pub booleans : s.booleans ≤ length h.boolean_kinds
  pub room : size_of s ≤ length b

pub record SlotsFit (b : List ℕ) (at : ℕ) (s : Sizes) (h : Handed) : Type 0 where
  pub number_kinds : s.numbers ≤ length h.number_kinds
  pub number_values : s.numbers ≤ length h.number_values
  pub string_kinds : s.strings ≤ length h.string_kinds
  pub string_lengths : s.strings ≤ length h.string_lengths
  pub most : total h.string_kinds h.string_lengths s.strings ≤ file_most
  pub room : at + number_width * s.numbers + offset_width * s.strings ≤ length b

pub record FrontFits (b : List ℕ) (s : Sizes) (h : Handed) : Type 0 where
  pub named : s.names ≡ length h.names + 1
  pub booleans : s.booleans ≤ length h.boolean_kinds
  pub number_kinds : s.numbers ≤ length h.number_kinds
  pub number_values : s.numbers ≤ length h.number_values
  pub string_kinds : s.strings ≤ length h.string_kinds
  pub string_lengths : s.strings ≤ length h.string_lengths
  pub table : s.table ≡ total h.string_kinds h.string_lengths s.strings
  pub most : size_of s ≤ file_most
  pub room : size_of s ≤ length b

-- each list has as many states as the edition counts
pub record Given (e : Edition) (h : Handed) : Type 0 where
  pub booleans : e.booleans ≤ length h.boolean_kinds
  pub number_kinds : e.numbers ≤ length h.number_kinds
  pub number_values : e.numbers ≤ length h.number_values
  pub string_kinds : e.strings ≤ length h.string_kinds
  pub string_starts : e.strings ≤ length h.string_starts
  pub string_lengths : e.strings ≤ length h.string_lengths

-- s are the file's sizes, the states are given, the strings lie in the two lent slices, and the file is no longer
-- than a file may be and than the buffer; contents may have any length
pub record Sure (b : List ℕ) (s : Sizes) (e : Edition) (h : Handed) (first second : List ℕ) : Type 0 where
  pub sized : s ≡ sizes_handed e h
  pub given : Given e h
  pub lent : AllInPools h.string_kinds h.string_starts h.string_lengths first second e.strings
  pub most : size_of s ≤ file_most
  pub room : size_of s ≤ length b
