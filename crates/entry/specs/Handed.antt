-- What is handed over, from its lists. Where only some of the lists are looked at, the others are empty.
-- Assumes nothing.
use Rattle.std.specs.Prelude.{List, [], ℕ}
use Rattle.entry.specs.declared.Numbers.{Numbers}
use Rattle.entry.specs.declared.Strings.{Strings}
use Rattle.entry.specs.declared.States.{States}
use Rattle.entry.specs.Writing.{Handed}

abbrev pub handed : (names boolean_kinds number_kinds number_values string_kinds string_starts string_lengths
    lent : List ℕ)
    → Handed
handed names boolean_kinds number_kinds number_values string_kinds string_starts string_lengths lent =
    record {
      names = names;
      boolean_kinds = boolean_kinds;
      number_kinds = number_kinds;
      number_values = number_values;
      string_kinds = string_kinds;
      string_starts = string_starts;
      string_lengths = string_lengths;
      lent = lent;
    }

-- the states without the names
abbrev pub states_handed : (boolean_kinds number_kinds number_values string_kinds string_starts string_lengths
    lent : List ℕ)
    → Handed
states_handed boolean_kinds number_kinds number_values string_kinds string_starts string_lengths lent =
    handed [] boolean_kinds number_kinds number_values string_kinds string_starts string_lengths lent

abbrev pub booleans_handed : List ℕ → Handed
booleans_handed kinds = states_handed kinds [] [] [] [] [] []

abbrev pub numbers_handed : (kinds values : List ℕ) → Handed
numbers_handed kinds values = states_handed [] kinds values [] [] [] []

abbrev pub strings_handed : (kinds starts lengths lent : List ℕ) → Handed
strings_handed kinds starts lengths lent = states_handed [] [] [] kinds starts lengths lent

-- what the bytes before the string table are made of: all but the strings' contents
abbrev pub front_handed : (names boolean_kinds number_kinds number_values string_kinds string_lengths : List ℕ) → Handed
front_handed names boolean_kinds number_kinds number_values string_kinds string_lengths =
    handed names boolean_kinds number_kinds number_values string_kinds [] string_lengths []

-- the same with other lent bytes
abbrev pub with_lent : Handed → List ℕ → Handed
with_lent h lent =
    handed h.names h.boolean_kinds h.number_kinds h.number_values h.string_kinds h.string_starts
    h.string_lengths lent

-- ---- what the writer's structs hand over

abbrev pub handed_by : (names : List ℕ) → States → (lent : List ℕ) → Handed
handed_by names s lent =
    handed names s.boolean_kinds.now s.numbers.kinds.now s.numbers.values.now s.strings.kinds.now s.strings.starts.now
    s.strings.lengths.now lent

abbrev pub numbers_by : Numbers → Handed
numbers_by s = numbers_handed s.kinds.now s.values.now

abbrev pub strings_by : Strings → (lent : List ℕ) → Handed
strings_by s lent = strings_handed s.kinds.now s.starts.now s.lengths.now lent
