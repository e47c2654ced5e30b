-- The layout of a compiled entry: the header's sizes and where each table starts (document 01: Compiled entry).
-- Assumes nothing.
use Rattle.std.specs.Prelude.{List, ℕ, ◌+◌, ◌-◌, ◌*◌, ◌%◌}
use Rattle.word.specs.Word.{word}
use Rattle.edition.specs.declared.Edition.{Edition}
use Rattle.entry.specs.declared.Sizes.{Sizes}
use Rattle.entry.specs.declared.Tables.{Tables}
use Rattle.entry.specs.declared.Beyond.{Beyond}
use Rattle.entry.specs.Limits.{header_size, short_width, number_width, offset_width}

-- "Header of six: 282 .., names size, booleans, numbers, strings, table size": the i-th short, low byte first
abbrev pub short_in : List ℕ → ℕ → ℕ
short_in f i = word short_width f (short_width * i)

unfoldable pub sizes_of : List ℕ → Sizes
sizes_of f =
    record {
      names = short_in f 1;
      booleans = short_in f 2;
      numbers = short_in f 3;
      strings = short_in f 4;
      table = short_in f 5;
    }

-- "Then names with a closing NUL; one byte per boolean"
abbrev pub booleans_at : Sizes → ℕ
booleans_at s = header_size + s.names

-- "one zero byte if names size + booleans is odd"
abbrev pub pad_of : Sizes → ℕ
pad_of s = (s.names + s.booleans) % 2

-- "numbers; string slots; string table"
abbrev pub numbers_at : Sizes → ℕ
numbers_at s = booleans_at s + s.booleans + pad_of s

abbrev pub strings_at : Sizes → ℕ
strings_at s = numbers_at s + number_width * s.numbers

abbrev pub table_at : Sizes → ℕ
table_at s = strings_at s + offset_width * s.strings

-- "Size = 12 + names + booleans + pad + 2 x numbers + 2 x strings + table"
abbrev pub size_of : Sizes → ℕ
size_of s = table_at s + s.table

-- "knows where each table starts"
unfoldable pub tables_of : Sizes → Tables
tables_of s =
    record {
      booleans = s.booleans;
      numbers = s.numbers;
      strings = s.strings;
      booleans_at = booleans_at s;
      numbers_at = numbers_at s;
      strings_at = strings_at s;
      table_at = table_at s;
    }

-- "per list, how many slots lie beyond the reader's edition"; a difference below 0 is 0
unfoldable pub beyond_of : Edition → Sizes → Beyond
beyond_of e s =
    record {
      booleans = s.booleans - e.booleans;
      numbers = s.numbers - e.numbers;
      strings = s.strings - e.strings;
    }
