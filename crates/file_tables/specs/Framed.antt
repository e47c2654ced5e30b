-- What is known of a file once its header has passed.
-- Assumes nothing.
use Rattle.std.specs.Prelude.{◌≡◌, true, ◌&&◌, List, ℕ, ◌+◌, ◌≤◌, ◌<◌, ltb, length}
use Rattle.word.specs.Word.{word}
use Rattle.word.specs.Nul.{nul_from}
use Rattle.entry.specs.declared.Sizes.{Sizes}
use Rattle.entry.specs.declared.Tables.{Tables}
use Rattle.entry.specs.Limits.{magic, header_size, file_most, names_least, short_width}
use Rattle.entry.specs.Layout.{sizes_of, size_of, tables_of}
use Rattle.entry.specs.Reading.{ok_counts}

-- each size is a short's value
pub record Shorts (s : Sizes) : Type 0 where
  pub names : s.names < 65536
  pub booleans : s.booleans < 65536
  pub numbers : s.numbers < 65536
  pub strings : s.strings < 65536
  pub table : s.table < 65536

-- the sizes are the header's, pass, and give the file's length; the tables are theirs
pub record Framed (f : List ℕ) (s : Sizes) (t : Tables) : Type 0 where
  pub least : header_size ≤ length f
  pub most : length f ≤ file_most
  pub magical : word short_width f 0 ≡ magic
  pub header : s ≡ sizes_of f
  pub counts : ok_counts s ≡ true
  pub named : names_least ≤ s.names
  pub size : length f ≡ size_of s
  pub places : t ≡ tables_of s

-- of the table of n bytes from at on, the offsets below r, and no others, have a NUL at or after them in it
abbrev pub OffsetsEnd : List ℕ → ℕ → ℕ → ℕ → Type 0
OffsetsEnd f at n r = (c : ℕ) → (ltb c n && ltb (nul_from f (at + c) (at + n)) (at + n)) ≡ ltb c r
