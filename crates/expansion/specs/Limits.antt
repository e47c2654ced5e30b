-- Document 01's numbers for expansion, and document 02's, each by one name.
-- Assumes nothing.
use Rattle.std.specs.Prelude.{ℕ, ◌*◌}

-- "The string has at most 1,000 bytes"
abbrev pub string_most : ℕ
string_most = 1000

-- "The stack holds 20 values"
abbrev pub stack_most : ℕ
stack_most = 20

-- "conditionals nest at most 16 deep (the 17th `%?` is 14)"
abbrev pub nest_most : ℕ
nest_most = 16

-- the largest constant
abbrev pub constant_most : ℕ
constant_most = 2147483647

-- document 02, 2026-07: "Texts may hold any byte, at most 1,000 each"
abbrev pub text_most : ℕ
text_most = 1000

-- document 02, 2026-06: an accepted string of n bytes "never produces more than 25 times n bytes"
abbrev pub room_for : ℕ → ℕ
room_for n = 25 * n

-- no output has more bytes: 25 times 1,000, and 1,000 for each of at most 500 `%s` items
abbrev pub expansion_most : ℕ
expansion_most = 525000
