-- Document 01's numbers for the compiled entry, each by one name.
-- Assumes nothing.
use Rattle.std.specs.Prelude.{ℕ}

-- the header's first short, octal 0432
abbrev pub magic : ℕ
magic = 282

-- the header's bytes: six shorts
abbrev pub header_size : ℕ
header_size = 12

-- a file's most bytes
abbrev pub file_most : ℕ
file_most = 4096

-- the bytes of a header's short, of a number's slot and of a string's slot
abbrev pub short_width : ℕ
short_width = 2

abbrev pub number_width : ℕ
number_width = 2

abbrev pub offset_width : ℕ
offset_width = 2

-- the most that a header's short may hold
abbrev pub short_most : ℕ
short_most = 32767

-- the largest number of a present capability
abbrev pub number_most : ℕ
number_most = 32767

-- names with their NUL
abbrev pub names_least : ℕ
names_least = 2

abbrev pub names_most : ℕ
names_most = 128

-- the writer's names, without the NUL
abbrev pub given_names_most : ℕ
given_names_most = 127

-- a string's most bytes, from the writer's caller and from text
abbrev pub content_most : ℕ
content_most = 1000

-- the boolean byte of a cancelled capability
abbrev pub cancelled_byte : ℕ
cancelled_byte = 254
