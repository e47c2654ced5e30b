-- The parts of a written file: what each is, where it starts, and reading inside it.
-- Assumes nothing.
use Rattle.std.specs.Prelude.{◌≡◌, List, [], ◌∷◌, ◌++◌, map, ℕ, zero, suc, ◌+◌, ◌*◌, ◌%◌, ◌^◌, ◌<◌, get_or}
use Rattle.std.proofs.Math.Path.{refl, ap}
use Rattle.std.proofs.Common.{◌∙◌, append_assoc, mod-lt, arith, lit<, get_or-append-add}
use Rattle.std.proofs.Math.ListN.{length, length-append, length-map, get_or-append}
use Rattle.word.specs.Word.{word, words, Below}
use Rattle.word.proofs.WordLaws.{length_words, word_skip, word_words}
use Rattle.entry.specs.declared.Offset.{Offset}
use Rattle.entry.specs.Limits.{header_size, number_width, offset_width, short_width}
use Rattle.entry.specs.State.{State, absent, cancelled, present, boolean_code}
use Rattle.entry.specs.Layout.{booleans_at, pad_of, numbers_at, strings_at, table_at, size_of}
use Rattle.entry.specs.Reading.{Entry, offset}
use Rattle.entry.specs.Writing.{offsets, string_table, sizes_for, header, padding, number_code, offset_code, encode}

-- ---- lengths

pub length_padding : (n : ℕ) → length (padding (n % 2)) ≡ n % 2
unfolding padding
length_padding n = small (n % 2) (mod-lt n (lit< tt))
  where
    small : (k : ℕ) → k < 2 → length (padding k) ≡ k
    small zero h = refl
    small (suc k) h = omega arith

pub length_offsets : (o : Offset) (xs : List (State (List ℕ))) → length (offsets o xs) ≡ length xs
unfolding offsets
length_offsets o [] = refl
length_offsets o (absent ∷ xs) = ap suc (length_offsets o xs)
length_offsets o (cancelled ∷ xs) = ap suc (length_offsets o xs)
length_offsets o (present s ∷ xs) = ap suc (length_offsets (offset (o.0 + length s + 1)) xs)

-- ---- the parts

abbrev pub header_part : Entry → List ℕ
header_part x = words short_width (header (sizes_for x))

abbrev pub names_with_nul : Entry → List ℕ
names_with_nul x = x.names ++ (0 ∷ [])

abbrev pub booleans_part : Entry → List ℕ
booleans_part x = map boolean_code x.booleans

abbrev pub pad_part : Entry → List ℕ
pad_part x = padding (pad_of (sizes_for x))

abbrev pub number_codes : Entry → List ℕ
number_codes x = map number_code x.numbers

abbrev pub offset_codes : Entry → List ℕ
offset_codes x = map offset_code (offsets (offset 0) x.strings)

abbrev pub table_part : Entry → List ℕ
table_part x = string_table x.strings

-- ---- what stands before a part, and what stands after it

abbrev pub before_booleans : Entry → List ℕ
before_booleans x = header_part x ++ names_with_nul x

abbrev pub before_pad : Entry → List ℕ
before_pad x = before_booleans x ++ booleans_part x

abbrev pub before_numbers : Entry → List ℕ
before_numbers x = before_pad x ++ pad_part x

abbrev pub before_strings : Entry → List ℕ
before_strings x = before_numbers x ++ words number_width (number_codes x)

abbrev pub before_table : Entry → List ℕ
before_table x = before_strings x ++ words offset_width (offset_codes x)

abbrev pub after_numbers : Entry → List ℕ
after_numbers x = words offset_width (offset_codes x) ++ table_part x

abbrev pub after_pad : Entry → List ℕ
after_pad x = words number_width (number_codes x) ++ after_numbers x

abbrev pub after_booleans : Entry → List ℕ
after_booleans x = pad_part x ++ after_pad x

abbrev pub after_names : Entry → List ℕ
after_names x = booleans_part x ++ after_booleans x

module _ (x : Entry) where
  pub at_header : encode x ≡ header_part x ++ (names_with_nul x ++ after_names x)
  unfolding encode
  at_header = refl

  -- the names, without and with their NUL
  pub at_names : encode x ≡ header_part x ++ (x.names ++ (0 ∷ after_names x))
  at_names = at_header ∙ simp append_assoc

  pub at_booleans : encode x ≡ before_booleans x ++ (booleans_part x ++ after_booleans x)
  at_booleans = at_header ∙ simp append_assoc

  pub at_pad : encode x ≡ before_pad x ++ (pad_part x ++ after_pad x)
  at_pad = at_header ∙ simp append_assoc

  pub at_numbers : encode x ≡ before_numbers x ++ (words number_width (number_codes x) ++ after_numbers x)
  at_numbers = at_header ∙ simp append_assoc

  pub at_strings : encode x ≡ before_strings x ++ (words offset_width (offset_codes x) ++ table_part x)
  at_strings = at_header ∙ simp append_assoc

  pub at_table : encode x ≡ before_table x ++ table_part x
  at_table = at_header ∙ simp append_assoc

  -- ---- where each part starts

  pub starts_names : length (header_part x) ≡ header_size
  unfolding header
  starts_names = length_words short_width (header (sizes_for x))

  pub starts_booleans : length (before_booleans x) ≡ booleans_at (sizes_for x)
  unfolding sizes_for
  starts_booleans =
      rw (length-append (header_part x) (names_with_nul x), starts_names, length-append x.names (0 ∷ []))

  pub starts_pad : length (before_pad x) ≡ booleans_at (sizes_for x) + (sizes_for x).booleans
  unfolding sizes_for
  starts_pad =
      rw (length-append (before_booleans x) (booleans_part x), starts_booleans, length-map x.booleans boolean_code)

  pub starts_numbers : length (before_numbers x) ≡ numbers_at (sizes_for x)
  starts_numbers =
      rw (
        length-append (before_pad x) (pad_part x),
        starts_pad,
        length_padding ((sizes_for x).names + (sizes_for x).booleans),
      )

  pub length_number_codes : length (number_codes x) ≡ length x.numbers
  length_number_codes = length-map x.numbers number_code

  pub length_offset_codes : length (offset_codes x) ≡ length x.strings
  length_offset_codes =
      length-map (offsets (offset 0) x.strings) offset_code ∙ length_offsets (offset 0) x.strings

  pub starts_strings : length (before_strings x) ≡ strings_at (sizes_for x)
  unfolding sizes_for
  starts_strings =
      rw (
        length-append (before_numbers x) (words number_width (number_codes x)),
        starts_numbers,
        length_words number_width (number_codes x),
        length_number_codes,
      )

  pub starts_table : length (before_table x) ≡ table_at (sizes_for x)
  unfolding sizes_for
  starts_table =
      rw (
        length-append (before_strings x) (words offset_width (offset_codes x)),
        starts_strings,
        length_words offset_width (offset_codes x),
        length_offset_codes,
      )

  pub length_encode : length (encode x) ≡ size_of (sizes_for x)
  unfolding sizes_for
  length_encode = ap length at_table ∙ rw (length-append (before_table x) (table_part x), starts_table)

-- ---- reading inside a part of a file

pub part_at : (f before part after : List ℕ) (p i d : ℕ) → f ≡ before ++ (part ++ after) → length before ≡ p
    → i < length part
    → get_or f (p + i) d ≡ get_or part i d
part_at f before part after p i d e l h =
    rw (e, ← l, get_or-append-add before (part ++ after) i d) (get_or-append part after d i h)

pub part_word : (w : ℕ) (f before ns after : List ℕ) (p i d : ℕ) → f ≡ before ++ (words w ns ++ after)
    → length before ≡ p → Below (256 ^ w) ns
    → i < length ns → word w f (p + w * i) ≡ get_or ns i d
part_word w f before ns after p i d e l b h =
    rw (e, ← l, word_skip w before (words w ns ++ after) (w * i)) (word_words w ns after i d b h)
