-- Reading a compiled entry: what is accepted, in the order of refusal, where a refused file is bad, and what an
-- accepted file says (document 01: Compiled entry, Numbers of refusal; document 02, 2026-05). A place past the file's
-- slots is absent.
-- Assumes nothing.
use Rattle.std.specs.Prelude.{Bool, ◌&&◌, ◌||◌, not, List, [], ◌∷◌, ℕ, ◌+◌, ◌-◌, ◌*◌, eqb, ltb, leb, length, get_or}
use Rattle.std.specs.Prelude.{take, drop}
use Rattle.base.specs.If.{when◌then◌else◌}
use Rattle.base.specs.Scan.{scan, every}
use Rattle.word.specs.Word.{word}
pub use Rattle.word.specs.Nul.{nul_from}
use Rattle.edition.specs.declared.Edition.{Edition}
use Rattle.edition.specs.declared.Place.{Place}
use Rattle.entry.specs.declared.Sizes.{Sizes}
use Rattle.entry.specs.declared.Offset.{Offset}
use Rattle.entry.specs.declared.Part.{Part}
use Rattle.entry.specs.Limits.{magic, header_size, file_most, short_most, names_least, names_most, number_width}
use Rattle.entry.specs.Limits.{offset_width}
use Rattle.entry.specs.State.{State, absent, map_state, half, slot_of, ok_slot, ok_boolean, boolean_of}
use Rattle.base.specs.Answer.{Answer, refused, gives}
use Rattle.entry.specs.Layout.{short_in, sizes_of, booleans_at, pad_of, numbers_at, strings_at, table_at, size_of}

-- the bytes of a part
abbrev pub bytes_of : List ℕ → Part → List ℕ
bytes_of f p = take p.length (drop p.start f)

abbrev pub offset : ℕ → Offset
offset c = record { 0 = c }

-- ---- acceptance, and the position in the file of the first offending byte or slot where a table's test fails

-- "header short above 32,767, names size outside 2 to 128"
unfoldable pub ok_counts : Sizes → Bool
ok_counts s =
    leb names_least s.names && (leb s.names names_most
    && (leb s.booleans short_most && (leb s.numbers short_most
    && (leb s.strings short_most && leb s.table short_most))))

-- "the NUL, which is its only NUL": the first NUL of the names is their last byte
unfoldable pub ok_names : List ℕ → Sizes → Bool
ok_names f s = eqb (nul_from f header_size (booleans_at s)) (booleans_at s - 1)

-- "the first NUL that shouldn't be there, or, if there is none, the last names byte"
unfoldable pub bad_names : List ℕ → Sizes → ℕ
bad_names f s = nul_from f header_size (booleans_at s - 1)

abbrev pub ok_boolean_at : List ℕ → Sizes → ℕ → Bool
ok_boolean_at f s i = ok_boolean (get_or f (booleans_at s + i) 0)

unfoldable pub ok_booleans : List ℕ → Sizes → Bool
ok_booleans f s = every (ok_boolean_at f s) s.booleans

-- the pad byte, where there is one
unfoldable pub ok_pad : List ℕ → Sizes → Bool
ok_pad f s = eqb (pad_of s) 0 || eqb (get_or f (booleans_at s + s.booleans) 0) 0

-- the first bad boolean's byte; the pad's, which stands behind them, where there is none
unfoldable pub bad_boolean : List ℕ → Sizes → ℕ
bad_boolean f s = booleans_at s + scan (ok_boolean_at f s) 0 s.booleans

-- "0 to 32,767 present; 65,535 absent; 65,534 cancelled ..; others refused"
abbrev pub ok_number_at : List ℕ → Sizes → ℕ → Bool
ok_number_at f s i =
    ok_slot number_width (λ c. ltb c (half number_width)) (word number_width f (numbers_at s + number_width * i))

unfoldable pub ok_numbers : List ℕ → Sizes → Bool
ok_numbers f s = every (ok_number_at f s) s.numbers

-- the first byte of the first bad slot
unfoldable pub bad_number : List ℕ → Sizes → ℕ
bad_number f s = numbers_at s + number_width * scan (ok_number_at f s) 0 s.numbers

-- "an offset below the table size with a NUL at or after it in the table"
unfoldable pub ok_offset : List ℕ → Sizes → Offset → Bool
ok_offset f s o = ltb o.0 s.table && ltb (nul_from f (table_at s + o.0) (size_of s)) (size_of s)

abbrev pub ok_string_at : List ℕ → Sizes → ℕ → Bool
ok_string_at f s i =
    ok_slot offset_width (λ c. ok_offset f s (offset c)) (word offset_width f (strings_at s + offset_width * i))

unfoldable pub ok_strings : List ℕ → Sizes → Bool
ok_strings f s = every (ok_string_at f s) s.strings

unfoldable pub bad_string : List ℕ → Sizes → ℕ
bad_string f s = strings_at s + offset_width * scan (ok_string_at f s) 0 s.strings

-- "1 (below 12, above 4,096), 2, 3, 1 (size), 4, 5, 6, 7"; "4, 5, 6 and 7 .. give the byte position of the first
-- offending byte or slot in the file"
unfoldable pub reading : List ℕ → Answer Sizes
reading f =
    when not (leb header_size (length f) && leb (length f) file_most) then refused 1 []
    else when not (eqb (short_in f 0) magic) then refused 2 []
    else when not (ok_counts (sizes_of f)) then refused 3 []
    else when not (eqb (length f) (size_of (sizes_of f))) then refused 1 []
    else when not (ok_names f (sizes_of f)) then refused 4 (bad_names f (sizes_of f) ∷ [])
    else when not (ok_booleans f (sizes_of f) && ok_pad f (sizes_of f)) then refused 5 (bad_boolean f (sizes_of f) ∷ [])
    else when not (ok_numbers f (sizes_of f)) then refused 6 (bad_number f (sizes_of f) ∷ [])
    else when not (ok_strings f (sizes_of f)) then refused 7 (bad_string f (sizes_of f) ∷ [])
    else gives (sizes_of f)

-- ---- what a file says

-- the names without their NUL
unfoldable pub names_part : Sizes → Part
names_part s = record { start = header_size; length = s.names - 1 }

unfoldable pub boolean_in : List ℕ → Sizes → Place → State Unit
boolean_in f s p = when ltb p.0 s.booleans then boolean_of (get_or f (booleans_at s + p.0) 0) else absent

-- the slot at a place of a table of n slots of w bytes from base on
unfoldable pub slot_in : ℕ → List ℕ → ℕ → ℕ → Place → State ℕ
slot_in w f base n p = when ltb p.0 n then slot_of w (word w f (base + w * p.0)) else absent

unfoldable pub number_in : List ℕ → Sizes → Place → State ℕ
number_in f s p = slot_in number_width f (numbers_at s) s.numbers p

unfoldable pub offset_in : List ℕ → Sizes → Place → State Offset
offset_in f s p = map_state offset (slot_in offset_width f (strings_at s) s.strings p)

-- "The content runs to the first NUL"
unfoldable pub content_at : List ℕ → Sizes → Offset → Part
content_at f s o =
    record { start = table_at s + o.0; length = nul_from f (table_at s + o.0) (size_of s) - (table_at s + o.0) }

unfoldable pub part_in : List ℕ → Sizes → Place → State Part
part_in f s p = map_state (content_at f s) (offset_in f s p)

unfoldable pub string_in : List ℕ → Sizes → Place → State (List ℕ)
string_in f s p = map_state (bytes_of f) (part_in f s p)

-- ---- entries: names and states

pub record Entry : Type 0 where
  pub names : List ℕ
  pub booleans : List (State Unit)
  pub numbers : List (State ℕ)
  pub strings : List (State (List ℕ))

-- the state that an entry holds at a place; past its lists, absent
abbrev pub held_boolean : Entry → Place → State Unit
held_boolean x p = get_or x.booleans p.0 absent

abbrev pub held_number : Entry → Place → State ℕ
held_number x p = get_or x.numbers p.0 absent

abbrev pub held_string : Entry → Place → State (List ℕ)
held_string x p = get_or x.strings p.0 absent

-- the edition that an entry has a state for each place of
abbrev pub edition_of : Entry → Edition
edition_of x = record { booleans = length x.booleans; numbers = length x.numbers; strings = length x.strings }
