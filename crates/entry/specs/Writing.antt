-- The written form of an entry, and what writing gives (document 01: Compiled entry; Numbers of refusal, order of
-- writing).
-- Assumes nothing.
use Rattle.std.specs.Prelude.{Bool, ◌&&◌, ◌||◌, not, List, [], ◌∷◌, ◌++◌, map, ℕ, zero, suc, ◌+◌, min, eqb, leb}
use Rattle.std.specs.Prelude.{length, get_or, take, drop}
use Rattle.base.specs.If.{when◌then◌else◌}
use Rattle.base.specs.Scan.{every}
use Rattle.base.specs.Tabulate.{tabulate}
use Rattle.word.specs.Word.{words}
use Rattle.word.specs.Nul.{nul_from}
use Rattle.edition.specs.declared.Edition.{Edition}
use Rattle.edition.specs.Edition.{ok_edition}
use Rattle.entry.specs.declared.Sizes.{Sizes}
use Rattle.entry.specs.declared.Offset.{Offset}
use Rattle.entry.specs.Limits.{magic, file_most, short_width, number_width, offset_width, number_most}
use Rattle.entry.specs.Limits.{given_names_most, content_most}
use Rattle.entry.specs.State.{State, absent, cancelled, present, map_state, code_of, boolean_code}
use Rattle.base.specs.Answer.{Answer, refused, gives}
use Rattle.entry.specs.Layout.{pad_of}
use Rattle.entry.specs.Reading.{Entry, offset}

-- ---- the written form: "exactly the edition's slots, the present strings in list order, unshared, each with its
-- NUL, no other table byte"

-- the string slots, where the next present string starts at o
unfoldable pub offsets : Offset → List (State (List ℕ)) → List (State Offset)
offsets o [] = []
offsets o (absent ∷ xs) = absent ∷ offsets o xs
offsets o (cancelled ∷ xs) = cancelled ∷ offsets o xs
offsets o (present s ∷ xs) = present o ∷ offsets (offset (o.0 + length s + 1)) xs

unfoldable pub string_table : List (State (List ℕ)) → List ℕ
string_table [] = []
string_table (absent ∷ xs) = string_table xs
string_table (cancelled ∷ xs) = string_table xs
string_table (present s ∷ xs) = s ++ (0 ∷ string_table xs)

unfoldable pub sizes_for : Entry → Sizes
sizes_for x =
    record {
      names = length x.names + 1;
      booleans = length x.booleans;
      numbers = length x.numbers;
      strings = length x.strings;
      table = length (string_table x.strings);
    }

unfoldable pub header : Sizes → List ℕ
header s = magic ∷ s.names ∷ s.booleans ∷ s.numbers ∷ s.strings ∷ s.table ∷ []

-- as many zero bytes, of which there is at most one
unfoldable pub padding : ℕ → List ℕ
padding zero = []
padding (suc n) = 0 ∷ []

abbrev pub number_code : State ℕ → ℕ
number_code s = code_of number_width s

abbrev pub offset_code : State Offset → ℕ
offset_code s = code_of offset_width (map_state (λ (o : Offset). o.0) s)

unfoldable pub encode : Entry → List ℕ
encode x =
    words short_width (header (sizes_for x))
    ++ ((x.names ++ (0 ∷ []))
    ++ (map boolean_code x.booleans
    ++ (padding (pad_of (sizes_for x))
    ++ (words number_width (map number_code x.numbers)
    ++ (words offset_width (map offset_code (offsets (offset 0) x.strings))
    ++ string_table x.strings)))))

-- ---- what is handed to the writer: lists of numbers by place; strings as parts of lent bytes

pub record Handed : Type 0 where
  pub names : List ℕ
  pub boolean_kinds : List ℕ
  pub number_kinds : List ℕ
  pub number_values : List ℕ
  pub string_kinds : List ℕ
  pub string_starts : List ℕ
  pub string_lengths : List ℕ
  pub lent : List ℕ

-- kinds: 0 absent, 1 present, 2 cancelled; a number above 2 is no kind and is refused (13)
unfoldable pub state_of : {A : Type 0} → ℕ → A → State A
state_of k x = when eqb k 0 then absent else when eqb k 1 then present x else cancelled

abbrev pub is_kind : ℕ → Bool
is_kind k = leb k 2

-- the states handed over at a place
abbrev pub boolean_handed : Handed → ℕ → State Unit
boolean_handed h i = state_of (get_or h.boolean_kinds i 0) tt

abbrev pub number_handed : Handed → ℕ → State ℕ
number_handed h i = state_of (get_or h.number_kinds i 0) (get_or h.number_values i 0)

abbrev pub string_handed : Handed → ℕ → State (List ℕ)
string_handed h i =
    state_of (get_or h.string_kinds i 0) (take (get_or h.string_lengths i 0)
    (drop (get_or h.string_starts i 0) h.lent))

-- the entry handed over, in an edition: "surplus ones unread"
unfoldable pub entry_of : Edition → Handed → Entry
entry_of e h =
    record {
      names = h.names;
      booleans = tabulate (boolean_handed h) e.booleans;
      numbers = tabulate (number_handed h) e.numbers;
      strings = tabulate (string_handed h) e.strings;
    }

-- ---- the limits, in the order of refusal

-- "edition too large, too few states": a list's states are as many as its shortest slice
unfoldable pub enough_states : Edition → Handed → Bool
enough_states e h =
    ok_edition e
    && (leb e.booleans (length h.boolean_kinds)
    && (leb e.numbers (min (length h.number_kinds) (length h.number_values))
    && leb e.strings (min (length h.string_kinds) (min (length h.string_starts) (length h.string_lengths)))))

-- "1 to 127 bytes without NUL"
unfoldable pub names_fit : List ℕ → Bool
names_fit n = leb 1 (length n) && (leb (length n) given_names_most && eqb (nul_from n 0 (length n)) (length n))

-- a string is in what was lent: its start plus its length doesn't pass the lent bytes; only a present state has a
-- string. Left free by document 01: an empty string. It too must start no later than the lent bytes end
unfoldable pub is_lent : Handed → ℕ → Bool
is_lent h i =
    not (eqb (get_or h.string_kinds i 0) 1) || leb (get_or h.string_starts i 0 + get_or h.string_lengths i 0)
    (length h.lent)

-- "its numbers at most 32,767, its string contents 0 to 1,000 bytes without NUL, each state one of the three"
unfoldable pub number_fits : State ℕ → Bool
number_fits absent = Bool.true
number_fits cancelled = Bool.true
number_fits (present n) = leb n number_most

unfoldable pub content_fits : State (List ℕ) → Bool
content_fits absent = Bool.true
content_fits cancelled = Bool.true
content_fits (present s) = leb (length s) content_most && eqb (nul_from s 0 (length s)) (length s)

unfoldable pub boolean_fits_at : Handed → ℕ → Bool
boolean_fits_at h i = is_kind (get_or h.boolean_kinds i 0)

unfoldable pub number_fits_at : Handed → ℕ → Bool
number_fits_at h i = is_kind (get_or h.number_kinds i 0) && number_fits (number_handed h i)

unfoldable pub string_fits_at : Handed → ℕ → Bool
string_fits_at h i = is_kind (get_or h.string_kinds i 0) && content_fits (string_handed h i)

unfoldable pub states_fit : Edition → Handed → Bool
states_fit e h =
    every (boolean_fits_at h) e.booleans
    && (every (number_fits_at h) e.numbers
    && every (string_fits_at h) e.strings)

-- "9, 8", of every call that writes: room is the buffer's length, and what is given is the file
abbrev pub fitting : ℕ → List ℕ → Answer (List ℕ)
fitting room f =
    when not (leb (length f) file_most) then refused 9 []
    else when not (leb (length f) room) then refused 8 (length f ∷ [])
    else gives f

-- "Writing: 3, 4, 7, 13, 9, 8"
unfoldable pub writing : Edition → Handed → ℕ → Answer (List ℕ)
writing e h room =
    when not (enough_states e h) then refused 3 []
    else when not (names_fit h.names) then refused 4 []
    else when not (every (is_lent h) e.strings) then refused 7 []
    else when not (states_fit e h) then refused 13 []
    else fitting room (encode (entry_of e h))
