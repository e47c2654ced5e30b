-- What a text says, field by field and description by description (document 01: Source text; Numbers of refusal, 10,
-- 11, 13; document 02, 2026-02).
-- Assumes nothing.
use Rattle.std.specs.Prelude.{List, [], ◌∷◌, ◌++◌, ℕ, zero, suc, ◌+◌, ◌-◌, leb, length, get_or, set, take, drop}
use Rattle.std.specs.Prelude.{replicate, Option, Some, None, Result, Ok, Err}
use Rattle.base.specs.If.{when◌then◌else◌}
use Rattle.base.specs.Loop.{Turn, go, stop, loop}
use Rattle.edition.specs.declared.Edition.{Edition}
use Rattle.edition.specs.declared.Place.{Place}
use Rattle.entry.specs.Limits.{content_most}
use Rattle.entry.specs.State.{State, absent, cancelled, present}
use Rattle.base.specs.Answer.{Answer, refused, gives, map_answer}
use Rattle.entry.specs.Reading.{Entry}
use Rattle.entry.specs.Merging.{over}
use Rattle.names.specs.declared.Found.{Found}
use Rattle.names.specs.declared.Found.TheVariants as N
use Rattle.names.specs.Names.{ascii}
use Rattle.names.specs.Lookup.{same_bytes, looking_up}
use Rattle.text.specs.declared.FieldForm.{FieldForm}
use Rattle.text.specs.declared.FieldForm.TheVariants as F
use Rattle.text.specs.declared.Field.{Field}
use Rattle.text.specs.declared.Line.{Line}
use Rattle.text.specs.declared.Line.TheVariants.{End, Column, Indented}
use Rattle.text.specs.declared.TextRefusal.{TextRefusal}
use Rattle.text.specs.Strings.{read_at, read_bytes}
use Rattle.text.specs.Lines.{line_at, next_at}
use Rattle.text.specs.Fields.{field_at}
use Rattle.text.specs.Refusals.{text_number}
use Rattle.text.specs.Heading.{names_to, header_at}

-- ---- one field

-- what a field says
pub data Saying : Type 0 where
  -- the field is dropped
  nothing : Saying
  boolean : Place → State Unit → Saying
  number : Place → State ℕ → Saying
  string : Place → State (List ℕ) → Saying
  -- the description that has this name is used
  uses : List ℕ → Saying

-- the state that a form gives to a capability of each kind: 11 for a wrong kind, 13 past a limit; p is the field's
-- first byte
abbrev pub boolean_by : ℕ → FieldForm → Answer (State Unit)
boolean_by p F.Boolean = gives (present tt)
boolean_by p F.Cancelled = gives cancelled
boolean_by p (F.Number v) = refused 11 (p ∷ [])
boolean_by p F.LargeNumber = refused 11 (p ∷ [])
boolean_by p (F.String i n) = refused 11 (p ∷ [])

abbrev pub number_by : ℕ → FieldForm → Answer (State ℕ)
number_by p F.Boolean = refused 11 (p ∷ [])
number_by p F.Cancelled = gives cancelled
number_by p (F.Number v) = gives (present v)
number_by p F.LargeNumber = refused 13 (p ∷ [])
number_by p (F.String i n) = refused 11 (p ∷ [])

abbrev pub string_by : List ℕ → ℕ → FieldForm → Answer (State (List ℕ))
string_by t p F.Boolean = refused 11 (p ∷ [])
string_by t p F.Cancelled = gives cancelled
string_by t p (F.Number v) = refused 11 (p ∷ [])
string_by t p F.LargeNumber = refused 11 (p ∷ [])
string_by t p (F.String i n) =
    when leb n content_most then gives (present (read_bytes (read_at t i))) else refused 13 (p ∷ [])

unfoldable pub saying_of : List ℕ → ℕ → FieldForm → Option Found → Answer Saying
saying_of t p f (Some (N.Boolean q)) = map_answer (boolean q) (boolean_by p f)
saying_of t p f (Some (N.Number q)) = map_answer (number q) (number_by p f)
saying_of t p f (Some (N.String q)) = map_answer (string q) (string_by t p f)
saying_of t p f None = refused 11 (p ∷ [])

-- "`use=` (its string, escapes taken) names one". Left free by document 02: `use` in another form, which is 11, and a
-- string above 1,000 bytes, which is 13 as for any field
abbrev pub use_by : List ℕ → ℕ → FieldForm → Answer Saying
use_by t p F.Boolean = refused 11 (p ∷ [])
use_by t p F.Cancelled = refused 11 (p ∷ [])
use_by t p (F.Number v) = refused 11 (p ∷ [])
use_by t p F.LargeNumber = refused 11 (p ∷ [])
use_by t p (F.String i n) = when leb n content_most then gives (uses (read_bytes (read_at t i)))
    else refused 13 (p ∷ [])

-- a field that isn't dropped: "by 10, 11, 13"
unfoldable pub named_saying : Edition → List ℕ → ℕ → List ℕ → FieldForm → Answer Saying
named_saying e t p name f =
    when same_bytes name (ascii "use") then use_by t p f else saying_of t p f (looking_up e name)

-- what a field says, and the place past it
pub record Judging : Type 0 where
  pub saying : Saying
  pub next : ℕ

abbrev pub judging_of : Edition → List ℕ → ℕ → Option Field → Answer Judging
judging_of e t p (Some f) =
    map_answer (λ (s : Saying). record { saying = s; next = f.next })
    (when f.dropped then gives nothing else named_saying e t p (take (f.end - f.name) (drop f.name t)) f.form)
judging_of e t p None = refused 10 (p ∷ [])

-- the field whose first byte is at p
unfoldable pub judging : Edition → List ℕ → ℕ → Answer Judging
judging e t p = judging_of e t p (field_at t p)

-- ---- all fields of a description

-- what a field says, and the place of its first byte
pub record SayingAt : Type 0 where
  pub place : ℕ
  pub saying : Saying

-- the text read to the place at, and what the fields say so far
pub record FieldsRead : Type 0 where
  pub at : ℕ
  pub sayings : List SayingAt

-- what the fields say, and what stands behind them: a line in column 1 or the text's end
pub record Fields : Type 0 where
  pub sayings : List SayingAt
  pub behind : Line

abbrev pub fields_to : List SayingAt → Line → Fields
fields_to ss l = record { sayings = ss; behind = l }

-- one more field, whose first byte is at p
abbrev pub with_field : List SayingAt → ℕ → Judging → FieldsRead
with_field ss p j = record { at = j.next; sayings = ss ++ (record { place = p; saying = j.saying } ∷ []) }

abbrev pub field_turn : List SayingAt → ℕ → Answer Judging → Turn FieldsRead (Answer Fields)
field_turn ss p (refused n v) = stop (refused n v)
field_turn ss p (gives j) = go (with_field ss p j)

abbrev pub line_turn : Edition → List ℕ → List SayingAt → Line → Turn FieldsRead (Answer Fields)
line_turn e t ss End = stop (gives (fields_to ss End))
line_turn e t ss (Column p) = stop (gives (fields_to ss (Column p)))
line_turn e t ss (Indented p) = field_turn ss p (judging e t p)

unfoldable pub sayings_turn : Edition → List ℕ → FieldsRead → Turn FieldsRead (Answer Fields)
sayings_turn e t r = line_turn e t r.sayings (next_at t r.at)

-- the rest of the fields, of which some are read
unfoldable pub sayings_read : Edition → List ℕ → FieldsRead → Answer Fields
sayings_read e t r = loop (λ (r : FieldsRead). length t - r.at) (sayings_turn e t) (refused 0 []) r

-- the fields from the place past a comma on: what they say, in the text's order, or the first bad one's refusal
abbrev pub sayings_from : Edition → List ℕ → ℕ → Answer Fields
sayings_from e t i = sayings_read e t (record { at = i; sayings = [] })

-- ---- the entry that they describe

-- "The first field for a capability stands": the state that a capability has, over the one that a later field gives
unfoldable pub standing : {A : Type 0} → List (State A) → Place → State A → List (State A)
standing xs p s = set xs p.0 (over (get_or xs p.0 absent) s)

unfoldable pub with_saying : Entry → Saying → Entry
with_saying x nothing = x
with_saying x (uses n) = x
with_saying x (boolean p s) =
    record { names = x.names; booleans = standing x.booleans p s; numbers = x.numbers; strings = x.strings }
with_saying x (number p s) =
    record { names = x.names; booleans = x.booleans; numbers = standing x.numbers p s; strings = x.strings }
with_saying x (string p s) =
    record { names = x.names; booleans = x.booleans; numbers = x.numbers; strings = standing x.strings p s }

-- an entry with what fields say, from the first to the last
unfoldable pub described : Entry → List SayingAt → Entry
described x [] = x
described x (s ∷ ss) = described (with_saying x s.saying) ss

-- an entry of the edition under these names, whose states are all absent
abbrev pub bare : Edition → List ℕ → Entry
bare e names =
    record {
      names = names;
      booleans = replicate e.booleans absent;
      numbers = replicate e.numbers absent;
      strings = replicate e.strings absent;
    }

-- an entry with what the fields from the place past a comma on say
abbrev pub described_from : Edition → List ℕ → ℕ → Entry → Answer Entry
described_from e t i x = map_answer (λ (f : Fields). described x f.sayings) (sayings_from e t i)

-- ---- the text: "up to 64 descriptions", each a header and fields

-- "up to 64 descriptions"
abbrev pub descriptions_most : ℕ
descriptions_most = 64

pub record Description : Type 0 where
  -- where its header's refusals are: its first byte, 0 for the text's first header
  pub place : ℕ
  -- all of its names, with the bars
  pub names : List ℕ
  pub sayings : List SayingAt

abbrev pub description : ℕ → List ℕ → List SayingAt → Description
description p n ss = record { place = p; names = n; sayings = ss }

-- a header behind the 64th description: "a 65th header is 13". Left free by document 02: when. It is in the text's
-- order, behind its own 10
abbrev pub one_too_many : ℕ → Result ℕ TextRefusal → Answer (List Description)
one_too_many p (Ok c) = refused 13 (p ∷ [])
one_too_many p (Err r) = refused (text_number r) (p ∷ [])

-- what stands behind a description's fields: another description, or the text's end
abbrev pub behind_fields : (ℕ → Answer (List Description)) → Line → Answer (List Description)
behind_fields later End = gives []
behind_fields later (Column j) = later j
behind_fields later (Indented j) = gives []

abbrev pub with_later : (ℕ → Answer (List Description)) → ℕ → List ℕ → Answer Fields → Answer (List Description)
with_later later p n (refused m v) = refused m v
with_later later p n (gives f) =
    map_answer (λ (ds : List Description). description p n f.sayings ∷ ds) (behind_fields later f.behind)

-- the header at i, whose refusals give p, its fields, and the descriptions behind them
abbrev pub headed : Edition → List ℕ → (ℕ → Answer (List Description)) → (p i : ℕ) → Result ℕ TextRefusal
    → Answer (List Description)
headed e t later p i (Ok c) = with_later later p (names_to t i c) (sayings_from e t (c + 1))
headed e t later p i (Err r) = refused (text_number r) (p ∷ [])

-- the descriptions from the line in column 1 at i on, where so many more may come: "a later header that is bad .. gives
-- its own" first byte. Left free by document 02: a later line in column 1 that is no header. It is a bad header
unfoldable pub descriptions_at : Edition → List ℕ → (more p i : ℕ) → Answer (List Description)
descriptions_at e t zero p i = one_too_many p (header_at t i)
descriptions_at e t (suc more) p i = headed e t (λ (j : ℕ). descriptions_at e t more j j) p i (header_at t i)

-- "and so is a text without one". Left free by document 01: the place where the first line that counts is indented. It
-- is 0, as for a header that is missing
abbrev pub begun : Edition → List ℕ → Line → Answer (List Description)
begun e t End = refused 10 (0 ∷ [])
begun e t (Column i) = descriptions_at e t descriptions_most 0 i
begun e t (Indented i) = refused 10 (0 ∷ [])

-- the descriptions of a text, or the refusal of its first bad field, by 10, 11, 13
unfoldable pub describing : Edition → List ℕ → Answer (List Description)
describing e t = begun e t (line_at t 0)
