-- What the fields of a description come to, one after the other: their states are kept, or the places of their uses.
-- Assumes nothing.
use Rattle.std.specs.Prelude.{◌≡◌, List, [], ◌∷◌, ℕ, ◌+◌, ◌*◌, ◌≤◌, ◌<◌, length, Option, Some, None, Result, Ok, Err}
use Rattle.base.specs.Answer.{Answer, gives}
use Rattle.base.specs.Overwrite.{put_at}
use Rattle.edition.specs.declared.Edition.{Edition}
use Rattle.entry.specs.Writing.{Handed}
use Rattle.text.specs.declared.Line.{Line}
use Rattle.text.specs.declared.Line.TheVariants.{End, Column}
use Rattle.text.specs.declared.Said.{Said}
use Rattle.text.specs.declared.Said.TheVariants as S
use Rattle.text.specs.declared.TextRefused.{TextRefused}
use Rattle.text.specs.Bytes.{text_most}
use Rattle.text.specs.Refusals.{text_refused}
use Rattle.text.specs.Describing.{SayingAt, Fields, fields_to, sayings_from, described}
use Rattle.text.specs.Building.{uses_in}
use Rattle.judge.specs.Judged.{saying_said}
use Rattle.compile_laws.specs.Held.{text_entry, Holds}
use Rattle.compile_laws.specs.Listed.{use_places, uses_room}
use Rattle.each_field.specs.declared.Passed.{Passed}

-- what one field of a text says, whose first byte is at p
abbrev pub said_at : List ℕ → ℕ → Said → List SayingAt
said_at t p s = record { place = p; saying = saying_said t s } ∷ []

-- how many uses a field is
abbrev pub uses_said : Said → ℕ
uses_said S.Nothing = 0
uses_said (S.Boolean q k) = 0
uses_said (S.Number q k v) = 0
uses_said (S.String q k i n) = 0
uses_said (S.Use i n) = 1

-- the places of the uses among the fields stand behind the first `uses` places, and there are `count` now
pub record KeepsUses (before : List ℕ) (uses : ℕ) (after : List ℕ) (count : ℕ) (ss : List SayingAt) : Type 0 where
  pub places : after ≡ put_at before uses (use_places ss)
  pub counted : count ≡ uses + length (use_places ss)

-- all fields are right, and the line l stands behind them; the uses' places stand behind the first `uses` places, and
-- there are `count` now, none of which is past the room
pub record Passes (e : Edition) (t : List ℕ) (at : ℕ) (before : List ℕ) (uses : ℕ) (after : List ℕ) (count : ℕ)
    (l : Line) : Type 0 where
  pub sayings : List SayingAt
  pub read : sayings_from e t at ≡ gives (fields_to sayings l)
  pub places : after ≡ put_at before uses (use_places sayings)
  pub counted : count ≡ uses + length (use_places sayings)
  pub room : count ≤ uses_room

-- ---- where states are kept

-- the arrays hold what the fields say, over what they held before, under whatever names
abbrev pub KeepsAll : Edition → (before after : List ℕ → Handed) → Fields → Type 0
KeepsAll e before after f = (n : List ℕ) → text_entry e (after n) ≡ described (text_entry e (before n)) f.sayings

-- the line that stands behind the fields
abbrev pub line_behind : Option ℕ → Line
line_behind None = End
line_behind (Some p) = Column p

-- a is what the fields say; a count of 0 says that none is a use
abbrev pub FieldsKept : Edition → (before after : List ℕ → Handed) → Answer Fields → Result Passed TextRefused → Type 0
FieldsKept e before after a (Ok r) =
    (f : Fields) × ((a ≡ gives f) × (KeepsAll e before after f
    × ((f.behind ≡ line_behind r.next) × (r.uses ≡ 0 → uses_in f.sayings ≡ []))))
FieldsKept e before after a (Err r) = a ≡ text_refused r

pub record Kept (e : Edition) (at : ℕ) (before after : List ℕ → Handed) (r : Result Passed TextRefused) : Type 0 where
  pub holds : Holds e (after [])
  pub come : FieldsKept e before after (sayings_from e (before []).lent at) r

-- ---- where the places of uses are kept

-- the next header lies in the text, and behind the uses
abbrev pub NextIn : List ℕ → Passed → Type 0
NextIn t r = (p : ℕ) → r.next ≡ Some p → (p < length t) × (r.uses * 5 ≤ p)

abbrev pub Recorded : Edition → List ℕ → ℕ → List ℕ → ℕ → List ℕ → Result Passed TextRefused → Type 0
Recorded e t at before uses after (Ok r) = Passes e t at before uses after r.uses (line_behind r.next) × NextIn t r
Recorded e t at before uses after (Err r) = sayings_from e t at ≡ text_refused r

-- the text is short, and there is room for the places of the uses behind those that are there
abbrev pub Room : List ℕ → ℕ → List ℕ → ℕ → Type 0
Room t at places uses =
    (length t ≤ text_most) × ((at ≤ length t) × ((uses_room ≤ length places) × (uses * 5 ≤ at)))
