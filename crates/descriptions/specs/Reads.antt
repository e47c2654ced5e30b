-- What reading a text's descriptions answers, and what the arrays hold then.
-- Assumes nothing.
use Rattle.std.specs.Prelude.{◌≡◌, List, ℕ, ◌+◌, ◌≤◌, ◌<◌, length, get_or, Result, Ok, Err}
use Rattle.base.specs.Answer.{Answer, gives}
use Rattle.edition.specs.declared.Edition.{Edition}
use Rattle.text.specs.declared.TextRefused.{TextRefused}
use Rattle.text.specs.Bytes.{text_most}
use Rattle.text.specs.Refusals.{text_refused}
use Rattle.text.specs.Heading.{header_at}
use Rattle.text.specs.Describing.{Description, descriptions_most, headed, describing}
use Rattle.compile_laws.specs.Listed.{text_descriptions, Listed, UsesListed, uses_room}
use Rattle.each_field.specs.Each.{Recorded}
use Rattle.descriptions.specs.declared.Described.{Described}

-- ---- one description

-- what the description at i comes to, whose header's refusals give p: where it is right, its header has its comma at
-- d.comma, and the places of its uses are kept behind the first `uses`; a refusal is that of any text that has it there
abbrev pub Describes : Edition → List ℕ → (i p : ℕ) → List ℕ → ℕ → List ℕ → Result Described TextRefused → Type 0
Describes e t i p before uses after (Ok d) =
    (header_at t i ≡ Ok d.comma) × Recorded e t (d.comma + 1) before uses after (Ok d.passed)
Describes e t i p before uses after (Err r) =
    (later : ℕ → Answer (List Description)) → headed e t later p i (header_at t i) ≡ text_refused r

-- ---- all of them

-- the text is short enough, the arrays have room for its descriptions and uses, and no start is set
pub record Rooms (t heads commas starts places : List ℕ) : Type 0 where
  pub short : length t ≤ text_most
  pub many_heads : descriptions_most ≤ length heads
  pub many_commas : descriptions_most ≤ length commas
  pub many_starts : descriptions_most < length starts
  pub many_places : uses_room ≤ length places
  pub unset : (d : ℕ) → get_or starts d 0 ≡ 0

abbrev pub TextReads : Edition → (t heads commas starts places : List ℕ) → Result ℕ TextRefused → Type 0
TextReads e t heads commas starts places (Ok count) =
    (describing e t ≡ gives (text_descriptions e t))
    × (Listed e t heads commas count (text_descriptions e t) × UsesListed starts places count (text_descriptions e t))
TextReads e t heads commas starts places (Err r) = describing e t ≡ text_refused r

abbrev pub says_total : Result Unit TextRefused → Answer Unit
says_total (Ok u) = gives tt
says_total (Err r) = text_refused r
