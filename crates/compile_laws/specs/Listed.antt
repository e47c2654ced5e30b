-- What the arrays of the compiler hold of a text's descriptions: where their headers stand, and the places and targets
-- of their uses.
-- Assumes nothing.
use Rattle.std.specs.Prelude.{◌≡◌, List, [], map, ℕ, zero, suc, ◌+◌, ◌-◌, ◌≤◌, ◌<◌, length, get_or, take, drop}
use Rattle.std.specs.Prelude.{Ok}
use Rattle.base.specs.Answer.{Answer, refused, gives}
use Rattle.edition.specs.declared.Edition.{Edition}
use Rattle.uses.specs.Targets.{no_target}
use Rattle.text.specs.Strings.{read_at, read_bytes}
use Rattle.text.specs.Heading.{names_to, header_at}
use Rattle.text.specs.Describing.{SayingAt, Fields, sayings_from, Description, descriptions_most, describing}
use Rattle.text.specs.Building.{Having, nobody, numbered, having, UseAt, uses_in, description_at}

-- the descriptions that are given, or none
abbrev pub descriptions_of : Answer (List Description) → List Description
descriptions_of (refused n v) = []
descriptions_of (gives ds) = ds

abbrev pub text_descriptions : Edition → List ℕ → List Description
text_descriptions e t = descriptions_of (describing e t)

-- ---- headers

-- a description's header stands at i and has its comma at c
pub record StandsFrom (e : Edition) (t : List ℕ) (i c : ℕ) (d : Description) : Type 0 where
  pub header : header_at t i ≡ Ok c
  pub names : d.names ≡ names_to t i c
  pub fields : Fields
  pub read : sayings_from e t (c + 1) ≡ gives fields
  pub sayings : fields.sayings ≡ d.sayings

-- the place that the refusals of the d-th header give, which stands at i: 0 for the text's first
unfoldable pub head_place : (d i : ℕ) → ℕ
head_place zero i = 0
head_place (suc d) i = i

-- the headers of count descriptions
pub record Listed (e : Edition) (t heads commas : List ℕ) (count : ℕ) (ds : List Description) : Type 0 where
  pub counted : length ds ≡ count
  pub some : 0 < count
  pub few : count ≤ descriptions_most
  pub many_heads : count ≤ length heads
  pub many_commas : count ≤ length commas
  pub stands : (d : ℕ) → d < count → StandsFrom e t (get_or heads d 0) (get_or commas d 0) (description_at ds d)
  pub places : (d : ℕ) → d < count → (description_at ds d).place ≡ head_place d (get_or heads d 0)

-- the headers' places lie in the text
pub record HeadsIn (t heads commas : List ℕ) (count : ℕ) : Type 0 where
  pub many_heads : count ≤ length heads
  pub many_commas : count ≤ length commas
  pub before : (d : ℕ) → d < count → get_or heads d 0 ≤ get_or commas d 0
  pub within : (d : ℕ) → d < count → get_or commas d 0 ≤ length t

-- ---- uses

-- a text's most uses: the shortest is `use=,`
abbrev pub uses_room : ℕ
uses_room = 3276

-- the first bytes of the `use` fields among the fields
abbrev pub use_places : List SayingAt → List ℕ
use_places ss = map (λ (u : UseAt). u.place) (uses_in ss)

-- the uses of description d stand from starts[d] up to starts[d + 1]; of those behind the last there are none
pub record UsesListed (starts places : List ℕ) (count : ℕ) (ds : List Description) : Type 0 where
  pub many_starts : count < length starts
  pub ordered : (d : ℕ) → d < count → get_or starts d 0 ≤ get_or starts (d + 1) 0
  pub inside : (d : ℕ) → d < count → get_or starts (d + 1) 0 ≤ length places
  pub rest : (d : ℕ) → count < d → get_or starts d 0 ≡ 0
  pub in_order : (d : ℕ) → d < count
      → use_places (description_at ds d).sayings
      ≡ take (get_or starts (d + 1) 0 - get_or starts d 0) (drop (get_or starts d 0) places)

-- the name in the `use` field whose first byte is at p: its string stands behind `use=`
abbrev pub used_name : List ℕ → ℕ → List ℕ
used_name t p = read_bytes (read_at t (p + 4))

-- the description that has a name, as the targets hold it
abbrev pub target_of : Having → ℕ
target_of nobody = no_target
target_of (numbered d) = d

-- the first n uses lead where the targets say
abbrev pub Targets : List ℕ → List Description → (places targets : List ℕ) → ℕ → Type 0
Targets t ds places targets n =
    (i : ℕ) → i < n → get_or targets i 0 ≡ target_of (having (used_name t (get_or places i 0)) ds)
