-- What the walk along the uses of a description comes to, and what the compiler's states hold after it.
-- Assumes nothing.
use Rattle.std.specs.Prelude.{◌≡◌, List, [], ℕ, ◌+◌, ◌<◌, ◌≤◌, length, get_or, Result, Ok, Err}
use Rattle.base.specs.Answer.{Answer, gives}
use Rattle.edition.specs.declared.Edition.{Edition}
use Rattle.entry.specs.Reading.{Entry}
use Rattle.entry.specs.Writing.{Handed}
use Rattle.uses.specs.Fast.{fast}
use Rattle.text.specs.Describing.{Fields, sayings_from, Description, descriptions_most}
use Rattle.text.specs.Building.{description_at, uses_of, over_in, own_of}
use Rattle.text.specs.declared.TextRefused.{TextRefused}
use Rattle.text.specs.Refusals.{text_refused}
use Rattle.compile_laws.specs.Held.{text_entry, Holds}
use Rattle.compile_laws.specs.Listed.{text_descriptions, UsesListed, Targets}

-- a description's fields stand behind the comma at c
pub record FieldsFrom (e : Edition) (t : List ℕ) (c : ℕ) (d : Description) : Type 0 where
  pub within : c < length t
  pub fields : Fields
  pub read : sayings_from e t (c + 1) ≡ gives fields
  pub sayings : fields.sayings ≡ d.sayings

-- what the arrays hold of a text's descriptions and uses
pub record Arrays (e : Edition) (t commas starts places targets : List ℕ) (count : ℕ) : Type 0 where
  pub counted : length (text_descriptions e t) ≡ count
  pub few : count ≤ descriptions_most
  pub many_commas : count ≤ length commas
  pub stands : (d : ℕ) → d < count → FieldsFrom e t (get_or commas d 0) (description_at (text_descriptions e t) d)
  pub uses : UsesListed starts places count (text_descriptions e t)
  pub room : get_or starts count 0 ≤ length targets
  pub leads : Targets t (text_descriptions e t) places targets (get_or starts count 0)

-- a description's own states put under those that are there
abbrev pub put_own : Edition → List Description → Entry → ℕ → Entry
put_own e ds s d = over_in e s (own_of e ds d)

-- what the walk comes to, where x is the entry that the states hold after it
abbrev pub walked_to : Entry → Result (Unit {0}) TextRefused → Answer Entry
walked_to x (Ok _) = gives x
walked_to x (Err r) = text_refused r

-- the wanted description and all that it leads to, under whatever names
pub record WalksUses (e : Edition) (wanted : ℕ) (before after : List ℕ → Handed) (r : Result (Unit {0}) TextRefused)
    : Type 0 where
  pub holds : Holds e (after [])
  pub entry : (n : List ℕ)
      → walked_to (text_entry e (after n)) r
      ≡ fast (put_own e (text_descriptions e (before []).lent)) (uses_of (text_descriptions e (before []).lent))
      (text_entry e (before n)) wanted
