-- The calls that write, and what they give: the definitions that their contracts name.
-- Assumes nothing.
use Rattle.std.specs.Prelude.{◌≡◌, List, ℕ}
use Rattle.base.specs.Answer.{Answer, gives}
use Rattle.edition.specs.declared.Edition.{Edition}
use Rattle.entry.specs.Reading.{Entry}
use Rattle.entry.specs.Writing.{Handed, entry_of, writing}
use Rattle.entry.specs.Merging.{merged, merging}
use Rattle.entry_laws.specs.Demands.{Meets}
use Rattle.entry_laws.specs.MergeDemands.{MergeMeets}
use Rattle.text.specs.Building.{Wanted, building_text}
use Rattle.text.specs.Compiling.{compiling}
use Rattle.building_laws.specs.Compiled.{TextMeets}

-- a call in the edition e, with what it is given: what is handed to the writer, a text and which of its descriptions
-- is wanted, two files. Each of them refuses an edition that is too large (3)
pub data Call (e : Edition) : Type 0 where
  write : Handed → Call e
  compile : List ℕ → Wanted → Call e
  merge : List ℕ → List ℕ → Call e

-- the file that a call gives, or its refusal, where the buffer has so much room
abbrev pub calling : (e : Edition) → Call e → ℕ → Answer (List ℕ)
calling e (write h) room = writing e h room
calling e (compile t w) room = compiling e t w room
calling e (merge a b) room = merging e a b room

-- what the file holds, "as that call's definition gives them (the writer's: as handed over)"
abbrev pub holding : (e : Edition) → Call e → Answer Entry
holding e (write h) = gives (entry_of e h)
holding e (compile t w) = building_text e t w
holding e (merge a b) = gives (merged e a b)

-- the limits of a call that is to write x, room apart
abbrev pub MeetsLimits : (e : Edition) → Call e → Entry → Type 0
MeetsLimits e (write h) x = Meets e h
MeetsLimits e (compile t w) x = TextMeets e t w x
MeetsLimits e (merge a b) x = MergeMeets e a b

-- "A file written in an edition, by whatever call, holds names and, for each place that the edition knows, a state,
-- as that call's definition gives them": f is the file that a call gives in the edition e, and x what its definition
-- gives
pub record WrittenBy (e : Edition) (x : Entry) (f : List ℕ) : Type 0 where
  pub call : Call e
  pub room : ℕ
  pub file : calling e call room ≡ gives f
  pub held : holding e call ≡ gives x
