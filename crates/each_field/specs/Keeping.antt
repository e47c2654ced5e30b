-- What is kept of the fields of a description, and what keeping it asks for.
-- Assumes nothing.
use Rattle.std.specs.Prelude.{◌≡◌, List, [], ℕ, ◌+◌, ◌≤◌, ◌<◌, length, Result}
use Rattle.base.specs.Overwrite.{put_at}
use Rattle.edition.specs.declared.Edition.{Edition}
use Rattle.text.specs.declared.Said.{Said}
use Rattle.text.specs.declared.TextRefused.{TextRefused}
use Rattle.text.specs.Bytes.{text_most}
use Rattle.judge.specs.Judged.{SaidIn}
use Rattle.compile_laws.specs.Held.{Holds, Keeps}
use Rattle.compile_laws.specs.Listed.{use_places}
use Rattle.kept_states.specs.declared.StateArrays.{StateArrays}
use Rattle.kept_states.specs.States.{held_in}
use Rattle.each_field.specs.declared.Passed.{Passed}
use Rattle.each_field.specs.declared.Keeping.{Keeping}
use Rattle.each_field.specs.declared.Keeping.TheVariants as K
use Rattle.each_field.specs.Each.{uses_said, said_at, Kept, Recorded, Room}

-- the same is kept, in the same places, whatever they hold
abbrev pub SameLent : Keeping → Keeping → Type 0
SameLent K.States K.States = Unit {0}
SameLent K.States (K.Uses c) = ⊥
SameLent (K.Uses b) K.States = ⊥
SameLent (K.Uses b) (K.Uses c) = (c.ghost_name ≡ b.ghost_name) × (length c.now ≡ length b.now)

-- ---- one field, whose first byte is at p

abbrev pub AsksField : Edition → List ℕ → Said → ℕ → Keeping → StateArrays → ℕ → Type 0
AsksField e t said p K.States s uses = SaidIn e t said × Holds e (held_in s t [])
AsksField e t said p (K.Uses b) s uses = (uses + uses_said said ≤ length b.now) × (p < text_most)

abbrev pub KeepsField : Edition → List ℕ → Said → ℕ → (before : Keeping) → StateArrays → ℕ → (after : Keeping)
    → StateArrays → Type 0
KeepsField e t said p K.States s uses K.States z = Keeps e (held_in s t) (held_in z t) said
KeepsField e t said p K.States s uses (K.Uses c) z = ⊥
KeepsField e t said p (K.Uses b) s uses K.States z = ⊥
KeepsField e t said p (K.Uses b) s uses (K.Uses c) z = c.now ≡ put_at b.now uses (use_places (said_at t p said))

-- ---- the fields from a place on

abbrev pub Asks : Edition → List ℕ → ℕ → Keeping → StateArrays → ℕ → Type 0
Asks e t at K.States s uses = Holds e (held_in s t [])
Asks e t at (K.Uses b) s uses = Room t at b.now uses

abbrev pub Comes : Edition → List ℕ → ℕ → (before : Keeping) → StateArrays → ℕ → (after : Keeping) → StateArrays
    → Result Passed TextRefused
    → Type 0
Comes e t at K.States s uses K.States z r = Kept e at (held_in s t) (held_in z t) r
Comes e t at K.States s uses (K.Uses c) z r = ⊥
Comes e t at (K.Uses b) s uses K.States z r = ⊥
Comes e t at (K.Uses b) s uses (K.Uses c) z r = Recorded e t at b.now uses c.now r
