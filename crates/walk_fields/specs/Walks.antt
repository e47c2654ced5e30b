-- What the fields of a description come to, and what the compiler's states hold after them.
-- Assumes nothing.
use Rattle.std.specs.Prelude.{◌≡◌, Bool, true, List, [], ℕ, Result, Ok, Err}
use Rattle.base.specs.Answer.{Answer, gives}
use Rattle.edition.specs.declared.Edition.{Edition}
use Rattle.entry.specs.Writing.{Handed}
use Rattle.text.specs.declared.Line.TheVariants.{End}
use Rattle.text.specs.declared.TextRefused.{TextRefused}
use Rattle.text.specs.Refusals.{text_refused}
use Rattle.text.specs.Describing.{Fields, sayings_from}
use Rattle.text.specs.Building.{uses_in}
use Rattle.compile_laws.specs.Held.{Holds}
use Rattle.each_field.specs.Each.{KeepsAll}

-- what the fields come to; where the answer is true, the text ends behind them and none is a use
abbrev pub FieldsCome : Edition → (before after : List ℕ → Handed) → Answer Fields → Result Bool TextRefused → Type 0
FieldsCome e before after a (Ok alone) =
    (f : Fields) × ((a ≡ gives f) × (KeepsAll e before after f
    × (alone ≡ true → (f.behind ≡ End) × (uses_in f.sayings ≡ []))))
FieldsCome e before after a (Err r) = a ≡ text_refused r

-- the fields from a place on
pub record Walks (e : Edition) (at : ℕ) (before after : List ℕ → Handed) (r : Result Bool TextRefused) : Type 0 where
  pub holds : Holds e (after [])
  pub come : FieldsCome e before after (sayings_from e (before []).lent at) r
