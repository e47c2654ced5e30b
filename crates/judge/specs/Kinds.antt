-- What the judging of a field's parts answers.
-- Assumes nothing.
use Rattle.std.specs.Prelude.{◌≡◌, List, ℕ, Some, None, Result}
use Rattle.edition.specs.declared.Edition.{Edition}
use Rattle.names.specs.declared.Found.{Found}
use Rattle.names.specs.Lookup.{looking_up}
use Rattle.names.proofs.LookupLaws.{FoundIn}
use Rattle.text.specs.declared.FieldForm.{FieldForm}
use Rattle.text.specs.declared.FieldForm.TheVariants as F
use Rattle.text.specs.declared.Said.{Said}
use Rattle.text.specs.declared.TextRefusal.{TextRefusal}
use Rattle.text.specs.Describing.{saying_of, use_by, named_saying}
use Rattle.judge.specs.Judged.{StandsAt, says_said, SaysIn}

-- a string's form stands in the text
abbrev pub FormIn : List ℕ → FieldForm → Type 0
FormIn t F.Boolean = Unit {0}
FormIn t F.Cancelled = Unit {0}
FormIn t (F.Number v) = Unit {0}
FormIn t F.LargeNumber = Unit {0}
FormIn t (F.String i n) = StandsAt t i n

-- r judges a form under the capability found: for every edition that knows it, and every text that has the form, with
-- the field's first byte at p
abbrev pub Judges : Found → FieldForm → Result Said TextRefusal → Type 0
Judges found form r =
    (e : Edition) (t : List ℕ) (p : ℕ) → FoundIn e (Some found) → FormIn t form
    → (says_said t p r ≡ saying_of t p form (Some found)) × SaysIn e t r

-- the same under the name `use`
abbrev pub JudgesUse : FieldForm → Result Said TextRefusal → Type 0
JudgesUse form r =
    (e : Edition) (t : List ℕ) (p : ℕ) → FormIn t form
    → (says_said t p r ≡ use_by t p form) × SaysIn e t r

-- the same under a name
abbrev pub JudgesNamed : Edition → List ℕ → FieldForm → Result Said TextRefusal → Type 0
JudgesNamed e name form r =
    (t : List ℕ) (p : ℕ) → FormIn t form → (says_said t p r ≡ named_saying e t p name form) × SaysIn e t r

-- the same under a name that an edition doesn't know, for every such edition
abbrev pub JudgesUnknown : List ℕ → FieldForm → Result Said TextRefusal → Type 0
JudgesUnknown name form r = (e : Edition) → looking_up e name ≡ None → JudgesNamed e name form r
