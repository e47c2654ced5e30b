-- Where a conditional's level ends (document 01: Expansion): "on 0 go past the next `%e` of this level, or past its
-- `%;` if there is none. A reached `%e` goes past the `%;`."
-- Assumes nothing.
use Rattle.std.specs.Prelude.{◌≡◌, Bool, true, false, List, ℕ, suc, ◌≤◌, ◌<◌, length, Ok}
use Rattle.expansion.specs.declared.Class.{Class}
use Rattle.expansion.specs.declared.Class.TheVariants.{Plain, If, Then, Else, End, Wrong}
use Rattle.expansion.specs.Form.{class_at, Level}
use Rattle.expansion_laws.specs.Forms.{form_of_rest}

-- an item of this class, before which d conditionals are open inside a level, leaves e open there: `%?` opens one, `%;`
-- closes one
abbrev pub Leaves : Class → ℕ → ℕ → Type 0
Leaves Plain d e = e ≡ d
Leaves If d e = e ≡ suc d
Leaves Then d e = e ≡ d
Leaves Else d e = e ≡ d
Leaves End d e = d ≡ suc e
Leaves Wrong d e = e ≡ d

-- the items from place i on, with d conditionals open inside the level, lead to place p, with e open inside it
pub data Leads (s : List ℕ) (p e : ℕ) : ℕ → ℕ → Type 0 where
  here : Leads s p e p e
  over : (i d d' : ℕ) → i < length s → Leaves (class_at s i).class d d' → Leads s p e (class_at s i).next d'
      → Leads s p e i d

-- an item of this class ends the level where it belongs to it: `%;` does, and `%e` where elses is set
abbrev pub EndsLevel : Bool → Class → Type 0
EndsLevel elses Plain = ⊥
EndsLevel elses If = ⊥
EndsLevel elses Then = ⊥
EndsLevel true Else = Unit {0}
EndsLevel false Else = ⊥
EndsLevel elses End = Unit {0}
EndsLevel elses Wrong = ⊥

-- an item of this level stands at p, with no conditional open inside it, and ends it
pub record EndingAt (elses : Bool) (s : List ℕ) (i p : ℕ) : Type 0 where
  pub inside : p < length s
  pub leads : Leads s p 0 i 0
  pub ends : EndsLevel elses (class_at s p).class

-- from place i on, it is the first such item: "the next `%e` of this level, or its `%;` if there is none" where elses
-- is set, and "the `%;`" where it isn't
pub record LevelEnd (elses : Bool) (s : List ℕ) (i p : ℕ) : Type 0 where
  pub ending : EndingAt elses s i p
  pub first : (q : ℕ) → EndingAt elses s i q → p ≤ q

-- r is the place just past that item
abbrev pub PastLevel : Bool → List ℕ → ℕ → ℕ → Type 0
PastLevel elses s i r = (p : ℕ) × LevelEnd elses s i p × (r ≡ (class_at s p).next)

-- ---- a string whose form is right

-- it is right from place i on, with the conditionals ls open there
abbrev pub RightFrom : List ℕ → ℕ → List Level → Type 0
RightFrom s i ls = form_of_rest s i ls ≡ Ok tt

-- it is right from place i on, and a level is open there in which d conditionals are open
pub record OpenAt (s : List ℕ) (i d : ℕ) : Type 0 where
  pub around : List Level
  pub right : RightFrom s i around
  pub more : d < length around

-- place i is in the string or at its end, and the string is right from there on, with some conditionals open
pub record RightAt (s : List ℕ) (i : ℕ) : Type 0 where
  pub around : List Level
  pub right : RightFrom s i around
  pub inside : i ≤ length s
