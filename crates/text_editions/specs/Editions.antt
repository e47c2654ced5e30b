-- What compiling gives in one edition and in a larger one (document 02, 2026-01). `compiling` is what the call's
-- contract says that it gives, for any wanted description; `building_text` what the file holds. The statements are
-- proved in proofs/Editions.antt (`larger_describes`, `larger_accepts`, `second_accepts`).
-- Assumes nothing.
use Rattle.std.specs.Prelude.{◌≡◌, Bool, true, false, ◌||◌, ℕ, eqb}
use mathlib.Core.List.{List}
use Rattle.base.specs.Answer.{Answer, refused, gives}
use Rattle.edition.specs.declared.Edition.{Edition}
use Rattle.edition.specs.declared.Place.{Place}
use Rattle.edition.specs.Edition.{knows, NoMore, ok_edition}
use Rattle.entry.specs.State.{absent}
use Rattle.entry.specs.Reading.{Entry, held_boolean, held_number, held_string}
use Rattle.text.specs.Building.{Wanted, building_text}
use Rattle.text.specs.Compiling.{compiling}
use Rattle.names.specs.Names.{first_edition, second_edition}

-- ---- what the wanted description of a text comes to

-- what x holds, in the edition e, y holds too, and no more: the same names, the same state at each place that e knows,
-- and absent at each other
pub record SameStates (e : Edition) (x y : Entry) : Type 0 where
  pub names : y.names ≡ x.names
  pub boolean : (p : Place) → knows e.booleans p ≡ true → held_boolean y p ≡ held_boolean x p
  pub number : (p : Place) → knows e.numbers p ≡ true → held_number y p ≡ held_number x p
  pub string : (p : Place) → knows e.strings p ≡ true → held_string y p ≡ held_string x p
  pub new_boolean : (p : Place) → knows e.booleans p ≡ false → held_boolean y p ≡ absent
  pub new_number : (p : Place) → knows e.numbers p ≡ false → held_number y p ≡ absent
  pub new_string : (p : Place) → knows e.strings p ≡ false → held_string y p ≡ absent

-- what a text describes under a wanted name in an edition, it describes in a larger one too
pub record DescribedToo (e E : Edition) (t : List ℕ) (w : Wanted) (x : Entry) : Type 0 where
  pub entry : Entry
  pub describes : building_text E t w ≡ gives entry
  pub same : SameStates e x entry

abbrev pub LargerDescribes : Type 0
LargerDescribes = (e E : Edition) → NoMore e E → (t : List ℕ) (w : Wanted) (x : Entry)
    → building_text e t w ≡ gives x → DescribedToo e E t w x

-- ---- when a text is accepted

-- compiling is done, or refused by 9 or 8
abbrev pub accepted : {A : Type 0} → Answer A → Bool
accepted (gives f) = true
accepted (refused n v) = eqb n 9 || eqb n 8

-- a text that the edition e accepts: it describes an entry, E describes the same states and accepts it for any room
pub record AcceptedToo (e E : Edition) (t : List ℕ) (w : Wanted) : Type 0 where
  pub entry : Entry
  pub describes : building_text e t w ≡ gives entry
  pub too : DescribedToo e E t w entry
  pub accepts : (room : ℕ) → accepted (compiling E t w room) ≡ true

-- whatever two editions, of which the first knows no more than the second, which is not too large
abbrev pub LargerAccepts : Type 0
LargerAccepts = (e E : Edition) → NoMore e E → ok_edition E ≡ true → (t : List ℕ) (w : Wanted) (room : ℕ)
    → accepted (compiling e t w room) ≡ true → AcceptedToo e E t w

-- "Every text that the first edition accepts is accepted by the second, unless 9 or 8 now applies, with the same
-- states, the new ones absent."
abbrev pub SecondAccepts : Type 0
SecondAccepts = (t : List ℕ) (w : Wanted) (room : ℕ) → accepted (compiling first_edition t w room) ≡ true
    → AcceptedToo first_edition second_edition t w
