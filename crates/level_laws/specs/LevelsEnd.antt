-- Document 02, 2026-06: "show that the walk always ends past the `%e` or `%;` that document 01 names." `levels_end` of
-- proofs/Ends.antt says that this is so for every string.
-- Assumes nothing.
use Rattle.std.specs.Prelude.{◌≡◌, Bool, List, ℕ, ◌<◌, length, Ok}
use Rattle.expansion.specs.declared.Class.TheVariants.{Then, Else}
use Rattle.expansion.specs.Form.{class_at, form_of, Level}
use Rattle.expansion_laws.specs.Passes.{passed_to}
use Rattle.level_laws.specs.Levels.{LevelEnd, PastLevel, RightFrom, OpenAt, RightAt}

pub record LevelsEnd (s : List ℕ) : Type 0 where
  -- where the form is right and a level is open, there is an item at which it ends, and passing leads just past it
  pub ends : (elses : Bool) (i : ℕ) → OpenAt s i 0 → PastLevel elses s i (passed_to elses s i 0)
  -- there is one such item only
  pub one : (elses : Bool) (i p q : ℕ) → LevelEnd elses s i p → LevelEnd elses s i q → p ≡ q
  -- a string whose form is right is right from its start on, behind each item, and where passing leads
  pub start : form_of s ≡ Ok tt → RightAt s 0
  pub on : (i : ℕ) → RightAt s i → i < length s → RightAt s (class_at s i).next
  pub past : (elses : Bool) (i : ℕ) → OpenAt s i 0 → RightAt s (passed_to elses s i 0)
  -- so that a level is open behind each of its `%t` and `%e`
  pub behind_then : (i : ℕ) (ls : List Level) → i < length s → (class_at s i).class ≡ Then → RightFrom s i ls
      → OpenAt s (class_at s i).next 0
  pub behind_else : (i : ℕ) (ls : List Level) → i < length s → (class_at s i).class ≡ Else → RightFrom s i ls
      → OpenAt s (class_at s i).next 0
