-- What a call's answer says, by the number and the values of each of its refusals (document 01: Numbers of refusal).
-- Assumes nothing.
use Rattle.std.specs.Prelude.{List, [], ℕ, Result, Ok, Err}
use Rattle.base.specs.Answer.{Answer, refused, gives}

-- the values that come with a refusal
abbrev pub values_of : {A : Type 0} → Answer A → List ℕ
values_of (refused n v) = v
values_of (gives x) = []

-- what is given, or the refusal under its number with its values
abbrev pub says_by : {A R : Type 0} → (R → ℕ) → (R → List ℕ) → Result A R → Answer A
says_by number values (Ok x) = gives x
says_by number values (Err why) = refused (number why) (values why)
