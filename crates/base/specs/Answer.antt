-- A call's answer in document 01's terms (Numbers of refusal).
-- Assumes nothing.
use Rattle.std.specs.Prelude.{◌≡◌, Bool, true, false, List, ℕ, length}
use Rattle.base.specs.Overwrite.{put_at}

-- refused under a number, with the values that the refusal gives; or done, with what the call gives
pub data Answer (A : Type 0) : Type 0 where
  refused : ℕ → List ℕ → Answer A
  gives : A → Answer A

abbrev pub map_answer : {A B : Type 0} → (A → B) → Answer A → Answer B
map_answer g (refused n v) = refused n v
map_answer g (gives x) = gives (g x)

-- the first answer's refusal, else the second answer
abbrev pub and_then : {A B : Type 0} → Answer A → Answer B → Answer B
and_then (refused n v) b = refused n v
and_then (gives x) b = b

abbrev pub is_given : {A : Type 0} → Answer A → Bool
is_given (refused n v) = false
is_given (gives x) = true

-- the number of the table; 0 where the call is done
abbrev pub number_of : {A : Type 0} → Answer A → ℕ
number_of (refused n v) = n
number_of (gives x) = 0

-- what a lent buffer holds after a call that gives it bytes: "Files and texts start at the buffer's first byte; bytes
-- past them stay"; a refusal "changes nothing lent"
abbrev pub buffer_after : List ℕ → Answer (List ℕ) → List ℕ
buffer_after b (refused n v) = b
buffer_after b (gives bytes) = put_at b 0 bytes

-- a call that gives a buffer bytes says how many, or its refusal; b is the buffer before the call and c after it
abbrev pub Leaves : Answer (List ℕ) → (b c : List ℕ) → Answer ℕ → Type 0
Leaves a b c says = (says ≡ map_answer length a) × (c ≡ buffer_after b a)
