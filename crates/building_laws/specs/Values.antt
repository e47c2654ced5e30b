-- The refusals of a text are 10, 11, 13, 18, 19 and 20, and the places that they give are no further than its end.
-- Assumes nothing.
use Rattle.std.specs.Prelude.{◌≡◌, ◌⊎◌, get_or}
use Rattle.std.proofs.Common.{inl, inr}
use mathlib.Core.List.{List, [], ◌∷◌}
use Prim.Native.Nat.{ℕ, ◌≤◌, ◌<◌}
use native.Mathlib.Omega.{arith}
use Rattle.std.proofs.Math.ListN.{length}
use Rattle.base.specs.Answer.{Answer, refused, gives}
use Rattle.entry.specs.Limits.{file_most}
use Rattle.text.specs.declared.Line.{Line}
use Rattle.text.specs.declared.Line.TheVariants.{End, Column, Indented}
use Rattle.text.specs.Bytes.{text_most}
use Rattle.text.specs.Describing.{Fields}

-- ---- the numbers

-- of fields, headers and names' totals; 12 "is no longer given"
abbrev pub FieldNumber : ℕ → Type 0
FieldNumber n = (n ≡ 10) ⊎ ((n ≡ 11) ⊎ (n ≡ 13))

-- of the wanted name and of uses
abbrev pub UseNumber : ℕ → Type 0
UseNumber n = (n ≡ 18) ⊎ ((n ≡ 19) ⊎ (n ≡ 20))

abbrev pub TextNumber : ℕ → Type 0
TextNumber n = FieldNumber n ⊎ UseNumber n

pub text_least : (n : ℕ) → TextNumber n → 10 ≤ n
text_least n (inl (inl q)) = omega arith
text_least n (inl (inr (inl q))) = omega arith
text_least n (inl (inr (inr q))) = omega arith
text_least n (inr (inl q)) = omega arith
text_least n (inr (inr (inl q))) = omega arith
text_least n (inr (inr (inr q))) = omega arith

pub text_not_12 : TextNumber 12 → ⊥
text_not_12 (inl (inl q)) = omega arith
text_not_12 (inl (inr (inl q))) = omega arith
text_not_12 (inl (inr (inr q))) = omega arith
text_not_12 (inr (inl q)) = omega arith
text_not_12 (inr (inr (inl q))) = omega arith
text_not_12 (inr (inr (inr q))) = omega arith

-- ---- a field's refusal gives the field's first byte

abbrev pub BadAt : ℕ → ℕ → List ℕ → Type 0
BadAt p n v = FieldNumber n × (v ≡ p ∷ [])

abbrev pub At : {A : Type 0} → ℕ → Answer A → Type 0
At p (refused n v) = BadAt p n v
At p (gives x) = Unit {0}

-- ---- the refusals of a text's descriptions

-- a refusal whose number has the property N gives one place, of at most m
abbrev pub PlaceWithin : (ℕ → Type 0) → ℕ → ℕ → List ℕ → Type 0
PlaceWithin N m n v = N n × ((get_or v 0 0 ≤ m) × (v ≡ get_or v 0 0 ∷ []))

abbrev pub Within : {A : Type 0} → (ℕ → Type 0) → ℕ → Answer A → Type 0
Within N m (refused n v) = PlaceWithin N m n v
Within N m (gives x) = Unit {0}

-- what stands behind fields is in the text
abbrev pub BehindIn : List ℕ → Line → Type 0
BehindIn t End = Unit {0}
BehindIn t (Column j) = j < length t
BehindIn t (Indented j) = Unit {0}

abbrev pub FieldsIn : List ℕ → Answer Fields → Type 0
FieldsIn t (refused n v) = PlaceWithin FieldNumber (length t) n v
FieldsIn t (gives f) = BehindIn t f.behind

-- ---- compiling

-- what compiling says is bounded: a value by the text's most bytes, a file's length by the file's
abbrev pub Bounded : Answer ℕ → Type 0
Bounded (refused n v) = get_or v 0 0 ≤ text_most
Bounded (gives n) = n ≤ file_most

-- the numbers of all of compiling's refusals
abbrev pub CompilingNumber : ℕ → Type 0
CompilingNumber n = ((n ≡ 3) ⊎ (n ≡ 1)) ⊎ (TextNumber n ⊎ ((n ≡ 9) ⊎ (n ≡ 8)))

abbrev pub Judged : Answer (List ℕ) → Type 0
Judged (refused n v) = CompilingNumber n × (get_or v 0 0 ≤ text_most)
Judged (gives f) = length f ≤ file_most
