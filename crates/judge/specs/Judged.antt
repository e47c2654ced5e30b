-- What the answers of judging say, and what a caller may rely on.
-- Assumes nothing.
use Rattle.std.specs.Prelude.{◌≡◌, List, [], ◌∷◌, ℕ, ◌<◌, ◌≤◌, length, Result, Ok, Err}
use Rattle.edition.specs.declared.Edition.{Edition}
use Rattle.entry.specs.Limits.{content_most}
use Rattle.base.specs.Answer.{Answer, refused, gives}
use Rattle.entry.specs.Writing.{state_of}
use Rattle.text.specs.declared.Said.{Said}
use Rattle.text.specs.declared.Said.TheVariants as S
use Rattle.text.specs.declared.Judged.{Judged}
use Rattle.text.specs.declared.TextRefusal.{TextRefusal}
use Rattle.text.specs.Strings.{malformed, read_at, read_bytes}
use Rattle.text.specs.Describing.{Saying, nothing, boolean, number, string, uses, Judging}
use Rattle.text.specs.Compiling.{text_number}

-- kinds: 0 absent, 1 present, 2 cancelled
abbrev pub saying_said : List ℕ → Said → Saying
saying_said t S.Nothing = nothing
saying_said t (S.Boolean q k) = boolean q (state_of k tt)
saying_said t (S.Number q k v) = number q (state_of k v)
saying_said t (S.String q k i n) = string q (state_of k (read_bytes (read_at t i)))
saying_said t (S.Use i n) = uses (read_bytes (read_at t i))

-- p is the field's first byte
abbrev pub says_said : List ℕ → ℕ → Result Said TextRefusal → Answer Saying
says_said t p (Ok s) = gives (saying_said t s)
says_said t p (Err r) = refused (text_number r) (p ∷ [])

-- with the place past the field
abbrev pub says_judged : List ℕ → ℕ → Result Judged TextRefusal → Answer Judging
says_judged t p (Ok j) = gives (record { saying = saying_said t j.said; next = j.next })
says_judged t p (Err r) = refused (text_number r) (p ∷ [])

-- a string that is present stands in the text at i, and stands for n bytes
pub record StandsAt (t : List ℕ) (i n : ℕ) : Type 0 where
  pub whole : read_at t i ≡ malformed → ⊥
  pub counted : n ≡ length (read_bytes (read_at t i))

-- the edition knows the place
abbrev pub SaidIn : Edition → List ℕ → Said → Type 0
SaidIn e t S.Nothing = Unit {0}
SaidIn e t (S.Boolean q k) = q.0 < e.booleans
SaidIn e t (S.Number q k v) = q.0 < e.numbers
SaidIn e t (S.String q k i n) = (q.0 < e.strings) × (k ≡ 1 → StandsAt t i n × (n ≤ content_most))
SaidIn e t (S.Use i n) = StandsAt t i n × (n ≤ content_most)

abbrev pub SaysIn : Edition → List ℕ → Result Said TextRefusal → Type 0
SaysIn e t (Ok s) = SaidIn e t s
SaysIn e t (Err r) = Unit {0}

abbrev pub JudgedIn : Edition → List ℕ → Result Judged TextRefusal → Type 0
JudgedIn e t (Ok j) = SaidIn e t j.said
JudgedIn e t (Err r) = Unit {0}
