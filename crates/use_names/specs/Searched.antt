-- What the searches for a name answer: the next bar of a header's names, and the next description that has a name.
-- Assumes nothing.
use Rattle.std.specs.Prelude.{◌≡◌, true, false, List, ℕ, ◌≤◌, ◌<◌, length, get_or, Option, None, Some}
use Rattle.text.specs.Heading.{names_to}
use Rattle.text.specs.Building.{has_name}
use Rattle.text_laws.specs.HeadingLaws.{NoBar}

-- the first bar of s stands at e, or there is none
abbrev pub BarOf : List ℕ → Option ℕ → Type 0
BarOf s None = NoBar s 0 (length s)
BarOf s (Some e) = (e < length s) × (NoBar s 0 e × (get_or s e 0 ≡ 124))

-- the names of description d
abbrev pub names_of : (t heads commas : List ℕ) → ℕ → List ℕ
names_of t heads commas d = names_to t (get_or heads d 0) (get_or commas d 0)

-- no description from the first one up to e has the name n
abbrev pub NoneFrom : (t heads commas : List ℕ) → (n : List ℕ) → (first e : ℕ) → Type 0
NoneFrom t heads commas n first e = (d : ℕ) → first ≤ d → d < e → has_name n (names_of t heads commas d) ≡ false

-- what is found among count descriptions, from the first one on
abbrev pub FoundFrom : Option ℕ → (t heads commas : List ℕ) → (count : ℕ) → (n : List ℕ) → (first : ℕ) → Type 0
FoundFrom None t heads commas count n first = NoneFrom t heads commas n first count
FoundFrom (Some d) t heads commas count n first =
    (d < count) × NoneFrom t heads commas n first d × (has_name n (names_of t heads commas d) ≡ true)
