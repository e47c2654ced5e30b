-- The position that a file's refusal gives is no made-up one (document 02, 2026-05): it lies in the file, in the table
-- that the number names, the byte or slot there is bad by document 01's rule, and every one before it in that table is
-- good.
-- Statements only: proofs/Positions.antt has the proof. Assumes nothing.
use Rattle.std.specs.Prelude.{◌≡◌, Bool, true, false, not, List, [], ◌∷◌, ◌⊎◌, ℕ, ◌+◌, ◌*◌, ◌≤◌, ◌<◌, eqb, ltb}
use Rattle.std.specs.Prelude.{length, get_or}
use Rattle.base.specs.If.{when◌then◌else◌}
use Rattle.base.specs.Answer.{refused, is_given}
use Rattle.word.specs.Nul.{not_nul_at}
use Rattle.edition.specs.declared.Edition.{Edition}
use Rattle.edition.specs.Edition.{ok_edition}
use Rattle.entry.specs.declared.Sizes.{Sizes}
use Rattle.entry.specs.Limits.{header_size, number_width, offset_width}
use Rattle.entry.specs.Layout.{sizes_of, booleans_at, pad_of, numbers_at, strings_at}
use Rattle.entry.specs.Reading.{ok_boolean_at, ok_number_at, ok_string_at, reading}
use Rattle.entry.specs.Asking.{opening}
use Rattle.entry.specs.Writing.{encode}
use Rattle.entry.specs.Merging.{merged, merging}

-- ---- the four tables

-- a table: where it starts, how many bytes or slots it has, of so many bytes each, and which of them are good
pub record Table : Type 0 where
  pub start : ℕ
  pub width : ℕ
  pub count : ℕ
  pub ok : ℕ → Bool

-- "the NUL, which is its only NUL": the last names byte is one, and no other is
abbrev pub ok_name_at : List ℕ → Sizes → ℕ → Bool
ok_name_at f s i =
    when eqb (i + 1) s.names then not (not_nul_at f (header_size + i)) else not_nul_at f (header_size + i)

-- a boolean, or behind them the pad byte, which is 0
abbrev pub ok_boolean_or_pad_at : List ℕ → Sizes → ℕ → Bool
ok_boolean_or_pad_at f s i =
    when ltb i s.booleans then ok_boolean_at f s i else eqb (get_or f (booleans_at s + i) 0) 0

-- "4 names; 5 boolean or pad byte; 6 number slot; 7 string slot"
abbrev pub table_of : List ℕ → Sizes → ℕ → Table
table_of f s n =
    when eqb n 4 then record { start = header_size; width = 1; count = s.names; ok = ok_name_at f s }
    else when eqb n 5 then
    record { start = booleans_at s; width = 1; count = s.booleans + pad_of s; ok = ok_boolean_or_pad_at f s }
    else when eqb n 6 then
    record { start = numbers_at s; width = number_width; count = s.numbers; ok = ok_number_at f s }
    else record { start = strings_at s; width = offset_width; count = s.strings; ok = ok_string_at f s }

-- ---- what a position is

-- at position p of the file stands the first byte or slot of the table that is bad, whole
pub record FirstBad (f : List ℕ) (t : Table) (p : ℕ) : Type 0 where
  pub index : ℕ
  pub position : p ≡ t.start + t.width * index
  pub inside : index < t.count
  pub lies : p + t.width ≤ length f
  pub bad : t.ok index ≡ false
  pub before : (j : ℕ) → j < index → t.ok j ≡ true

-- what a file's refusal gives: 1 to 3 nothing, 4 to 7 a position
pub data Values (f : List ℕ) (n : ℕ) (v : List ℕ) : Type 0 where
  none : 1 ≤ n → n ≤ 3 → v ≡ [] → Values f n v
  position : (p : ℕ) → 4 ≤ n → n ≤ 7 → v ≡ p ∷ [] → FirstBad f (table_of f (sizes_of f) n) p → Values f n v

-- what merging's refusal gives: in an edition that is not too large, of a file which one it was, then what reading that
-- file gives; of accepted files nothing, or the merged file's length
pub data MergedValues (e : Edition) (a b : List ℕ) (n : ℕ) (v : List ℕ) : Type 0 where
  edition : ok_edition e ≡ false → n ≡ 3 → v ≡ [] → MergedValues e a b n v
  first : (w : List ℕ) → ok_edition e ≡ true → reading a ≡ refused n w → v ≡ 1 ∷ w → Values a n w
      → MergedValues e a b n v
  second : (w : List ℕ) → ok_edition e ≡ true → is_given (reading a) ≡ true → reading b ≡ refused n w → v ≡ 2 ∷ w
      → Values b n w → MergedValues e a b n v
  written : ok_edition e ≡ true → is_given (reading a) ≡ true → is_given (reading b) ≡ true
      → ((n ≡ 9) × (v ≡ [])) ⊎ ((n ≡ 8) × (v ≡ length (encode (merged e a b)) ∷ [])) → MergedValues e a b n v

pub record Positions : Type 0 where
  pub reads : (f : List ℕ) (n : ℕ) (v : List ℕ) → reading f ≡ refused n v → Values f n v
  pub opens : (e : Edition) (f : List ℕ) (n : ℕ) (v : List ℕ) → opening e f ≡ refused n v → Values f n v
  pub merges : (e : Edition) (a b : List ℕ) (room n : ℕ) (v : List ℕ) → merging e a b room ≡ refused n v
      → MergedValues e a b n v
