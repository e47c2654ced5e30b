-- The edition that a word names: `1`, `2`, or an edition's three counts parted by commas, as `21,8,138`.
-- Assumes nothing.
use Rattle.std.specs.Prelude.{◌≡◌, ◌&&◌, List, [], ◌∷◌, ℕ, suc, ◌+◌, ◌≤◌, ◌<◌, eqb, length, get_or, take, drop}
use Rattle.std.specs.Prelude.{Option, Some, None}
use Prim.Native.Char.{code}
use Rattle.base.specs.If.{when◌then◌else◌}
use Rattle.expansion.specs.Items.{decimal}
use Rattle.names.specs.Names.{first_edition, second_edition, parted}
use Rattle.number_words.specs.Number.{is_numeral, limited, numeral_in}
use Rattle.edition.specs.declared.Edition.{Edition}

-- the count that digits are: a larger count is taken as 2,147,483,649, which is too large in each list
abbrev pub count_of : List ℕ → ℕ
count_of digits = limited (decimal 0 digits)

-- the edition of three counts: one or more digits each
unfoldable pub counted_by : List ℕ → List ℕ → List ℕ → Option Edition
counted_by b n s =
    when is_numeral b && (is_numeral n && is_numeral s) then
    Some (record { booleans = count_of b; numbers = count_of n; strings = count_of s })
    else None

-- the edition of a word's parts
unfoldable pub counted : List (List ℕ) → Option Edition
counted [] = None
counted (_ ∷ []) = None
counted (_ ∷ (_ ∷ [])) = None
counted (b ∷ (n ∷ (s ∷ []))) = counted_by b n s
counted (_ ∷ (_ ∷ (_ ∷ (_ ∷ _)))) = None

-- the edition of one byte
unfoldable pub numbered : ℕ → Option Edition
numbered c =
    when eqb c (code "1") then Some first_edition
    else when eqb c (code "2") then Some second_edition
    else None

unfoldable pub edition_of : List ℕ → Option Edition
edition_of word = when eqb (length word) 1 then numbered (get_or word 0 0) else counted (parted (code ",") word)

-- ---- what the code goes by

-- a part's count, which is none where it is no numeral
abbrev pub count_in : List ℕ → Option ℕ
count_in s = numeral_in s

-- how many bytes stand before the first comma, or in all where there is none
unfoldable pub before_comma : List ℕ → ℕ
before_comma [] = 0
before_comma (c ∷ s) = when eqb c (code ",") then 0 else suc (before_comma s)

-- a word without a comma; the part before the first comma of another, and what stands behind it
abbrev pub Uncut : List ℕ → Type 0
Uncut w = length w ≤ before_comma w

pub record Cut (w before behind : List ℕ) : Type 0 where
  pub inside : before_comma w < length w
  pub before_is : before ≡ take (before_comma w) w
  pub behind_is : behind ≡ drop (before_comma w + 1) w
