-- Demands 2 and 3 for merged files, over the definitions that the calls' contracts name. The files merged are any
-- accepted files: shared or overlapping strings, unreached table bytes, contents above 1,000 bytes, more slots than
-- the edition or fewer are all covered.
-- Assumes nothing.
use Rattle.std.specs.Prelude.{◌≡◌, true, not, List, [], ◌∷◌, ℕ, ◌≤◌, leb, length, ◌⊎◌}
use Rattle.std.proofs.Common.{sym, ◌∙◌, leb-true}
use Rattle.base.specs.If.{when◌then◌else◌}
use Rattle.edition.specs.declared.Edition.{Edition}
use Rattle.edition.specs.Edition.{ok_edition, NoMore}
use Rattle.entry.specs.Limits.{file_most}
use Rattle.base.specs.Answer.{Answer, refused, gives, and_then, is_given, number_of}
use Rattle.entry.specs.Reading.{reading}
use Rattle.entry.specs.Writing.{encode}
use Rattle.entry.specs.Merging.{merged, of_file, merging}
use Rattle.entry_laws.specs.Accepted.{test_passed}
use Rattle.entry_laws.specs.Merge.{and_then_gives, of_file_given}
use Rattle.entry_laws.specs.Demands.{ReadsAsWritten}

-- demand 2: what a merge must meet, room apart
pub record MergeMeets (e : Edition) (a b : List ℕ) : Type 0 where
  pub edition : ok_edition e ≡ true
  pub first : is_given (reading a) ≡ true
  pub second : is_given (reading b) ≡ true
  pub size : length (encode (merged e a b)) ≤ file_most

pub merged_only_if : (e : Edition) (a b : List ℕ) (room : ℕ) (f : List ℕ) → merging e a b room ≡ gives f
    → MergeMeets e a b × ((length (encode (merged e a b)) ≤ room) × (f ≡ encode (merged e a b)))
unfolding merging
merged_only_if e a b room f w =
    let n : ℕ = length (encode (merged e a b)) in
    let a₅ : Answer (List ℕ) = when not (leb n room) then refused 8 (n ∷ []) else gives (encode (merged e a b)) in
    let a₄ : Answer (List ℕ) = when not (leb n file_most) then refused 9 [] else a₅ in
    let a₃ : Answer (List ℕ) = and_then (of_file 2 (reading b)) a₄ in
    let p₁ = test_passed (ok_edition e) 3 [] (and_then (of_file 1 (reading a)) a₃) f w in
    let p₂ = and_then_gives (of_file 1 (reading a)) a₃ f p₁.1 in
    let p₃ = and_then_gives (of_file 2 (reading b)) a₄ f p₂.1 in
    let p₄ = test_passed (leb n file_most) 9 [] a₅ f p₃.1 in
    let p₅ = test_passed (leb n room) 8 (n ∷ []) (gives (encode (merged e a b))) f p₄.1 in (
      record {
        edition = p₁.0;
        first = sym (of_file_given 1 (reading a)) ∙ p₂.0;
        second = sym (of_file_given 2 (reading b)) ∙ p₃.0;
        size = leb-true _ _ p₄.0;
      },
      (leb-true _ _ p₅.0, (cc p₅.1)),
    )

-- what a reader that knows no more than the merging edition sees in a merged file is what its own merge gives
abbrev pub MergedSeen : Type 0
MergedSeen = (e r : Edition) (a b : List ℕ) (room : ℕ) (f : List ℕ) → NoMore r e → merging e a b room ≡ gives f
    → ReadsAsWritten r (merged r a b) f

-- and its own merge is refused, if at all, only for room
abbrev pub OwnMerge : Type 0
OwnMerge = (e r : Edition) (a b : List ℕ) (room own : ℕ) (f : List ℕ) → NoMore r e → merging e a b room ≡ gives f
    → (number_of (merging r a b own) ≡ 0) ⊎ (number_of (merging r a b own) ≡ 8)
