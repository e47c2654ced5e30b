-- Demand 2 for compiled files, over the definition that the call's contract names.
-- Assumes nothing.
use Rattle.std.specs.Prelude.{◌≡◌, refl, true, not, List, [], ◌∷◌, ℕ, ◌≤◌, leb, length}
use Rattle.std.proofs.Common.{sym, leb-true, le-leb}
use Rattle.base.specs.If.{when◌then◌else◌}
use Rattle.base.specs.Answer.{Answer, refused, gives}
use Rattle.edition.specs.declared.Edition.{Edition}
use Rattle.edition.specs.Edition.{ok_edition}
use Rattle.entry.specs.Limits.{file_most}
use Rattle.entry.specs.Reading.{Entry}
use Rattle.entry.specs.Writing.{encode}
use Rattle.entry_laws.specs.Accepted.{test_passed}
use Rattle.text.specs.Bytes.{text_most}
use Rattle.text.specs.Building.{Wanted, building_text}
use Rattle.text.specs.Compiling.{fitted, compiling}
use Rattle.text_laws.specs.JudgingLaws.{refused_gives, given_is}

-- ---- when a text is compiled

-- what a text must meet, room apart: x is the entry that its wanted description comes to. That there is one tells that
-- no names total is above its limit
pub record TextMeets (e : Edition) (t : List ℕ) (w : Wanted) (x : Entry) : Type 0 where
  pub edition : ok_edition e ≡ true
  pub short : length t ≤ text_most
  pub describes : building_text e t w ≡ gives x
  pub size : length (encode x) ≤ file_most

pub compiled_if : (e : Edition) (t : List ℕ) (w : Wanted) (room : ℕ) (x : Entry) → TextMeets e t w x
    → length (encode x) ≤ room → compiling e t w room ≡ gives (encode x)
unfolding compiling
compiled_if e t w room x m h =
    rw (
      m.edition,
      le-leb (length t) text_most m.short,
      m.describes,
      le-leb (length (encode x)) file_most m.size,
      le-leb (length (encode x)) room h,
    )

-- a compiled file's text, and the entry that its wanted description comes to
pub record CompiledFrom (e : Edition) (t : List ℕ) (w : Wanted) (room : ℕ) (f : List ℕ) : Type 0 where
  pub entry : Entry
  pub meets : TextMeets e t w entry
  pub fits : length (encode entry) ≤ room
  pub file : f ≡ encode entry

pub compiled_only_if : (e : Edition) (t : List ℕ) (w : Wanted) (room : ℕ) (f : List ℕ) → compiling e t w room ≡ gives f
    → CompiledFrom e t w room f
unfolding compiling
compiled_only_if e t w room f c =
    let a₁ : Answer (List ℕ) = fitted room (building_text e t w) in
    let a₀ : Answer (List ℕ) = when not (leb (length t) text_most) then refused 1 [] else a₁ in
    let o = test_passed (ok_edition e) 3 [] a₀ f c in
    let p = test_passed (leb (length t) text_most) 1 [] a₁ f o.1 in
    by_entry o.0 (leb-true _ _ p.0) (building_text e t w) refl p.1
  where
    by_entry : ok_edition e ≡ true → length t ≤ text_most → (a : Answer Entry) → building_text e t w ≡ a
        → fitted room a ≡ gives f → CompiledFrom e t w room f
    by_entry o l (refused n v) q u = refused_gives u
    by_entry o l (gives x) q u =
        let n : ℕ = length (encode x) in
        let a₃ : Answer (List ℕ) = when not (leb n room) then refused 8 (n ∷ []) else gives (encode x) in
        let p₂ = test_passed (leb n file_most) 9 [] a₃ f u in
        let p₃ = test_passed (leb n room) 8 (n ∷ []) (gives (encode x)) f p₂.1 in
        record {
          entry = x;
          meets = record { edition = o; short = l; describes = q; size = leb-true _ _ p₂.0 };
          fits = leb-true _ _ p₃.0;
          file = sym (given_is p₃.1);
        }
