-- Laws of the names' totals: the totals of the descriptions from a number on, as the arrays have them.
-- Assumes nothing.
use mathlib.Core.Path.{◌≡◌, refl, sym, ap, ◌∙◌}
use mathlib.Core.List.{List, [], ◌∷◌}
use Prim.Native.Nat.{ℕ, suc, ◌+◌, ◌-◌, ◌≤◌, ◌<◌}
use native.Mathlib.Omega.{arith}
use native.Mathlib.Numerals.{add-one}
use lib.Dec.{leb}
use lib.ListN.{length, get_or, drop, length-drop, drop_of_length-le}
use lib.Seq.{drop-cons, length-take-le}
use borrow.Author.Tests.{le-leb, lt-leb}
use Rattle.std.specs.Prelude.{Result, Ok, Err}
use Rattle.base.specs.If.{when◌then◌else◌}
use Rattle.base.specs.Answer.{refused}
use Rattle.edition.specs.declared.Edition.{Edition}
use Rattle.entry.specs.Limits.{given_names_most}
use Rattle.text.specs.Describing.{Description, description}
use Rattle.text.specs.Building.{description_at, totals}
use Rattle.text_laws.specs.HeadingLaws.{header_right}
use Rattle.compile_laws.specs.Listed.{head_place, Listed}
use Rattle.text.specs.declared.TextRefusal.TheVariants as R
use Rattle.text.specs.declared.TextRefused.{TextRefused}
use Rattle.descriptions.specs.Reads.{says_total}

module _ (heads commas : List ℕ) (count d : ℕ) where
  -- the totals of the descriptions before the d-th fit
  abbrev pub FitBefore : Type 0
  FitBefore =
      (e : Edition) (t : List ℕ) (ds : List Description) → Listed e t heads commas count ds
      → totals (drop d ds) ≡ totals ds

-- what the totals come to
module _ (heads commas : List ℕ) (count : ℕ) where
  abbrev pub TotalsAre : Result Unit TextRefused → Type 0
  TotalsAre r =
      (e : Edition) (t : List ℕ) (ds : List Description) → Listed e t heads commas count ds → says_total r ≡ totals ds

pub totals_start : (heads commas : List ℕ) (count : ℕ) → FitBefore heads commas count 0
totals_start heads commas count e t ds w = refl

module _ (heads commas : List ℕ) (count d : ℕ) (f : FitBefore heads commas count d) where
  pub totals_end : count ≤ d → TotalsAre heads commas count (Ok tt)
  unfolding totals
  totals_end l e t ds w =
      let n = w.counted in
      let m : length ds ≤ d = omega arith in
      let z : drop d ds ≡ [] = drop_of_length-le ds m in
      sym (ap totals z) ∙ f e t ds w

  module _ (l : d < count) where
    names_length : (e : Edition) (t : List ℕ) (ds : List Description) → Listed e t heads commas count ds
        → length (description_at ds d).names ≡ get_or commas d 0 - get_or heads d 0
    names_length e t ds w =
        let s = w.stands d l in
        let i : ℕ = get_or heads d 0 in
        let c : ℕ = get_or commas d 0 in
        let h = header_right t i c s.header in
        let h₁ = h.place in
        let h₂ = h.within in
        let k = length-drop i t in
        ap length s.names ∙ length-take-le (c - i) (drop i t) (omega arith)

    -- the totals from the d-th description on, by its own
    totals_one : (e : Edition) (t : List ℕ) (ds : List Description) → Listed e t heads commas count ds
        → totals (drop d ds)
        ≡ (when leb (get_or commas d 0 - get_or heads d 0) given_names_most then totals (drop (d + 1) ds)
        else refused 13 (head_place d (get_or heads d 0) ∷ []))
    unfolding totals
    totals_one e t ds w =
        let n = w.counted in
        let q : drop d ds ≡ description_at ds d ∷ drop (suc d) ds =
        drop-cons ds d (description 0 [] []) (omega arith) in
        ap totals q ∙ rw (names_length e t ds w, w.places d l, add-one d)

    pub totals_fit : get_or commas d 0 - get_or heads d 0 ≤ given_names_most → FitBefore heads commas count (d + 1)
    totals_fit h e t ds w =
        let q = totals_one e t ds w in
        sym (rw (le-leb (get_or commas d 0 - get_or heads d 0) given_names_most h) at q) ∙ f e t ds w

    pub totals_over : given_names_most < get_or commas d 0 - get_or heads d 0 → (p : ℕ)
        → p ≡ head_place d (get_or heads d 0) → TotalsAre heads commas count (Err (record { why = R.Limit; at = p }))
    totals_over h p r e t ds w =
        let q = totals_one e t ds w in
        ap (λ (i : ℕ). refused 13 (i ∷ [])) r
        ∙ sym (rw (lt-leb (get_or commas d 0 - get_or heads d 0) given_names_most h) at q)
        ∙ f e t ds w
