-- The description that has a name: the first whose header has it; a name that no header can have.
-- Assumes nothing.
use mathlib.Core.Path.{◌≡◌, refl, sym, ap, ◌∙◌}
use mathlib.Core.Bool.{Bool, true, false, ◌||◌, not}
use mathlib.Core.List.{List, [], ◌∷◌}
use mathlib.Core.Logic.{◌⊎◌, ⊎_elim}
use Prim.Native.Nat.{ℕ, zero, suc, ◌+◌, ◌≤◌, ◌<◌, suc-le-suc}
use native.Mathlib.Nat.{not-suc-le-zero, le_of_suc-le-suc, zero-lt-suc}
use native.Mathlib.Omega.{arith}
use lib.Dec.{leb, ltb}
use lib.ListN.{length, get_or}
use borrow.Author.Tests.{leb-true, ltb-false}
use Rattle.base.specs.If.{when◌then◌else◌}
use Rattle.base.specs.Scan.{every}
use Rattle.base.proofs.IfLaws.{true_false, and_left, and_right, neither, is_false, below_or}
use Rattle.edition.specs.declared.Edition.{Edition}
use Rattle.names.specs.Lookup.{same_bytes}
use Rattle.names.proofs.LookupLaws.{same_eq}
use Rattle.text.specs.declared.ByteClass.TheVariants as C
use Rattle.text.specs.declared.TextRefusal.{TextRefusal}
use Rattle.text.specs.declared.TextRefusal.TheVariants.{Malformed, Limit}
use Rattle.text.specs.Bytes.{is_in, run_end}
use Rattle.text.specs.Heading.{alias_most, names_in, made_of, right_names, long_alias, line_ends, names_to, header_at}
use Rattle.text.specs.Describing.{Description}
use Rattle.text.specs.Building.{all_but_last, is_among, has_name, nobody, numbered, having_from, having, description_at}
use Rattle.text_laws.specs.HeadingLaws.{header_right}
use Rattle.compile_laws.specs.Listed.{Listed}
use Rattle.std.specs.Prelude.{Option, None, Some, IfSome, Result, Ok, Err}
use Rattle.use_names.specs.Having.{says_named}
use Rattle.use_names.specs.Searched.{names_of, NoneFrom, FoundFrom}

-- ---- the first that has the name

module _ (n : List ℕ) where
  having_none : (k : ℕ) (ds : List Description)
      → ((d : ℕ) → d < length ds → has_name n (description_at ds d).names ≡ false) → having_from k n ds ≡ nobody
  unfolding having_from
  having_none k [] h = refl
  having_none k (d ∷ ds) h =
      rw (h 0 (zero-lt-suc (length ds))) (having_none (suc k) ds (λ j l. h (suc j) (suc-le-suc l)))

  having_at : (k : ℕ) (ds : List Description) (d : ℕ) → d < length ds
      → ((j : ℕ) → j < d → has_name n (description_at ds j).names ≡ false)
      → has_name n (description_at ds d).names ≡ true → having_from k n ds ≡ numbered (k + d)
  unfolding having_from
  having_at k [] d l h t = absurd (not-suc-le-zero l)
  having_at k (x ∷ ds) zero l h t = let e : k + 0 ≡ k = omega arith in rw (t, e)
  having_at k (x ∷ ds) (suc d) l h t =
      let e : suc k + d ≡ k + suc d = omega arith in
      rw (h 0 (zero-lt-suc d)) (having_at (suc k) ds d (le_of_suc-le-suc l) (λ j m. h (suc j) (suc-le-suc m)) t
      ∙ ap numbered e)

-- one description more
pub none_more : (t heads commas n : List ℕ) (first d : ℕ) → NoneFrom t heads commas n first d
    → has_name n (names_of t heads commas d) ≡ false → NoneFrom t heads commas n first (d + 1)
none_more t heads commas n first d h f j l m =
    below_or j d (λ k. h j l k)
    (λ k. let e : j ≡ d = omega arith in ap (λ (j : ℕ). has_name n (names_of t heads commas j)) e ∙ f)

-- what was found is a description
pub found_below : (t heads commas : List ℕ) (count : ℕ) (n : List ℕ) (first : ℕ) (r : Option ℕ)
    → FoundFrom r t heads commas count n first → IfSome r (λ d. d < count)
found_below t heads commas count n first None f = tt
found_below t heads commas count n first (Some d) f = f.0

-- ---- a name but the last of a right header has 1 to 14 bytes

alias_some : (m : List ℕ) → made_of C.Alias m ≡ true → 1 ≤ length m
unfolding made_of
alias_some m h = leb-true 1 (length m) (and_left _ (every (λ j. is_in C.Alias (get_or m j 0)) (length m)) h)

abbrev AliasLength : List ℕ → Type 0
AliasLength n = (1 ≤ length n) × (length n ≤ alias_most)

module _ (n : List ℕ) where
  -- the first name, or one behind it
  either_length : (m : List ℕ) (rest : Bool) → (same_bytes n m || rest) ≡ true → made_of C.Alias m ≡ true
      → ltb alias_most (length m) ≡ false → (rest ≡ true → AliasLength n) → AliasLength n
  either_length m rest h a s f = by_same (same_bytes n m) refl h
    where
      by_same : (u : Bool) → same_bytes n m ≡ u → (u || rest) ≡ true → AliasLength n
      by_same false q g = f g
      by_same true q g =
          let e : length m ≡ length n = ap length (sym (same_eq n m q)) in
          let k = alias_some m a in
          let l = ltb-false alias_most (length m) s in
          (omega arith, omega arith)

  alias_length : (ns : List (List ℕ)) → right_names ns ≡ true → long_alias ns ≡ false
      → is_among n (all_but_last ns) ≡ true → AliasLength n
  unfolding right_names long_alias is_among all_but_last
  alias_length [] r s h = true_false (sym h)
  alias_length (m ∷ []) r s h = true_false (sym h)
  alias_length (m ∷ k ∷ []) r s h =
      either_length m false h (and_left (made_of C.Alias m) (made_of C.LastName k) r)
      (neither (ltb alias_most (length m)) false s).0 (λ q. true_false (sym q))
  alias_length (m ∷ k ∷ l ∷ ns) r s h =
      let p = neither (ltb alias_most (length m)) (long_alias (k ∷ l ∷ ns)) s in
      either_length m (is_among n (all_but_last (k ∷ l ∷ ns))) h
      (and_left (made_of C.Alias m) (right_names (k ∷ l ∷ ns)) r) p.0
      (alias_length (k ∷ l ∷ ns) (and_right (made_of C.Alias m) (right_names (k ∷ l ∷ ns)) r) p.1)

-- a header that is right has no long alias
header_short : (t : List ℕ) (i c : ℕ) → header_at t i ≡ Ok c → long_alias (names_in (names_to t i c)) ≡ false
unfolding header_at
header_short t i c e =
    by_tests (leb (length t) r) (right_names (names_in (names_to t i r))) (line_ends t (run_end C.Blank t (r + 1)))
    (long_alias (names_in (names_to t i r)))
    refl
    e
  where
    r : ℕ
    r = run_end C.Header t i

    clash : {A : Type 0} {w : TextRefusal} → ◌≡◌ {A = Result ℕ TextRefusal} (Err w) (Ok c) → A
    clash q = absurd (let z : ◌≡◌ {A = ℕ} 0 1 = cc in (let y : ⊥ = omega arith in y))

    by_tests : (past names ends long : Bool) → long_alias (names_in (names_to t i r)) ≡ long
        → (when past then Err Malformed else when not names then Err Malformed else when not ends then Err Malformed
        else when long then Err Limit else Ok r) ≡ Ok c
        → long_alias (names_in (names_to t i c)) ≡ false
    by_tests true names ends long q h = clash h
    by_tests false false ends long q h = clash h
    by_tests false true false long q h = clash h
    by_tests false true true true q h = clash h
    by_tests false true true false q h =
        let k : c ≡ r = cc in ap (λ (k : ℕ). long_alias (names_in (names_to t i k))) k ∙ q

-- ---- the descriptions of a text

module _ (e : Edition) (t heads commas : List ℕ) (count : ℕ) (ds : List Description)
    (listed : Listed e t heads commas count ds) (n : List ℕ) where
  names_of_lem : (d : ℕ) → d < count → has_name n (description_at ds d).names ≡ has_name n (names_of t heads commas d)
  names_of_lem d l = ap (has_name n) (listed.stands d l).names

  -- what a search from a description on finds, where none before it has the name
  pub found_having : (first : ℕ)
      → ((d : ℕ) → d < count → d < first → has_name n (names_of t heads commas d) ≡ false)
      → (r : Option ℕ) → FoundFrom r t heads commas count n first → says_named r ≡ having n ds
  found_having first before None f =
      sym (having_none n 0 ds λ d l. let m : d < count = rw listed.counted at l in
      names_of_lem d m ∙ below_or d first (λ k. before d m k) (λ k. f d k m))
  found_having first before (Some d) f =
      let l = f.0 in
      sym (having_at n 0 ds d (rw listed.counted l)
      (λ j k. let o : j < count = omega arith in
      names_of_lem j o ∙ below_or j first (λ m. before j o m) (λ m. f.1 j m k))
      (names_of_lem d l ∙ f.2) ∙ ap numbered (omega arith))

  -- no description has a name without bytes, or with more than an alias may have
  pub nobody_has : (length n ≡ 0) ⊎ (alias_most < length n) → having n ds ≡ nobody
  unfolding has_name
  nobody_has h =
      having_none n 0 ds λ d l. let m : d < count = rw listed.counted at l in
      names_of_lem d m ∙ is_false (has_name n (names_of t heads commas d)) (λ g. out d m g)
    where
      out : (d : ℕ) → d < count → has_name n (names_of t heads commas d) ≡ true → ⊥
      out d m g =
          let s = listed.stands d m in
          let i = alias_length n (names_in (names_of t heads commas d))
          (header_right t (get_or heads d 0) (get_or commas d 0) s.header).names
          (header_short t (get_or heads d 0) (get_or commas d 0) s.header) g in
          ⊎_elim (λ q. let y : ⊥ = omega arith in y) (λ q. let y : ⊥ = omega arith in y) h
