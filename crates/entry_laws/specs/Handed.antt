-- The writer's tests of what it is handed, and the facts that they stand for.
-- Assumes nothing.
use Rattle.std.specs.Prelude.{◌≡◌, Bool, ◌||◌, not, List, length, take, drop}
use Rattle.std.proofs.Math.Path.{refl}
use Rattle.std.proofs.Math.Bool.{true, false}
use Prim.Native.Nat.{ℕ, ◌+◌, ◌≤◌, min}
use native.Mathlib.Omega.{arith}
use Rattle.std.proofs.Math.Dec.{eqb, leb}
use Rattle.std.proofs.Math.ListN.{get_or}
use Rattle.std.proofs.Common.{length-take, length-drop}
use borrow.Author.Tests.{leb-true, eqb-true, eq-eqb, le-leb}
use Rattle.base.specs.If.{when◌then◌else◌}
use Rattle.base.proofs.IfLaws.{and_left, and_right}
use Rattle.base.proofs.TabulateLaws.{length_tabulate}
use Rattle.word.specs.Nul.{NoNul}
use Rattle.edition.specs.declared.Edition.{Edition}
use Rattle.edition.specs.Edition.{ok_edition}
use Rattle.entry.specs.Limits.{short_most, content_most}
use Rattle.entry.specs.State.{State, absent, cancelled, present}
use Rattle.entry.specs.Reading.{edition_of}
use Rattle.entry.specs.Writing.{Handed, state_of, boolean_handed, number_handed, string_handed, entry_of, enough_states}
use Rattle.entry.specs.Writing.{names_fit, is_lent, number_fits, content_fits, number_fits_at, string_fits_at}
use Rattle.entry_laws.specs.Nul.{free_test, test_free}

-- what holds of the two bare states, and of the present one where the kind is 1, holds of the state handed over
pub state_has : {A : Type 0} (P : State A → Type 0) (k : ℕ) (x : A) → P absent → P cancelled → (k ≡ 1 → P (present x))
    → P (state_of k x)
unfolding state_of
state_has P k x a c p = by_tests (eqb k 0) (eqb k 1) refl
  where
    by_tests : (s t : Bool) → eqb k 1 ≡ t → P (when s then absent else when t then present x else cancelled)
    by_tests true t e = a
    by_tests false true e = p (eqb-true k 1 e)
    by_tests false false e = c

pub state_present : {A : Type 0} (k : ℕ) (x : A) → k ≡ 1 → state_of k x ≡ present x
unfolding state_of
state_present k x e = rw e

pub entry_edition : (e : Edition) (h : Handed) → edition_of (entry_of e h) ≡ e
unfolding entry_of
entry_edition e h =
    λ i. record {
      booleans = length_tabulate (boolean_handed h) e.booleans i;
      numbers = length_tabulate (number_handed h) e.numbers i;
      strings = length_tabulate (string_handed h) e.strings i;
    }

-- ---- 3: enough states

module _ (e : Edition) (h : Handed) where
  pub enough_test : ok_edition e ≡ true → e.booleans ≤ length h.boolean_kinds
      → (e.numbers ≤ length h.number_kinds) × (e.numbers ≤ length h.number_values)
      → (e.strings ≤ length h.string_kinds)
      × ((e.strings ≤ length h.string_starts) × (e.strings ≤ length h.string_lengths))
      → enough_states e h ≡ true
  unfolding enough_states
  enough_test o b n s =
      rw (
        o,
        le-leb e.booleans (length h.boolean_kinds) b,
        le-leb e.numbers (min (length h.number_kinds) (length h.number_values)) (omega arith),
        le-leb e.strings
            (min (length h.string_kinds) (min (length h.string_starts) (length h.string_lengths))) (omega arith),
      )

  pub enough_facts : enough_states e h ≡ true
      → (ok_edition e ≡ true)
      × ((e.booleans ≤ length h.boolean_kinds)
      × (((e.numbers ≤ length h.number_kinds) × (e.numbers ≤ length h.number_values))
      × ((e.strings ≤ length h.string_kinds)
      × ((e.strings ≤ length h.string_starts) × (e.strings ≤ length h.string_lengths)))))
  unfolding enough_states
  enough_facts t =
      let t₁ = and_right (ok_edition e) _ t in
      let t₂ = and_right (leb e.booleans (length h.boolean_kinds)) _ t₁ in
      let n : e.numbers ≤ min (length h.number_kinds) (length h.number_values)
      = leb-true _ _ (and_left (leb e.numbers _) _ t₂) in
      let s : e.strings ≤ min (length h.string_kinds) (min (length h.string_starts) (length h.string_lengths))
      = leb-true _ _
      (and_right (leb e.numbers (min (length h.number_kinds) (length h.number_values))) _ t₂) in (
        and_left (ok_edition e) _ t,
        (
          leb-true _ _ (and_left (leb e.booleans (length h.boolean_kinds)) _ t₁),
          ((omega arith, omega arith), (omega arith, (omega arith, omega arith))),
        ),
      )

-- ---- 4: names

pub names_test : (n : List ℕ) → (1 ≤ length n) × (length n ≤ 127) → NoNul n → names_fit n ≡ true
unfolding names_fit
names_test n l f = rw (le-leb 1 (length n) l.0, le-leb (length n) 127 l.1) (free_test n f)

pub names_facts : (n : List ℕ) → names_fit n ≡ true → ((1 ≤ length n) × (length n ≤ 127)) × NoNul n
unfolding names_fit
names_facts n t =
    let t₁ = and_right (leb 1 (length n)) _ t in (
      (leb-true _ _ (and_left (leb 1 (length n)) _ t), leb-true _ _ (and_left (leb (length n) 127) _ t₁)),
      test_free n (and_right (leb (length n) 127) _ t₁),
    )

module _ (h : Handed) (i : ℕ) where
  -- ---- 7: strings in what was lent

  pub lent_test :
      (get_or h.string_kinds i 0 ≡ 1 → get_or h.string_starts i 0 + get_or h.string_lengths i 0 ≤ length h.lent)
      → is_lent h i ≡ true
  unfolding is_lent
  lent_test f = by_kind (eqb (get_or h.string_kinds i 0) 1) refl
    where
      by_kind : (t : Bool) → eqb (get_or h.string_kinds i 0) 1 ≡ t
          → (not t || leb (get_or h.string_starts i 0 + get_or h.string_lengths i 0) (length h.lent)) ≡ true
      by_kind true e = le-leb _ _ (f (eqb-true _ _ e))
      by_kind false e = refl

  pub lent_fact : is_lent h i ≡ true → get_or h.string_kinds i 0 ≡ 1
      → get_or h.string_starts i 0 + get_or h.string_lengths i 0 ≤ length h.lent
  unfolding is_lent
  lent_fact t k = leb-true _ _ (rw (eq-eqb (get_or h.string_kinds i 0) 1 k) at t)

  -- ---- 13: limits

  pub number_test : get_or h.number_kinds i 0 ≤ 2
      → (get_or h.number_kinds i 0 ≡ 1 → get_or h.number_values i 0 ≤ short_most) → number_fits_at h i ≡ true
  unfolding number_fits_at number_fits
  number_test k v =
      rw (le-leb (get_or h.number_kinds i 0) 2 k)
      (state_has (λ s. number_fits s ≡ true) (get_or h.number_kinds i 0) (get_or h.number_values i 0) refl refl
      (λ e. le-leb _ _ (v e)))

  pub number_facts : number_fits_at h i ≡ true
      → (get_or h.number_kinds i 0 ≤ 2) × (get_or h.number_kinds i 0 ≡ 1 → get_or h.number_values i 0 ≤ short_most)
  unfolding number_fits_at number_fits
  number_facts t =
      let k = and_left (leb (get_or h.number_kinds i 0) 2) _ t in
      let v = and_right (leb (get_or h.number_kinds i 0) 2) _ t in (
        leb-true _ _ k,
        λ e. leb-true _ _ (rw (state_present (get_or h.number_kinds i 0) (get_or h.number_values i 0) e) at v),
      )

  abbrev content : List ℕ
  content = take (get_or h.string_lengths i 0) (drop (get_or h.string_starts i 0) h.lent)

  pub string_test : get_or h.string_kinds i 0 ≤ 2
      → (get_or h.string_kinds i 0 ≡ 1 → (length content ≤ content_most) × NoNul content) → string_fits_at h i ≡ true
  unfolding string_fits_at content_fits
  string_test k v =
      rw (le-leb (get_or h.string_kinds i 0) 2 k)
      (state_has (λ s. content_fits s ≡ true) (get_or h.string_kinds i 0) content refl refl
      (λ e. rw (le-leb (length content) content_most (v e).0) (free_test content (v e).1)))

  pub string_facts : string_fits_at h i ≡ true
      → (get_or h.string_kinds i 0 ≤ 2)
      × (get_or h.string_kinds i 0 ≡ 1 → (length content ≤ content_most) × NoNul content)
  unfolding string_fits_at content_fits
  string_facts t =
      let k = and_left (leb (get_or h.string_kinds i 0) 2) _ t in
      let v = and_right (leb (get_or h.string_kinds i 0) 2) _ t in (
        leb-true _ _ k,
        λ e.
            let w = rw (state_present (get_or h.string_kinds i 0) content e) at v in (
              leb-true _ _ (and_left (leb (length content) content_most) _ w),
              test_free content (and_right (leb (length content) content_most) _ w),
            ),
      )

  -- a string's length as a number and as that of its bytes; they are equal where the string is lent
  pub short_content : (get_or h.string_lengths i 0 ≤ content_most) × NoNul content
      → (length content ≤ content_most) × NoNul content
  short_content c = let s = c.0 in (rw length-take (omega arith), c.1)

  pub lent_content : get_or h.string_starts i 0 + get_or h.string_lengths i 0 ≤ length h.lent
      → (length content ≤ content_most) × NoNul content
      → (get_or h.string_lengths i 0 ≤ content_most) × NoNul content
  lent_content l c =
      let s = c.0 in
      let n : length content ≡ get_or h.string_lengths i 0 = rw (length-take, length-drop) (omega arith) in
      (omega arith, c.1)
