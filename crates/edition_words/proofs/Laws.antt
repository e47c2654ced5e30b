-- Laws that the proofs cite: three counts, the place of a comma, and words from their parts.
-- Assumes nothing.
use Rattle.std.specs.Prelude.{Option, Some, None}
use mathlib.Core.Path.{◌≡◌, refl, sym, ap, ◌∙◌}
use mathlib.Core.Bool.{Bool, true, false, ◌&&◌, not, and-false}
use mathlib.Core.List.{List, [], ◌∷◌}
use Prim.Native.Nat.{ℕ, zero, suc, ◌+◌, ◌≤◌, ◌<◌}
use native.Mathlib.Numerals.{add-one}
use native.Mathlib.Omega.{arith}
use lib.Dec.{eqb, leb}
use lib.ListN.{length, get_or, take, drop}
use borrow.Author.Tests.{eqb-true, eq-eqb, ne_eqb, leb-true, leb-false}
use Rattle.base.specs.If.{when◌then◌else◌}
use Rattle.edition.specs.declared.Edition.{Edition}
use Rattle.expansion.specs.Items.{is_digit}
use Rattle.names.specs.Names.{on_first, parted}
use Rattle.number_words.specs.Number.{are_digits, is_numeral, numeral_in}
use Rattle.edition_words.specs.Words.{count_of, counted_by, counted, numbered, edition_of, count_in, before_comma, Cut, Uncut}

-- ---- three counts

numeral_is : (s : List ℕ) (n : ℕ) → Some n ≡ count_in s → (is_numeral s ≡ true) × (n ≡ count_of s)
unfolding numeral_in
numeral_is s n e = by_test (is_numeral s) e
  where
    by_test : (a : Bool) → Some n ≡ (when a then Some (count_of s) else None) → (a ≡ true) × (n ≡ count_of s)
    by_test true e = (refl, cc)
    by_test false e = absurd (let z : ◌≡◌ {A = ℕ} 0 1 = cc in (let y : ⊥ = omega arith in y))

no_numeral : (s : List ℕ) → None ≡ count_in s → is_numeral s ≡ false
unfolding numeral_in
no_numeral s e = by_test (is_numeral s) e
  where
    by_test : (a : Bool) → None ≡ (when a then Some (count_of s) else None) → a ≡ false
    by_test true e = absurd (let z : ◌≡◌ {A = ℕ} 0 1 = cc in (let y : ⊥ = omega arith in y))
    by_test false e = refl

module _ (b n s : List ℕ) where
  pub booleans_wrong : None ≡ count_in b → None ≡ counted_by b n s
  unfolding counted_by
  booleans_wrong h = rw (no_numeral b h)

  pub numbers_wrong : None ≡ count_in n → None ≡ counted_by b n s
  unfolding counted_by
  numbers_wrong h = by_test (is_numeral b) (no_numeral n h)
    where
      by_test : (a : Bool) → is_numeral n ≡ false
          → ◌≡◌ {A = Option Edition} None (when a && (is_numeral n && is_numeral s) then
          Some (record { booleans = count_of b; numbers = count_of n; strings = count_of s }) else None)
      by_test true e = rw e
      by_test false e = refl

  pub no_strings : is_numeral s ≡ false → None ≡ counted_by b n s
  unfolding counted_by
  no_strings e = by_tests (is_numeral b) (is_numeral n)
    where
      by_tests : (a c : Bool)
          → ◌≡◌ {A = Option Edition} None (when a && (c && is_numeral s) then
          Some (record { booleans = count_of b; numbers = count_of n; strings = count_of s }) else None)
      by_tests true true = rw e
      by_tests true false = refl
      by_tests false c = refl

  pub strings_wrong : None ≡ count_in s → None ≡ counted_by b n s
  strings_wrong h = no_strings (no_numeral s h)

  pub counts_given : (x y z : ℕ) → Some x ≡ count_in b → Some y ≡ count_in n → Some z ≡ count_in s
      → Some (record { booleans = x; numbers = y; strings = z }) ≡ counted_by b n s
  unfolding counted_by
  counts_given x y z h k l =
      let p = numeral_is b x h in
      let q = numeral_is n y k in
      let r = numeral_is s z l in
      rw (p.0, q.0, r.0, p.1, q.1, r.1)

pub ruleset three_counts = (booleans_wrong, numbers_wrong, strings_wrong, counts_given)

-- ---- the first comma

-- the place i has the first comma
pub before_found : (s : List ℕ) (i : ℕ) → i < length s → get_or s i 0 ≡ 44 → ((k : ℕ) → k < i → get_or s k 0 ≡ 44 → ⊥) → i ≡ before_comma s
unfolding before_comma
before_found [] i l e h = absurd (let z : ⊥ = omega arith in z)
before_found (c ∷ s) zero l e h = rw (eq-eqb c 44 e)
before_found (c ∷ s) (suc i) l e h =
    rw (ne_eqb c 44 (h 0 (omega arith))) (ap suc (before_found s i (omega arith) e (λ k m. h (suc k) (omega arith))))

-- no place has one
pub before_none : (s : List ℕ) → ((k : ℕ) → k < length s → get_or s k 0 ≡ 44 → ⊥) → length s ≤ before_comma s
unfolding before_comma
before_none [] h = omega arith
before_none (c ∷ s) h =
    let r : length s ≤ before_comma s = before_none s (λ k m. h (suc k) (omega arith)) in
    rw (ne_eqb c 44 (h 0 (omega arith))) (omega arith)

before_most : (s : List ℕ) → before_comma s ≤ length s
unfolding before_comma
before_most [] = omega arith
before_most (c ∷ s) = by_test (eqb c 44) (before_most s)
  where
    by_test : (u : Bool) → before_comma s ≤ length s → (when u then 0 else suc (before_comma s)) ≤ suc (length s)
    by_test true h = omega arith
    by_test false h = omega arith

-- ---- a word's parts

-- the part before the first comma, and those behind it
parted_more : (s : List ℕ) → before_comma s < length s
    → parted 44 s ≡ take (before_comma s) s ∷ parted 44 (drop (before_comma s + 1) s)
unfolding parted before_comma
parted_more [] h = absurd (let z : ⊥ = omega arith in z)
parted_more (c ∷ s) h = by_test (eqb c 44) h (parted_more s)
  where
    by_test : (u : Bool) → (when u then 0 else suc (before_comma s)) < suc (length s)
        → (before_comma s < length s → parted 44 s ≡ take (before_comma s) s ∷ parted 44 (drop (before_comma s + 1) s))
        → (when u then [] ∷ parted 44 s else on_first c (parted 44 s))
        ≡ (let k : ℕ = when u then 0 else suc (before_comma s) in take k (c ∷ s) ∷ parted 44 (drop (k + 1) (c ∷ s)))
    by_test true h e = refl
    by_test false h e = rw (e (omega (arith, h)), add-one (before_comma s), add-one (suc (before_comma s)))

-- a part without a comma stands alone
parted_alone : (s : List ℕ) → length s ≤ before_comma s → parted 44 s ≡ s ∷ []
unfolding parted before_comma
parted_alone [] h = refl
parted_alone (c ∷ s) h = by_test (eqb c 44) h (parted_alone s)
  where
    by_test : (u : Bool) → suc (length s) ≤ (when u then 0 else suc (before_comma s))
        → (length s ≤ before_comma s → parted 44 s ≡ s ∷ [])
        → (when u then [] ∷ parted 44 s else on_first c (parted 44 s)) ≡ (c ∷ s) ∷ []
    by_test true h e = absurd (let z : ⊥ = omega (arith, h) in z)
    by_test false h e = rw (e (omega (arith, h)))

-- some part is there
abbrev Begun : List (List ℕ) → Type 0
Begun ns = (m : List ℕ) × (ms : List (List ℕ)) × (ns ≡ m ∷ ms)

parted_some : (s : List ℕ) → Begun (parted 44 s)
parted_some s = by_test (leb (length s) (before_comma s)) refl
  where
    by_test : (u : Bool) → leb (length s) (before_comma s) ≡ u → Begun (parted 44 s)
    by_test true e = (s, [], parted_alone s (leb-true _ _ e))
    by_test false e = (_, _, parted_more s (leb-false _ _ e))

-- a part with a comma is no count
comma_wrong : (s : List ℕ) → before_comma s < length s → are_digits s ≡ false
unfolding are_digits before_comma
comma_wrong [] h = absurd (let z : ⊥ = omega arith in z)
comma_wrong (c ∷ s) h = by_test (eqb c 44) refl h (comma_wrong s)
  where
    by_test : (u : Bool) → eqb c 44 ≡ u → (when u then 0 else suc (before_comma s)) < suc (length s)
        → (before_comma s < length s → are_digits s ≡ false) → (is_digit c && are_digits s) ≡ false
    by_test true q h e = rw (eqb-true c 44 q)
    by_test false q h e = rw (e (omega (arith, h))) (and-false (is_digit c))

-- the third part is the last, or there is no edition
counted_third : (b n t : List ℕ) → counted_by b n t ≡ counted (b ∷ (n ∷ parted 44 t))
unfolding counted
counted_third b n t = by_test (leb (length t) (before_comma t)) refl
  where
    four : (m : List ℕ) (ps : List (List ℕ)) → Begun ps → counted (b ∷ (n ∷ (m ∷ ps))) ≡ None
    four m ps r = rw r.2

    by_test : (u : Bool) → leb (length t) (before_comma t) ≡ u → counted_by b n t ≡ counted (b ∷ (n ∷ parted 44 t))
    by_test true e = rw (parted_alone t (leb-true _ _ e))
    by_test false e =
        let h : before_comma t < length t = leb-false _ _ e in
        let d : are_digits t ≡ false = comma_wrong t h in
        let w : is_numeral t ≡ false = rw d (and-false (not (eqb (length t) 0))) in
        let behind : List ℕ = drop (before_comma t + 1) t in
        rw (parted_more t h)
        (sym (no_strings b n t w) ∙ sym (four (take (before_comma t) t) (parted 44 behind) (parted_some behind)))

-- a first part, and the parts of what stands behind its comma
second_last : (b s : List ℕ) → Uncut s → None ≡ counted (b ∷ parted 44 s)
unfolding counted
second_last b s h = rw (parted_alone s h)

second_more : (b s m t : List ℕ) → Cut s m t → counted_by b m t ≡ counted (b ∷ parted 44 s)
second_more b s m t h = rw (parted_more s h.inside, ← h.before_is, ← h.behind_is) (counted_third b m t)

-- ---- words

pub word_one : (w : List ℕ) → length w ≡ 1 → numbered (get_or w 0 0) ≡ edition_of w
unfolding edition_of
word_one w e = rw (eq-eqb (length w) 1 e)

module _ (w : List ℕ) (z : length w ≡ 1 → ⊥) where
  pub word_alone : Uncut w → None ≡ edition_of w
  unfolding edition_of counted
  word_alone h = rw (ne_eqb (length w) 1 z, parted_alone w h)

  word_more : (b s : List ℕ) → Cut w b s → counted (b ∷ parted 44 s) ≡ edition_of w
  unfolding edition_of
  word_more b s h = rw (ne_eqb (length w) 1 z, parted_more w h.inside, ← h.before_is, ← h.behind_is)

  pub word_two : (b s : List ℕ) → Cut w b s → Uncut s → None ≡ edition_of w
  word_two b s h k = second_last b s k ∙ word_more b s h

  pub word_three : (b s m t : List ℕ) → Cut w b s → Cut s m t → counted_by b m t ≡ edition_of w
  word_three b s m t h k = second_more b s m t k ∙ word_more b s h

pub ruleset words = (word_one, word_alone, word_two, word_three)
