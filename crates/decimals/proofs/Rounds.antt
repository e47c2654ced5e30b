-- The rounds in which pairs are put, from the last to the first.
-- Assumes nothing.
use mathlib.Core.Path.{◌≡◌, sym, ap, ap₂, ◌∙◌}
use mathlib.Core.List.{List, [], ◌∷◌, ◌++◌}
use Prim.Native.Nat.{ℕ, ◌+◌, ◌-◌, ◌*◌, ◌/◌, ◌%◌, ◌^◌, ◌≤◌, ◌<◌}
use native.Mathlib.Numerals.{add-one}
use native.Mathlib.Omega.{arith}
use lib.ListN.{length, get_or, set}
use Rattle.base.specs.Overwrite.{put_at}
use Rattle.base.proofs.OverwriteLaws.{length_put, put_nil, put_before}
use Rattle.word.specs.Word.{word}
use Rattle.digit_pairs.specs.Pairs.{pairs}
use Rattle.decimals.specs.Decimals.{decimal_digits, last_pairs}
use Rattle.decimals.proofs.Laws.{below_100, pair_bytes, quotient_none, quotient_more, length_pairs}
use Rattle.decimals.proofs.Laws.{digits_even, digits_odd, highest_small}

-- after i of the rounds the last i pairs of n stand from place at to end, and left is n without them
pub record Round (n end rounds i at left : ℕ) (b₀ b : List ℕ) : Type 0 where
  pub few : i ≤ rounds
  pub fits : 2 * rounds ≤ end
  pub room : end ≤ length b₀
  pub places : at + 2 * i ≡ end
  pub left_is : left ≡ n / 100 ^ i
  pub buffer : b ≡ put_at b₀ at (last_pairs i n)

pub round_none : {n end rounds : ℕ} {b : List ℕ} → 2 * rounds ≤ end → end ≤ length b → Round n end rounds 0 end n b b
unfolding last_pairs
round_none {n} {end} {rounds} {b} f r =
    record {
      few = omega arith;
      fits = f;
      room = r;
      places = omega arith;
      left_is = sym (quotient_none n);
      buffer = sym (put_nil b end);
    }

pub round_length : {n end rounds i at left : ℕ} {b₀ b : List ℕ} → Round n end rounds i at left b₀ b → length b ≡ length b₀
round_length {n} {i = i} {at = at} {b₀ = b₀} r =
    ap length r.buffer ∙ length_put b₀ at (last_pairs i n) (omega (arith, r.places, r.room, length_pairs i n))

module _ {n end rounds i at left : ℕ} {b₀ b : List ℕ} (r : Round n end rounds i at left b₀ b) (h : i < rounds) where
  pub round_room : 2 ≤ at
  round_room = omega (arith, r.places, r.fits)

  pub round_more : (p : ℕ) → p ≡ word 2 (get_or pairs (left % 100) []) 0
      → Round n end rounds (i + 1) (at - 2) (left / 100) b₀ (set (set b (at - 2 + 1) (p / 256)) (at - 2) (p % 256))
  unfolding last_pairs
  round_more p e =
      let k : length (last_pairs i n) ≡ 2 * i = length_pairs i n in
      let two : 2 ≤ at = round_room in
      let fit : at + 2 * i ≤ length b₀ = omega (arith, r.places, r.room) in
      let a : at - 2 + 1 ≡ at - 1 = omega arith in
      let c : at - 2 ≡ at - 1 - 1 = omega arith in
      let last : set b (at - 2 + 1) (p / 256) ≡ put_at b₀ (at - 1) (p / 256 ∷ last_pairs i n) =
      rw (a, r.buffer) (put_before b₀ at (p / 256) (last_pairs i n) (omega arith) (omega arith)) in
      let both : set (set b (at - 2 + 1) (p / 256)) (at - 2) (p % 256) ≡ put_at b₀ (at - 2) (p % 256 ∷ p / 256 ∷ last_pairs i n) =
      rw (last, c) (put_before b₀ (at - 1) (p % 256) (p / 256 ∷ last_pairs i n) (omega arith) (omega arith)) in
      let pair : get_or pairs (n / 100 ^ i % 100) [] ≡ p % 256 ∷ p / 256 ∷ [] =
      ap (λ (m : ℕ). get_or pairs (m % 100) []) (sym r.left_is) ∙ (pair_bytes (left % 100) p (below_100 left) e).1 in
      let more : last_pairs (i + 1) n ≡ p % 256 ∷ p / 256 ∷ last_pairs i n =
      ap (λ (m : ℕ). last_pairs m n) (add-one i) ∙ ap (λ (x : List ℕ). x ++ last_pairs i n) pair in
      record {
        few = omega arith;
        fits = r.fits;
        room = r.room;
        places = omega (arith, r.places);
        left_is = ap (λ (m : ℕ). m / 100) r.left_is ∙ quotient_more n i ∙ ap (λ (m : ℕ). n / 100 ^ m) (sym (add-one i));
        buffer = both ∙ ap (put_at b₀ (at - 2)) (sym more);
      }

-- the last round is done
pub round_all : {n end rounds i at left : ℕ} {b₀ b : List ℕ} → Round n end rounds i at left b₀ b → rounds ≤ i
    → (left ≡ n / 100 ^ rounds) × (b ≡ put_at b₀ (end - 2 * rounds) (last_pairs rounds n))
round_all {n} {end} {rounds} {i} {at} {left} {b₀} {b} r h =
    let e : i ≡ rounds = omega (arith, r.few) in
    let p : at ≡ end - 2 * rounds = omega (arith, r.places) in (
      r.left_is ∙ ap (λ (m : ℕ). n / 100 ^ m) e,
      r.buffer ∙ ap₂ (λ (k : ℕ) (m : ℕ). put_at b₀ k (last_pairs m n)) p e,
    )

-- ---- all digits, by an even or an odd number of them

pub even_put : (b : List ℕ) (end n k : ℕ) → k ≡ length (decimal_digits n) → (k % 2 ≡ 1 → ⊥)
    → put_at b (end - 2 * (k / 2)) (last_pairs (k / 2) n) ≡ put_at b (end - k) (decimal_digits n)
even_put b end n k e h =
    let t : 2 * (k / 2) ≡ k = omega arith in
    ap₂ (λ (p : ℕ) (ds : List ℕ). put_at b p ds) (ap (λ (m : ℕ). end - m) t) (sym (digits_even (k / 2) n (omega arith)))

pub odd_put : (b : List ℕ) (end n k : ℕ) → k ≡ length (decimal_digits n) → k ≤ end → end ≤ length b → k % 2 ≡ 1
    → set (put_at b (end - 2 * (k / 2)) (last_pairs (k / 2) n)) (end - k) (48 + n / 100 ^ (k / 2)) ≡ put_at b (end - k) (decimal_digits n)
odd_put b end n k e f r h =
    let p : end - k ≡ end - 2 * (k / 2) - 1 = omega arith in
    let l : length (last_pairs (k / 2) n) ≡ 2 * (k / 2) = length_pairs (k / 2) n in
    rw (digits_odd (k / 2) n (omega arith), p)
    (put_before b (end - 2 * (k / 2)) (48 + n / 100 ^ (k / 2)) (last_pairs (k / 2) n) (omega arith) (omega arith))

pub odd_small : (n k : ℕ) → k ≡ length (decimal_digits n) → k % 2 ≡ 1 → n / 100 ^ (k / 2) < 10
odd_small n k e h = highest_small (k / 2) n (omega arith)
