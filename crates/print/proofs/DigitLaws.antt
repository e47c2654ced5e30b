-- Laws of digits that are put from the last to the first.
-- Assumes nothing.
use mathlib.Core.Path.{◌≡◌, sym, ap, ◌∙◌}
use mathlib.Core.List.{List, [], ◌∷◌, ◌++◌, append_assoc, append-nil}
use Prim.Native.Nat.{ℕ, suc, ◌+◌, ◌-◌, ◌/◌, ◌%◌, ◌≤◌, ◌<◌}
use native.Mathlib.Omega.{arith}
use lib.ListN.{length, set, length-append}
use Rattle.base.specs.Overwrite.{put_at}
use Rattle.base.proofs.OverwriteLaws.{length_put, put_nil, put_before}
use Rattle.expansion.specs.Print.{digit_byte, digits}
use Rattle.expansion_laws.specs.Digits.{digits_one, digits_more}
use Rattle.expansion_laws.specs.DigitCount.{digits_some}

-- of the digits of n, those of m are still to come before place at; the others stand from there to end
pub record Placed (r a n m at end : ℕ) (b₀ b : List ℕ) : Type 0 where
  pub base : 2 ≤ r
  pub few : length (digits r a n) ≤ end
  pub room : end ≤ length b₀
  pub done : List ℕ
  pub buffer : b ≡ put_at b₀ at done
  pub split : digits r a n ≡ digits r a m ++ done
  pub places : at + length done ≡ end

pub placed_none : {r a n end : ℕ} {b : List ℕ} → 2 ≤ r → length (digits r a n) ≤ end → end ≤ length b → Placed r a n n end end b b
placed_none {r} {a} {n} {end} {b} h f l =
    record {
      base = h;
      few = f;
      room = l;
      done = [];
      buffer = sym (put_nil b end);
      split = sym (append-nil (digits r a n));
      places = omega arith;
    }

-- a digit is still to come
pub placed_some : {r a n m at end : ℕ} {b₀ b : List ℕ} → Placed r a n m at end b₀ b → 0 < at
placed_some {r} {a} {n} {m} p =
    let l : length (digits r a n) ≡ length (digits r a m) + length p.done = ap length p.split ∙ length-append (digits r a m) p.done in
    omega (arith, digits_some r a m p.base)

pub placed_length : {r a n m at end : ℕ} {b₀ b : List ℕ} → Placed r a n m at end b₀ b → length b ≡ length b₀
placed_length {at = at} {b₀ = b₀} p = ap length p.buffer ∙ length_put b₀ at p.done (omega arith)

pub placed_fits : {r a n m at end : ℕ} {b₀ b : List ℕ} → Placed r a n m at end b₀ b → at - 1 < length b
placed_fits p = omega (arith, placed_some p, placed_length p)

-- the last digit of m is put
pub placed_more : {r a n m at end : ℕ} {b₀ b : List ℕ} (x : ℕ) → Placed r a n m at end b₀ b → r ≤ m → x ≡ digit_byte a (m % r)
    → Placed r a n (m / r) (at - 1) end b₀ (set b (at - 1) x)
placed_more {r} {a} {m = m} {at = at} {b₀ = b₀} x p h e =
    let s : 0 < at = placed_some p in
    record {
      base = p.base;
      few = p.few;
      room = p.room;
      done = x ∷ p.done;
      buffer = rw p.buffer (put_before b₀ at x p.done s (omega arith));
      split = p.split ∙ rw (digits_more r a m p.base h, e) (append_assoc (digits r a (m / r)) (digit_byte a (m % r) ∷ []) p.done);
      places = omega arith;
    }

-- the first digit is put
pub placed_all : {r a n m at end : ℕ} {b₀ b : List ℕ} (x : ℕ) → Placed r a n m at end b₀ b → m < r → x ≡ digit_byte a m
    → set b (at - 1) x ≡ put_at b₀ (end - length (digits r a n)) (digits r a n)
placed_all {r} {a} {n} {m} {at} {end} {b₀} x p h e =
    let s : 0 < at = placed_some p in
    let d : digits r a n ≡ x ∷ p.done = p.split ∙ rw (digits_one r a m h, e) in
    let k : end - suc (length p.done) ≡ at - 1 = omega arith in
    rw (d, k, p.buffer) (put_before b₀ at x p.done s (omega arith))
