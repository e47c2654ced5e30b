-- Passing over items: any count from what is left of the string on gives the same, and the equations, which show no
-- count.
-- Assumes nothing.
use Rattle.std.specs.Prelude.{◌≡◌, Bool, List}
use Rattle.std.proofs.Math.Path.{refl}
use Rattle.std.proofs.Common.{sym, ◌∙◌}
use Prim.Native.Nat.{ℕ, zero, suc, ◌-◌, ◌≤◌, ◌<◌}
use native.Mathlib.Omega.{arith}
use Rattle.std.proofs.Math.ListN.{length}
use borrow.Author.Tests.{lt-ltb, le-ltb}
use Rattle.base.proofs.IfLaws.{below_or}
use Rattle.expansion.specs.Form.{class_at}
use Rattle.expansion.specs.Machine.{Passing, stops, opens, passing, passed}
use Rattle.expansion_laws.specs.Forms.{class_on}

-- the place that passing leads to from i on, with d inner conditionals open
abbrev pub passed_to : Bool → List ℕ → ℕ → ℕ → ℕ
passed_to elses s i d = passed (length s) elses s i d

-- the place that passing leads to by what an item does; next is the place behind the item
abbrev pub passed_behind : Bool → List ℕ → ℕ → Passing → ℕ
passed_behind elses s next stops = next
passed_behind elses s next (opens d) = passed_to elses s next d

module _ (elses : Bool) (s : List ℕ) where
  -- ---- steps with a count

  passed_opens : (k i d d' : ℕ) → i < length s → passing elses (class_at s i).class d ≡ opens d'
      → passed (suc k) elses s i d ≡ passed k elses s (class_at s i).next d'
  unfolding passed
  passed_opens k i d d' h q = rw (passed, lt-ltb i (length s) h, q)

  passed_stops : (k i d : ℕ) → i < length s → passing elses (class_at s i).class d ≡ stops
      → passed (suc k) elses s i d ≡ (class_at s i).next
  unfolding passed
  passed_stops k i d h q = rw (passed, lt-ltb i (length s) h, q)

  passed_ended : (k i d : ℕ) → length s ≤ i → passed k elses s i d ≡ i
  unfolding passed
  passed_ended zero i d h = refl
  passed_ended (suc k) i d h = rw (passed, le-ltb i (length s) h)

  -- two counts that are enough
  passed_same : (f g i d : ℕ) → length s - i ≤ f → length s - i ≤ g → passed f elses s i d ≡ passed g elses s i d
  passed_same zero g i d p q = passed_ended zero i d (omega arith) ∙ sym (passed_ended g i d (omega arith))
  passed_same (suc f) zero i d p q = passed_ended (suc f) i d (omega arith) ∙ sym (passed_ended zero i d (omega arith))
  passed_same (suc f) (suc g) i d p q =
      below_or i (length s)
      (λ l.
      let on = class_on s i l in
      by_passing (passing elses (class_at s i).class d) refl l
      (λ e. passed_same f g (class_at s i).next e (omega (arith, on)) (omega (arith, on))))
      (λ l. passed_ended (suc f) i d l ∙ sym (passed_ended (suc g) i d l))
    where
      by_passing : (n : Passing) → passing elses (class_at s i).class d ≡ n → i < length s
          → ((e : ℕ) → passed f elses s (class_at s i).next e ≡ passed g elses s (class_at s i).next e)
          → passed (suc f) elses s i d ≡ passed (suc g) elses s i d
      by_passing (opens e) w l again = passed_opens f i d e l w ∙ again e ∙ sym (passed_opens g i d e l w)
      by_passing stops w l again = passed_stops f i d l w ∙ sym (passed_stops g i d l w)

  -- ---- the laws

  pub passed_enough : (k i d : ℕ) → length s - i ≤ k → passed k elses s i d ≡ passed_to elses s i d
  passed_enough k i d h = passed_same k (length s) i d (omega arith) (omega arith)

  -- an item
  pub passed_step : (i d : ℕ) → i < length s
      → passed_to elses s i d ≡ passed_behind elses s (class_at s i).next (passing elses (class_at s i).class d)
  passed_step i d h =
      passed_same (length s) (suc (length s)) i d (omega arith) (omega arith)
      ∙ by_passing (passing elses (class_at s i).class d) refl
    where
      by_passing : (n : Passing) → passing elses (class_at s i).class d ≡ n
          → passed (suc (length s)) elses s i d ≡ passed_behind elses s (class_at s i).next n
      by_passing (opens e) q = passed_opens (length s) i d e h q
      by_passing stops q = passed_stops (length s) i d h q

  -- the string's end
  pub passed_end : (i d : ℕ) → length s ≤ i → passed_to elses s i d ≡ i
  passed_end i d h = passed_ended (length s) i d h

  -- passing never leads back
  by_count : (k i d : ℕ) → i ≤ passed k elses s i d
  unfolding passed
  by_count zero i d = omega arith
  by_count (suc k) i d =
      below_or i (length s)
      (λ l. by_passing (passing elses (class_at s i).class d) refl l (λ e. by_count k (class_at s i).next e))
      (λ l. rw (passed_ended (suc k) i d l) (omega arith))
    where
      by_passing : (n : Passing) → passing elses (class_at s i).class d ≡ n → i < length s
          → ((e : ℕ) → (class_at s i).next ≤ passed k elses s (class_at s i).next e) → i ≤ passed (suc k) elses s i d
      by_passing (opens e) q l again = rw (passed_opens k i d e l q) (omega (arith, class_on s i l, again e))
      by_passing stops q l again = rw (passed_stops k i d l q) (omega (arith, class_on s i l))

  pub passed_on : (i d : ℕ) → i ≤ passed_to elses s i d
  passed_on i d = by_count (length s) i d
