-- Laws of the first place that fails a test.
-- Assumes nothing.
use mathlib.Core.Path.{◌≡◌, refl, ap, ◌∙◌}
use mathlib.Core.Bool.{Bool, true, false}
use Prim.Native.Nat.{ℕ, zero, suc, ◌+◌, ◌-◌, ◌<◌, ◌≤◌}
use native.Mathlib.Nat.{not-suc-le-zero}
use native.Mathlib.Omega.{arith}
use native.Mathlib.Decide.{dec_le}
use borrow.Author.Tests.{eqb-true, eq-eqb}
use Rattle.base.specs.If.{when◌then◌else◌}
use Rattle.base.specs.Scan.{scan, every}

pub scan_pass : (ok : ℕ → Bool) (i k : ℕ) → ok i ≡ true → 0 < k → scan ok i k ≡ scan ok (i + 1) (k - 1)
unfolding scan
scan_pass ok i zero t h = absurd (not-suc-le-zero h)
scan_pass ok i (suc k) t h =
    let e : suc k - 1 ≡ k = omega arith in
    let e' : i + 1 ≡ suc i = omega arith in
    rw (t, e, e')

pub scan_stop : (ok : ℕ → Bool) (i k : ℕ) → ok i ≡ false → 0 < k → scan ok i k ≡ i
unfolding scan
scan_stop ok i zero t h = refl
scan_stop ok i (suc k) t h = rw t

pub scan_all : (ok : ℕ → Bool) (i k : ℕ) → ((j : ℕ) → i ≤ j → j < i + k → ok j ≡ true) → scan ok i k ≡ i + k
unfolding scan
scan_all ok i zero h = omega arith
scan_all ok i (suc k) h =
    rw (h i (omega arith) (omega arith)) (scan_all ok (suc i) k (λ j l r. h j (omega arith) (omega arith)) ∙ omega arith)

pub scan_ge : (ok : ℕ → Bool) (i k : ℕ) → i ≤ scan ok i k
unfolding scan
scan_ge ok i zero = omega arith
scan_ge ok i (suc k) = by_test (ok i) (scan_ge ok (suc i) k)
  where
    by_test : (b : Bool) → suc i ≤ scan ok (suc i) k → i ≤ (when b then scan ok (suc i) k else i)
    by_test true h = omega arith
    by_test false h = omega arith

pub scan_le : (ok : ℕ → Bool) (i k : ℕ) → scan ok i k ≤ i + k
unfolding scan
scan_le ok i zero = omega arith
scan_le ok i (suc k) = by_test (ok i) (scan_le ok (suc i) k)
  where
    by_test : (b : Bool) → scan ok (suc i) k ≤ suc i + k → (when b then scan ok (suc i) k else i) ≤ i + suc k
    by_test true h = omega arith
    by_test false h = omega arith

-- each place before it passes
pub scan_before : (ok : ℕ → Bool) (i k j : ℕ) → i ≤ j → j < scan ok i k → ok j ≡ true
unfolding scan
scan_before ok i zero j l h = absurd (let z : ⊥ = omega arith in z)
scan_before ok i (suc k) j l h = by_test (ok i) refl h (λ m g. scan_before ok (suc i) k j m g)
  where
    by_test : (b : Bool) → ok i ≡ b → j < (when b then scan ok (suc i) k else i) → (suc i ≤ j → j < scan ok (suc i) k → ok j ≡ true) → ok j ≡ true
    by_test false e h' ih = absurd (let z : ⊥ = omega arith in z)
    by_test true e h' ih = elim (dec_le (suc i) j) [ yes m ↦ ih m h' | no m ↦ (let q : j ≡ i = omega arith in rw q e) ]

-- it fails the test where it lies below the end
pub scan_fails : (ok : ℕ → Bool) (i k : ℕ) → scan ok i k < i + k → ok (scan ok i k) ≡ false
unfolding scan
scan_fails ok i zero h = absurd (let z : ⊥ = omega arith in z)
scan_fails ok i (suc k) h = by_test (ok i) refl h (λ g. scan_fails ok (suc i) k g)
  where
    by_test : (b : Bool) → ok i ≡ b → (when b then scan ok (suc i) k else i) < i + suc k → (scan ok (suc i) k < suc i + k → ok (scan ok (suc i) k) ≡ false)
        → ok (when b then scan ok (suc i) k else i) ≡ false
    by_test false e h' ih = e
    by_test true e h' ih = ih (omega arith)

-- two tests that agree at the places give the same place
pub scan_ext : (p q : ℕ → Bool) (i k : ℕ) → ((j : ℕ) → i ≤ j → j < i + k → p j ≡ q j) → scan p i k ≡ scan q i k
unfolding scan
scan_ext p q i zero h = refl
scan_ext p q i (suc k) h =
    rw (h i (omega arith) (omega arith), scan_ext p q (suc i) k (λ j l r. h j (omega arith) (omega arith)))

pub every_at : (ok : ℕ → Bool) (n i : ℕ) → every ok n ≡ true → i < n → ok i ≡ true
every_at ok n i e h = scan_before ok 0 n i (omega arith) (rw (eqb-true (scan ok 0 n) n e) h)

pub every_all : (ok : ℕ → Bool) (n : ℕ) → ((i : ℕ) → i < n → ok i ≡ true) → every ok n ≡ true
every_all ok n h = eq-eqb _ _ (scan_all ok 0 n (λ j l r. h j (omega arith)) ∙ omega arith)

pub scan_step : (ok : ℕ → Bool) (i e : ℕ) → ok i ≡ true → i < e → scan ok i (e - i) ≡ scan ok (i + 1) (e - (i + 1))
scan_step ok i e t h = scan_pass ok i (e - i) t (omega arith) ∙ ap (scan ok (i + 1)) (omega arith)

pub scan_hit : (ok : ℕ → Bool) (i e : ℕ) → ok i ≡ false → i < e → scan ok i (e - i) ≡ i
scan_hit ok i e t h = scan_stop ok i (e - i) t (omega arith)

pub scan_end : (ok : ℕ → Bool) (i e : ℕ) → e ≤ i → scan ok i (e - i) ≡ i
unfolding scan
scan_end ok i e h = let z : e - i ≡ 0 = omega arith in rw z

pub scan_start : (ok : ℕ → Bool) (n : ℕ) → scan ok 0 n ≡ scan ok 0 (n - 0)
scan_start ok n = ap (scan ok 0) (omega arith)
