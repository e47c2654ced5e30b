-- Runs of bytes of a class.
-- Assumes nothing.
use Rattle.std.specs.Prelude.{◌≡◌, Bool, true, false, not, List, ℕ, ◌+◌, ◌-◌, ◌≤◌, ◌<◌, length, get_or}
use Rattle.std.proofs.Common.{sym, ap, ◌∙◌}
use Rattle.std.proofs.Math.Bool.{not-not}
use native.Mathlib.Omega.{arith}
use Prim.Native.Nat.{max}
use Rattle.std.proofs.Math.ListN.{get_or-eq_default}
use Rattle.base.proofs.IfLaws.{true_false, below_or}
use Rattle.base.proofs.ScanLaws.{scan_step, scan_hit, scan_end, scan_ge, scan_le, scan_before, scan_fails}
use Rattle.text.specs.declared.ByteClass.{ByteClass}
use Rattle.text.specs.Bytes.{is_in, run_end}

module _ (c : ByteClass) (t : List ℕ) (i : ℕ) where
  pub run_step : is_in c (get_or t i 0) ≡ true → i < length t → run_end c t i ≡ run_end c t (i + 1)
  unfolding run_end
  run_step h l = scan_step (λ j. is_in c (get_or t j 0)) i (length t) h l

  pub run_hit : is_in c (get_or t i 0) ≡ false → i < length t → run_end c t i ≡ i
  unfolding run_end
  run_hit h l = scan_hit (λ j. is_in c (get_or t j 0)) i (length t) h l

  pub run_end_lem : length t ≤ i → run_end c t i ≡ i
  unfolding run_end
  run_end_lem h = scan_end (λ j. is_in c (get_or t j 0)) i (length t) h

  pub run_ge : i ≤ run_end c t i
  unfolding run_end
  run_ge = scan_ge (λ j. is_in c (get_or t j 0)) i (length t - i)

  pub run_le : i ≤ length t → run_end c t i ≤ length t
  unfolding run_end
  run_le h = let l = scan_le (λ j. is_in c (get_or t j 0)) i (length t - i) in omega arith

  -- each place before the end is of the class
  pub run_before : (j : ℕ) → i ≤ j → j < run_end c t i → is_in c (get_or t j 0) ≡ true
  unfolding run_end
  run_before j = scan_before (λ j. is_in c (get_or t j 0)) i (length t - i) j

  -- the end is not, where it lies in the text
  pub run_fails : run_end c t i < length t → is_in c (get_or t (run_end c t i) 0) ≡ false
  unfolding run_end
  run_fails h =
      scan_fails (λ j. is_in c (get_or t j 0)) i (length t - i) (let l = run_ge
      in let m = scan_le (λ j. is_in c (get_or t j 0)) i (length t - i) in omega arith)

-- a loop's turns: the run from a place has been followed to i, and b is the test of the byte there
module _ (c : ByteClass) (t : List ℕ) (from i : ℕ) (e : run_end c t i ≡ run_end c t from) where
  module _ (b : Bool) (h : b ≡ is_in c (get_or t i 0)) (l : i < length t) where
    pub run_goes : not b ≡ false → run_end c t (i + 1) ≡ run_end c t from
    run_goes n = sym (run_step c t i (sym h ∙ sym (not-not b) ∙ ap not n) l) ∙ e

    pub run_stops : not b ≡ true → i ≡ run_end c t from
    run_stops n = sym (run_hit c t i (sym h ∙ sym (not-not b) ∙ ap not n) l) ∙ e

  pub run_done : length t ≤ i → i ≡ run_end c t from
  run_done l = sym (run_end_lem c t i l) ∙ e

  -- the same where the place goes no further than the text
  pub run_past : length t ≤ i → from ≤ i → (from ≤ length t → i ≤ length t) → max from (length t) ≡ run_end c t from
  run_past l g h =
      below_or from (length t)
      (λ b. let q : i ≡ length t = omega arith in let k = run_end_lem c t i l in omega arith)
      (λ b. let k = run_end_lem c t from b in omega arith)

-- a byte that passes a test which 0 fails stands in the text
pub within : (p : ℕ → Bool) → p 0 ≡ false → (t : List ℕ) (i : ℕ) → p (get_or t i 0) ≡ true → i < length t
within p z t i h = below_or i (length t) (λ l. l) (λ l. true_false (sym h ∙ ap p (get_or-eq_default t 0 l) ∙ z))
