-- The test of the names, by the first NUL among them but for the last byte.
-- Assumes nothing.
use mathlib.Core.Path.{◌≡◌, refl, sym, ◌∙◌}
use mathlib.Core.Bool.{Bool, true, false}
use mathlib.Core.List.{List}
use Prim.Native.Nat.{ℕ, ◌+◌, ◌-◌, ◌≤◌, ◌<◌}
use native.Mathlib.Omega.{arith}
use borrow.Author.Tests.{eq-eqb}
use Rattle.base.specs.Scan.{scan}
use Rattle.base.proofs.IfLaws.{below_or, true_false}
use Rattle.base.proofs.ScanLaws.{scan_ge, scan_le, scan_before, scan_fails}
use Rattle.word.specs.Nul.{not_nul_at, nul_from}
use Rattle.entry.specs.declared.Sizes.{Sizes}
use Rattle.entry.specs.Limits.{header_size, names_least}
use Rattle.entry.specs.Layout.{booleans_at}
use Rattle.entry.specs.Reading.{ok_names, bad_names}

-- the place before which all pass, and which fails or is the end, is the first that fails
scan_is : (ok : ℕ → Bool) (i k n : ℕ) → i ≤ n → n ≤ i + k → ((j : ℕ) → i ≤ j → j < n → ok j ≡ true)
    → (n < i + k → ok n ≡ false) → scan ok i k ≡ n
scan_is ok i k n l r pass fail =
    below_or (scan ok i k) n
    (λ h. true_false (sym (pass (scan ok i k) (scan_ge ok i k) h) ∙ scan_fails ok i k (omega arith)))
    (λ h. below_or n (scan ok i k)
    (λ g.
    let m : scan ok i k ≤ i + k = scan_le ok i k in
    true_false (sym (scan_before ok i k n l g) ∙ fail (omega arith)))
    (λ g. omega arith))

module _ (f : List ℕ) (s : Sizes) (named : names_least ≤ s.names) where
  -- the last names byte
  abbrev last : ℕ
  last = booleans_at s - 1

  pub bad_names_least : header_size ≤ bad_names f s
  unfolding bad_names
  bad_names_least = scan_ge (not_nul_at f) header_size (last - header_size)

  pub bad_names_most : bad_names f s ≤ last
  unfolding bad_names
  bad_names_most = let h = scan_le (not_nul_at f) header_size (last - header_size) in omega arith

  pub bad_names_before : (j : ℕ) → header_size ≤ j → j < bad_names f s → not_nul_at f j ≡ true
  unfolding bad_names
  bad_names_before j l h = scan_before (not_nul_at f) header_size (last - header_size) j l h

  pub bad_names_nul : bad_names f s < last → not_nul_at f (bad_names f s) ≡ false
  unfolding bad_names
  bad_names_nul h = scan_fails (not_nul_at f) header_size (last - header_size) (omega arith)

  -- where the last byte is the only NUL, the names are good
  pub names_closed : bad_names f s ≡ last → not_nul_at f last ≡ false → ok_names f s ≡ true
  unfolding ok_names
  names_closed none h =
      let p : nul_from f header_size (booleans_at s) ≡ last
      = scan_is (not_nul_at f) header_size (booleans_at s - header_size) last (omega arith) (omega arith)
      (λ j l r. bad_names_before j l (omega arith)) (λ _. h) in
      rw p (eq-eqb last last refl)
