-- The number of a file's refusal in merging.
-- Assumes nothing.
use Rattle.std.specs.Prelude.{Err}
use mathlib.Core.Path.{◌≡◌}
use mathlib.Core.List.{◌∷◌}
use Prim.Native.Nat.{ℕ, ◌+◌, ◌*◌, ◌^◌, ◌≤◌, ◌<◌}
use native.Mathlib.Omega.{arith}
use borrow.Author.Tests.{le-leb}
use Rattle.base.specs.Answer.{refused}
use Rattle.entry.specs.declared.FileRefusal.{FileRefusal}
use Rattle.entry.specs.declared.FileRefusal.TheVariants as R
use Rattle.entry.specs.declared.MergeRefusal.TheVariants as G
use Rattle.entry.specs.Says.{file_number, file_values, file_position, says_merged}
use Rattle.c_numbers.specs.Numbers.{merging_number, FileWithin}

pub file_most_lem : (r : FileRefusal) → file_number r ≤ 7
file_most_lem R.Length = omega arith
file_most_lem R.Magic = omega arith
file_most_lem R.Counts = omega arith
file_most_lem (R.Names at) = omega arith
file_most_lem (R.Boolean at) = omega arith
file_most_lem (R.Number at) = omega arith
file_most_lem (R.Slot at) = omega arith

-- which file stands in the byte below the number, the position below it
module _ (r : FileRefusal) (n : ℕ) (e : n ≡ file_number r * 2 ^ 56 + file_position r) where
  merged_file_lem : (k : ℕ) → n + k * 2 ^ 48 ≡ merging_number (λ m. m) (refused (file_number r) (k ∷ file_values r))
  unfolding merging_number
  merged_file_lem k = rw (le-leb (file_number r) 7 (file_most_lem r)) (omega arith)

  pub merged_first : n + 2 ^ 48 ≡ merging_number (λ m. m) (says_merged (Err (G.First r)))
  merged_first = let p = merged_file_lem 1 in omega arith

  pub merged_second : n + 2 * 2 ^ 48 ≡ merging_number (λ m. m) (says_merged (Err (G.Second r)))
  merged_second = merged_file_lem 2

  -- the number has 64 bits
  pub file_bits : FileWithin r → n + 2 * 2 ^ 48 < 2 ^ 64
  file_bits h = let m = file_most_lem r in omega arith
