-- `print::count_digits` meets its contract: limit is the radix to the count, so the number has no fewer digits, and at the end no more.
-- Assumes nothing.
use mathlib.Core.Path.{◌≡◌}
use Prim.Native.Nat.{ℕ, ◌-◌, ◌^◌, ◌≤◌}
use lib.ListN.{length}
use Rattle.expansion.specs.Print.{digits}
use Rattle.print.proofs.count_digits.Given as goal

abbrev pub invariant-loop-limit : goal.invariant-loop-limit
invariant-loop-limit l =
    (l.limit ≡ l.radix ^ l.count) × (1 ≤ l.count) × (l.count ≤ 32) × ((a : ℕ) → l.count ≤ length (digits l.radix a l.n))

abbrev pub decreases-loop-limit : goal.decreases-loop-limit
decreases-loop-limit l = 32 - l.count
