-- Laws of putting bytes one after the other.
-- Assumes nothing.
use mathlib.Core.Path.{◌≡◌, refl, sym, ap, ◌∙◌}
use mathlib.Core.List.{List, [], ◌++◌}
use Prim.Native.Nat.{ℕ, ◌+◌, ◌≤◌}
use native.Mathlib.Omega.{arith}
use lib.ListN.{length, take, drop, length-append}
use lib.Seq.{length-take-le, take_at}
use Rattle.io.specs.Counts.{IsPrefixLen}
use Rattle.base.proofs.OverwriteLaws.{length_put, put_nil, put_front, put_run}
use Rattle.shown.specs.Puts.{Puts, Holds}

pub counted : (n : ℕ) (xs : List ℕ) → n ≤ length xs → IsPrefixLen n xs
counted n xs h = (h, sym (length-take-le n xs h))

pub puts_none : (b : List ℕ) (at : ℕ) → Puts b b at [] 0 at
puts_none b at = record { buffer = sym (put_nil b at); behind = omega arith; few = omega arith }

pub puts_length : {b₀ b : List ℕ} {at : ℕ} {xs : List ℕ} {most end : ℕ} → Puts b₀ b at xs most end → at + most ≤ length b₀ → length b ≡ length b₀
puts_length {b₀} {at = at} {xs = xs} p h = ap length p.buffer ∙ length_put b₀ at xs (omega (arith, p.behind, p.few))

pub puts_most : {b₀ b : List ℕ} {at : ℕ} {xs : List ℕ} {m n end : ℕ} → Puts b₀ b at xs m end → m ≤ n → Puts b₀ b at xs n end
puts_most p h = record { buffer = p.buffer; behind = p.behind; few = omega (arith, p.few) }

-- one run behind another
pub puts_then : {b₀ b₁ b₂ : List ℕ} {at middle end : ℕ} {xs ys : List ℕ} {m n : ℕ} → Puts b₀ b₁ at xs m middle → Puts b₁ b₂ middle ys n end
    → at + (m + n) ≤ length b₀ → Puts b₀ b₂ at (xs ++ ys) (m + n) end
puts_then {b₀} {b₁} {at = at} {middle = middle} {xs = xs} {ys = ys} p q h =
    let l : length (xs ++ ys) ≡ length xs + length ys = length-append xs ys in
    let r : middle + length ys ≤ length b₀ = omega (arith, p.few, q.behind, q.few) in
    record {
      buffer = q.buffer ∙ put_run b₀ b₁ at middle xs ys (xs ++ ys) p.buffer p.behind refl r;
      behind = omega (arith, p.behind, q.behind, l);
      few = omega (arith, p.few, q.few);
    }

-- bytes put at the buffer's start
pub puts_first : {b₀ b : List ℕ} {xs : List ℕ} {most end : ℕ} → Puts b₀ b 0 xs most end → most ≤ length b₀ → Holds end b xs
puts_first {b₀} {b} {xs} {most} {end} p h =
    let k : end ≡ length xs = omega (arith, p.behind) in
    let l : length b ≡ length b₀ = puts_length p (omega arith) in
    (ap (take end) (p.buffer ∙ put_front b₀ xs) ∙ take_at xs (drop (length xs) b₀) end (sym k), counted end b (omega (arith, p.few)))
