-- Laws of output that is put where it fits.
-- Assumes nothing.
use mathlib.Core.Path.{◌≡◌, refl, sym, ap, ◌∙◌}
use mathlib.Core.Bool.{Bool, true, false}
use mathlib.Core.List.{List, [], ◌++◌}
use Prim.Native.Nat.{ℕ, ◌+◌, ◌-◌, ◌≤◌, ◌<◌}
use native.Mathlib.Omega.{arith}
use lib.Dec.{leb}
use lib.ListN.{length, length-append, take, drop, length-drop, replicate, length-replicate}
use lib.Seq.{length-take-le, drop-drop}
use borrow.Rule.Slice.PartMut.{put_mid}
use borrow.Author.Tests.{le-leb, lt-leb, leb-true}
use Rattle.base.specs.If.{when◌then◌else◌}
use Rattle.base.proofs.IfLaws.{below_or}
use Rattle.base.specs.Overwrite.{put_at}
use Rattle.base.proofs.OverwriteLaws.{length_put, put_nil, put_put}
use Rattle.print.specs.Emit.{emitted, begun}

-- a part that is filled with one byte
pub filled : (b p : List ℕ) (at count v : ℕ) → at + count ≤ length b
    → p ≡ replicate (length (take (at + count - at) (drop at b))) v
    → put_mid at (at + count - at) b p ≡ put_at b at (replicate count v)
unfolding put_at
filled b p at count v h e =
    let k : at + count - at ≡ count = omega arith in
    let f : length (take count (drop at b)) ≡ count = length-take-le count (drop at b) (rw (length-drop at b) (omega arith)) in
    let q : p ≡ replicate count v = rw (k, f) at e in
    rw (k, q, length-replicate, drop-drop count at b)

pub emitted_fits : (b : List ℕ) (at : ℕ) (xs : List ℕ) → at + length xs ≤ length b → emitted b at xs ≡ put_at b at xs
unfolding emitted
emitted_fits b at xs h = rw (le-leb _ _ h)

pub emitted_not : (b : List ℕ) (at : ℕ) (xs : List ℕ) → length b < at + length xs → emitted b at xs ≡ b
unfolding emitted
emitted_not b at xs h = rw (lt-leb _ _ h)

pub length_emitted : (b : List ℕ) (at : ℕ) (xs : List ℕ) → length (emitted b at xs) ≡ length b
unfolding emitted
length_emitted b at xs = by_test (leb (at + length xs) (length b)) refl
  where
    by_test : (t : Bool) → leb (at + length xs) (length b) ≡ t → length (when t then put_at b at xs else b) ≡ length b
    by_test true e = length_put b at xs (leb-true _ _ e)
    by_test false e = refl

-- ---- bytes that are put before others

pub begun_fits : (b : List ℕ) (at : ℕ) (xs : List ℕ) (more : ℕ) → at + (length xs + more) ≤ length b → begun b at xs more ≡ put_at b at xs
unfolding begun
begun_fits b at xs more h = rw (le-leb _ _ h)

pub begun_not : (b : List ℕ) (at : ℕ) (xs : List ℕ) (more : ℕ) → length b < at + (length xs + more) → begun b at xs more ≡ b
unfolding begun
begun_not b at xs more h = rw (lt-leb _ _ h)

pub begun_none : (b : List ℕ) (at more : ℕ) → begun b at [] more ≡ b
begun_none b at more =
    below_or (length b) (at + (0 + more)) (λ h. begun_not b at [] more h) (λ h. begun_fits b at [] more h ∙ put_nil b at)

length_begun : (b : List ℕ) (at : ℕ) (xs : List ℕ) (more : ℕ) → length (begun b at xs more) ≡ length b
length_begun b at xs more =
    below_or (length b) (at + (length xs + more)) (λ h. ap length (begun_not b at xs more h))
    (λ h. ap length (begun_fits b at xs more h) ∙ length_put b at xs (omega arith))

-- both are put where both fit
pub begun_emitted : (b : List ℕ) (at : ℕ) (xs ys : List ℕ)
    → emitted (begun b at xs (length ys)) (at + length xs) ys ≡ emitted b at (xs ++ ys)
begun_emitted b at xs ys =
    let l : length (xs ++ ys) ≡ length xs + length ys = length-append xs ys in
    let k : length (begun b at xs (length ys)) ≡ length b = length_begun b at xs (length ys) in
    below_or (length b) (at + (length xs + length ys))
    (λ h.
    emitted_not _ (at + length xs) ys (omega arith)
    ∙ begun_not b at xs (length ys) h
    ∙ sym (emitted_not b at (xs ++ ys) (omega arith)))
    (λ h.
    emitted_fits _ (at + length xs) ys (omega arith)
    ∙ ap (λ (c : List ℕ). put_at c (at + length xs) ys) (begun_fits b at xs (length ys) h)
    ∙ put_put b at xs ys (omega arith)
    ∙ sym (emitted_fits b at (xs ++ ys) (omega arith)))

-- the others are put behind them, or nothing was put
pub begun_put : (b b₁ b₂ : List ℕ) (at p : ℕ) (xs ys : List ℕ) → b₁ ≡ begun b at xs (length ys) → p ≡ at + length xs → b₂ ≡ put_at b₁ p ys
    → at + (length xs + length ys) ≤ length b₁ → b₂ ≡ emitted b at (xs ++ ys)
begun_put b b₁ b₂ at p xs ys e q f h =
    f
    ∙ ap (λ (k : ℕ). put_at b₁ k ys) q
    ∙ sym (emitted_fits b₁ (at + length xs) ys (omega arith))
    ∙ ap (λ (c : List ℕ). emitted c (at + length xs) ys) e
    ∙ begun_emitted b at xs ys

pub begun_left : (b b₁ : List ℕ) (at : ℕ) (xs ys : List ℕ) → b₁ ≡ begun b at xs (length ys) → length b₁ < at + (length xs + length ys)
    → b₁ ≡ emitted b at (xs ++ ys)
begun_left b b₁ at xs ys e h =
    sym (emitted_not b₁ (at + length xs) ys (omega arith))
    ∙ ap (λ (c : List ℕ). emitted c (at + length xs) ys) e
    ∙ begun_emitted b at xs ys
