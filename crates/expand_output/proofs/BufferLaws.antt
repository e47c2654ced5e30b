-- Laws of a buffer a part of which is lent.
-- Assumes nothing.
use mathlib.Core.Path.{◌≡◌, sym, ap, ◌∙◌}
use mathlib.Core.List.{List, ◌++◌, append_assoc}
use Prim.Native.Nat.{ℕ, ◌+◌, ◌-◌, ◌≤◌}
use native.Mathlib.Omega.{arith}
use lib.ListN.{length, take, drop, take-append-drop, length-drop}
use lib.Seq.{take_at, length-take-le, drop-append-le, drop-drop}
use borrow.Rule.Slice.PartMut.{mid_of, put_mid, drop_put}
use Rattle.base.specs.Overwrite.{put_at}
use Rattle.base.proofs.OverwriteLaws.{put_front}
use Rattle.expand_output.specs.Answers.{KeptAs}

-- a part of k bytes from at on that is replaced
pub mid_put : (at k : ℕ) (b ys : List ℕ) → length ys ≡ k → put_mid at k b ys ≡ put_at b at ys
unfolding put_at
mid_put at k b ys e = rw (← e) (ap (λ (x : List ℕ). take at b ++ (ys ++ x)) (drop-drop (length ys) at b))

-- the first bytes of a buffer that holds o from its first byte on
pub front_is : (c o : List ℕ) (n : ℕ) → length o ≡ n → take n (put_at c 0 o) ≡ o
front_is c o n e = ap (take n) (put_front c o) ∙ take_at o (drop (length o) c) n e

-- a buffer's first n bytes are kept in a short one
pub kept_front : (b k ys : List ℕ) (n : ℕ) → n ≤ length b → n ≤ length k → ys ≡ take n b → KeptAs b k (put_mid 0 n k ys) n
kept_front b k ys n h l e =
    record { inside = h; room = l; held = rw e (mid_put 0 n k (take n b) (length-take-le n b h)) }

-- bytes that are put into the part of k bytes from at on, and fit
pub part_put : (at k : ℕ) (b o : List ℕ) → at + k ≤ length b → length o ≤ k
    → put_mid at k b (put_at (mid_of at k b) 0 o) ≡ put_at b at o
unfolding put_at
part_put at k b o h l =
    let d : List ℕ = drop at b in
    let f : length (take k d) ≡ k = length-take-le k d (rw (length-drop at b) (omega arith)) in
    let g : drop (length o) (take k d) ++ drop k d ≡ drop (at + length o) b =
    sym (drop-append-le (length o) (take k d) (drop k d) (omega arith)) ∙ ap (drop (length o)) (take-append-drop k d) ∙ drop-drop (length o) at b in
    ap (λ (x : List ℕ). take at b ++ (x ++ drop k d)) (put_front (take k d) o)
    ∙ ap (λ (x : List ℕ). take at b ++ x) (append_assoc o (drop (length o) (take k d)) (drop k d) ∙ ap (λ (x : List ℕ). o ++ x) g)

-- a buffer's first n bytes, put back after they were lent
pub put_back : (n : ℕ) (b p : List ℕ) → n ≤ length b → length p ≡ n → put_mid 0 n (put_mid 0 n b p) (take n b) ≡ b
put_back n b p h l =
    let z : n - 0 ≡ n = omega arith in
    let d : drop n (put_mid 0 n b p) ≡ drop n b = rw z at (drop_put 0 n b p (omega arith) h (omega arith)) in
    ap (λ (x : List ℕ). take n b ++ x) d ∙ take-append-drop n b

-- bytes that are put over a buffer whose bytes behind them are those of another
pub put_over : (b b₀ o : List ℕ) → drop (length o) b ≡ drop (length o) b₀ → put_at b 0 o ≡ put_at b₀ 0 o
put_over b b₀ o e = put_front b o ∙ ap (λ (x : List ℕ). o ++ x) e ∙ sym (put_front b₀ o)
