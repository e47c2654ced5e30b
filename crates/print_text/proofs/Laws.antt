-- Laws of a text that is put, a byte a turn.
-- Assumes nothing.
use mathlib.Core.Path.{◌≡◌, sym, ap, ◌∙◌}
use mathlib.Core.List.{List}
use Prim.Native.Nat.{ℕ, ◌+◌, ◌-◌, ◌≤◌, ◌<◌}
use native.Mathlib.Omega.{arith}
use lib.ListN.{length, get_or, set, take, drop, length-drop}
use lib.Seq.{length-take-le, take_all, get_or-take, get_or-drop}
use Rattle.base.specs.Overwrite.{put_at}
use Rattle.base.proofs.OverwriteLaws.{put_copy}
use Rattle.print.specs.Emit.{emitted}
use Rattle.print.proofs.EmitLaws.{emitted_fits, emitted_not}

-- n bytes of a block from start on
abbrev pub part : List ℕ → ℕ → ℕ → List ℕ
part texts start n = take n (drop start texts)

pub part_length : (texts : List ℕ) (start n : ℕ) → start + n ≤ length texts → length (part texts start n) ≡ n
part_length texts start n h =
    let e : length (drop start texts) ≡ length texts - start = length-drop start texts in
    length-take-le n (drop start texts) (omega arith)

pub part_none : (b : List ℕ) (at : ℕ) (texts : List ℕ) (start n : ℕ) → start + n ≤ length texts → length b < at + n → b ≡ emitted b at (part texts start n)
part_none b at texts start n h l =
    let e : length (part texts start n) ≡ n = part_length texts start n h in
    sym (emitted_not b at (part texts start n) (omega arith))

pub part_turn : (b₀ b : List ℕ) (at i : ℕ) (texts : List ℕ) (start n : ℕ) → start + n ≤ length texts → at + n ≤ length b₀ → i < n
    → b ≡ put_at b₀ at (take i (part texts start n)) → set b (at + i) (get_or texts (start + i) 0) ≡ put_at b₀ at (take (i + 1) (part texts start n))
part_turn b₀ b at i texts start n h r l e =
    let k : length (part texts start n) ≡ n = part_length texts start n h in
    let g : get_or texts (start + i) 0 ≡ get_or (part texts start n) i 0 = sym (get_or-take n (drop start texts) i 0 l ∙ get_or-drop start texts i 0) in
    ap (λ (v : ℕ). set b (at + i) v) g ∙ put_copy b₀ b at i (part texts start n) 0 (omega arith) (omega arith) e

pub part_all : (b₀ b : List ℕ) (at i : ℕ) (texts : List ℕ) (start n : ℕ) → start + n ≤ length texts → at + n ≤ length b₀ → n ≤ i
    → b ≡ put_at b₀ at (take i (part texts start n)) → b ≡ emitted b₀ at (part texts start n)
part_all b₀ b at i texts start n h r l e =
    let k : length (part texts start n) ≡ n = part_length texts start n h in
    e
    ∙ ap (put_at b₀ at) (take_all i (part texts start n) (omega arith))
    ∙ sym (emitted_fits b₀ at (part texts start n) (omega arith))
