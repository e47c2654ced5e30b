-- Laws of bytes as they are shown.
-- Assumes nothing.
use mathlib.Core.Path.{◌≡◌, refl, sym, ap, ◌∙◌}
use mathlib.Core.Bool.{Bool, true, false}
use mathlib.Core.List.{List, [], ◌∷◌, ◌++◌, append_assoc, append-nil}
use Prim.Native.Nat.{ℕ, ◌+◌, ◌*◌, ◌≤◌, ◌<◌}
use native.Mathlib.Omega.{arith}
use native.Mathlib.Numerals.{add-one}
use lib.ListN.{length, get_or, set, take}
use lib.Seq.{take-suc, take-length}
use Rattle.base.specs.If.{when◌then◌else◌}
use Rattle.base.specs.Overwrite.{put_at}
use Rattle.base.proofs.OverwriteLaws.{put_set}
use Rattle.shown.specs.Puts.{Puts}
use Rattle.shown.proofs.PutsLaws.{puts_none, puts_then}
use Rattle.shown.specs.Shown.{is_plain, octal, shown_byte, shown}

most_by : (c : ℕ) (t : Bool) → length (when t then c ∷ [] else octal c) ≤ 4
unfolding octal
most_by c true = omega arith
most_by c false = omega arith

shown_most : (least c : ℕ) → length (shown_byte least c) ≤ 4
unfolding shown_byte
shown_most least c = most_by c (is_plain least c)

-- a byte is put as it is shown
byte_put : (b b' : List ℕ) (at least c : ℕ) (xs : List ℕ) (end : ℕ) → shown_byte least c ≡ xs → b' ≡ put_at b at xs → end ≡ at + length xs
    → Puts b b' at (shown_byte least c) 4 end
byte_put b b' at least c xs end e p q =
    let m : length xs ≤ 4 = rw e at (shown_most least c) in
    rw e (record { buffer = p; behind = q; few = omega arith })

pub put_plain : (b : List ℕ) (at least c : ℕ) → at < length b → is_plain least c ≡ true → Puts b (set b at c) at (shown_byte least c) 4 (at + 1)
unfolding shown_byte
put_plain b at least c h e = byte_put b (set b at c) at least c (c ∷ []) (at + 1) (rw e) (put_set b at c h) refl

pub put_other : (b b' : List ℕ) (at least c : ℕ) → is_plain least c ≡ false → b' ≡ put_at b at (octal c) → Puts b b' at (shown_byte least c) 4 (at + 4)
unfolding shown_byte octal
put_other b b' at least c e h = byte_put b b' at least c (octal c) (at + 4) (rw e) h refl

shown_append : (least : ℕ) (s t : List ℕ) → shown least (s ++ t) ≡ shown least s ++ shown least t
unfolding shown
shown_append least [] t = refl
shown_append least (c ∷ s) t = ap (λ (x : List ℕ). shown_byte least c ++ x) (shown_append least s t) ∙ sym (append_assoc (shown_byte least c) (shown least s) (shown least t))

shown_one : (least c : ℕ) → shown least (c ∷ []) ≡ shown_byte least c
unfolding shown
shown_one least c = append-nil (shown_byte least c)

shown_next : (least : ℕ) (s : List ℕ) (i : ℕ) → i < length s → shown least (take (i + 1) s) ≡ shown least (take i s) ++ shown_byte least (get_or s i 0)
shown_next least s i h =
    let m : take (i + 1) s ≡ take i s ++ (get_or s i 0 ∷ []) = ap (λ (k : ℕ). take k s) (add-one i) ∙ take-suc s i 0 h in
    ap (shown least) m ∙ shown_append least (take i s) (get_or s i 0 ∷ []) ∙ ap (λ (x : List ℕ). shown least (take i s) ++ x) (shown_one least (get_or s i 0))

-- the first i bytes of s are put as they are shown
abbrev pub Shows : (least : ℕ) (s b₀ b : List ℕ) (at i end : ℕ) → Type 0
Shows least s b₀ b at i end = Puts b₀ b at (shown least (take i s)) (4 * i) end

pub shows_start : (least : ℕ) (s b : List ℕ) (at : ℕ) → Shows least s b b at 0 at
unfolding shown
shows_start least s b at = puts_none b at

pub shows_next : (least : ℕ) (s b₀ b b' : List ℕ) (at i end end' : ℕ) → at + 4 * length s ≤ length b₀ → i < length s → Shows least s b₀ b at i end
    → Puts b b' end (shown_byte least (get_or s i 0)) 4 end' → Shows least s b₀ b' at (i + 1) end'
shows_next least s b₀ b b' at i end end' h l w p =
    let m : 4 * (i + 1) ≡ 4 * i + 4 = omega arith in
    rw (shown_next least s i l, m) (puts_then w p (omega arith))

pub shows_end : (least : ℕ) (s b₀ b : List ℕ) (at i end : ℕ) → i ≡ length s → Shows least s b₀ b at i end → Puts b₀ b at (shown least s) (4 * length s) end
shows_end least s b₀ b at i end e w = rw (e, take-length s) at w
