-- The turns of the loops that read: over the open descriptions, and over a description's uses for its height.
-- Assumes nothing.
use mathlib.Core.Path.{◌≡◌, refl, sym, ap}
use mathlib.Core.Bool.{Bool, true, false, ◌||◌}
use mathlib.Core.List.{List, [], ◌∷◌}
use Prim.Native.Nat.{ℕ, zero, suc, max, ◌+◌, ◌-◌, ◌≤◌, ◌<◌}
use native.Mathlib.Omega.{arith}
use lib.Dec.{eqb}
use lib.ListN.{length, get_or, take}
use lib.Seq.{take-suc}
use native.Mathlib.Decide.{ℕ_discrete}
use Rattle.std.specs.List.{list_any}
use Rattle.std.proofs.lemmas.List.Folds.{list_any-append}
use borrow.Author.Tests.{eq-eqb, ne_eqb, lt-ltb, le-ltb}
use Rattle.uses.specs.Walk.{is_in}
use Rattle.uses.specs.Heights.{Kept, unfinished, height, higher, height_of, low}
use Rattle.use_turns.specs.Frames.{uses_from, kept_as, heights_of, open_of}
use Rattle.use_turns.proofs.FrameLaws.{uses_more, uses_none, heights_read}

-- ---- open descriptions

eqb_swap : (a b : ℕ) → eqb a b ≡ eqb b a
eqb_swap a b =
    elim (ℕ_discrete a b) [
      | yes e ↦ rw e
      | no n ↦ rw (ne_eqb a b n, ne_eqb b a (λ q. n (sym q)))
    ]

pub open_any : (stack : List ℕ) (d n : ℕ) → n ≤ length stack
    → list_any (λ (y : ℕ). eqb y d) (take n stack) ≡ is_in d (open_of stack n)
unfolding is_in open_of
open_any stack d zero l = refl
open_any stack d (suc n) l =
    rw (take-suc stack n 0 l, list_any-append (λ (y : ℕ). eqb y d) (take n stack) (get_or stack n 0 ∷ []))
    (swapped (eqb (get_or stack n 0) d) (is_in d (open_of stack n)) (open_any stack d n (omega arith))
    (eqb_swap (get_or stack n 0) d))
  where
    swapped : {a y : Bool} (x b : Bool) → a ≡ b → x ≡ y → (a || (x || false)) ≡ (y || b)
    swapped true true p q = rw (p, ← q)
    swapped true false p q = rw (p, ← q)
    swapped false true p q = rw (p, ← q)
    swapped false false p q = rw (p, ← q)

-- ---- a height: h is that of the uses read

-- the height of uses read and of those that are left
unfoldable pub joined : ℕ → Kept → Kept
joined h unfinished = unfinished
joined h (height y) = height (max h y)

joined_higher : (h h' x : ℕ) (k : Kept) → h' ≡ max h (suc x) → joined h (higher (height x) k) ≡ joined h' k
unfolding joined higher
joined_higher h h' x unfinished e = refl
joined_higher h h' x (height y) e = ap height (omega arith)

pub height_start : (k : Kept) → k ≡ joined 0 k
unfolding joined
height_start unfinished = refl
height_start (height y) = ap height (omega arith)

module _ (places targets hs : List ℕ) (i e h : ℕ) where
  abbrev left : ℕ → Kept
  left j = height_of (heights_of hs) (uses_from places targets j (e - j))

  pub height_missing : i < e → get_or targets i 0 ≡ 255 → kept_as 255 ≡ low (joined h (left i))
  unfolding joined low height_of
  height_missing l q = rw (uses_more places targets i e l, eq-eqb (get_or targets i 0) 255 q)

  module _ (l : i < e) (t : ℕ) (is-t : t ≡ get_or targets i 0) (there : t ≡ 255 → ⊥) (inside : t < length hs) where
    pub height_unfinished : 255 ≤ get_or hs t 0 → kept_as 255 ≡ low (joined h (left i))
    unfolding joined low height_of higher
    height_unfinished q =
        rw (
          uses_more places targets i e l,
          ← is-t,
          ne_eqb t 255 there,
          heights_read hs t inside,
          le-ltb (get_or hs t 0) 255 q,
        )

    pub height_more : (h' : ℕ) → get_or hs t 0 < 255 → h' ≡ max h (suc (get_or hs t 0))
        → joined h (left i) ≡ joined h' (left (i + 1))
    unfolding height_of
    height_more h' q p =
        rw (
          uses_more places targets i e l,
          ← is-t,
          ne_eqb t 255 there,
          heights_read hs t inside,
          lt-ltb (get_or hs t 0) 255 q,
        )
        (joined_higher h h' (get_or hs t 0) (left (i + 1)) p)

  pub height_end : e ≤ i → kept_as h ≡ low (joined h (left i))
  unfolding joined low height_of
  height_end l = let z : max h 0 ≡ h = omega arith in rw (uses_none places targets i e l, z)
