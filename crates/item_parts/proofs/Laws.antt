-- Laws of items for their callers: an item leads on, it ends in the string, and what it holds is within bounds.
-- Assumes nothing.
use mathlib.Core.Path.{◌≡◌, refl}
use mathlib.Core.Bool.{Bool, true, false, ◌&&◌, ◌||◌, not}
use mathlib.Core.List.{List, [], ◌∷◌}
use mathlib.Core.Logic.{◌⊎◌, inl, inr, ⊎_elim}
use Prim.Native.Nat.{ℕ, ◌+◌, ◌-◌, ◌*◌, ◌≤◌, ◌<◌}
use native.Mathlib.Omega.{arith}
use lib.Dec.{eqb, leb}
use lib.IntN.{pos}
use lib.ListN.{length, take, drop, get_or-eq_default}
use borrow.Author.Tests.{leb-true, eqb-true, eqb-false, not-false}
use Rattle.base.proofs.IfLaws.{and_left, and_right, below_or, if_both}
use Rattle.base.proofs.ScanLaws.{scan_ge}
use Rattle.base.specs.Tabulate.{Each}
use Rattle.expansion.specs.declared.Item.{Item}
use Rattle.expansion.specs.declared.Item.TheVariants as I
use Rattle.expansion.specs.declared.Base.{Base}
use Rattle.expansion.specs.declared.Lexed.{Lexed}
use Rattle.expansion.specs.Limits.{constant_most}
use Rattle.expansion.specs.Items.{byte_at, within, is_digit, is_nonzero, is_letter, lexed, wrong, singles, found, argument_at, quoted_at, decimal, digits_end, braced_at, store_at, load_at, format_at, width_at, percent_at, item_at}
use Rattle.item_parts.proofs.Cases.{within_true}

-- what an item of the string s holds
abbrev pub Holds : List ℕ → Item → Type 0
Holds s (I.Byte b) = 0 < b
Holds s (I.Argument n) = n < 9
Holds s (I.Number b z w) = w ≤ 99
Holds s I.Character = Unit
Holds s I.Text = Unit
Holds s I.Length = Unit
Holds s (I.Constant v) = (n : ℕ) × (v ≡ pos n) × (((k : ℕ) → byte_at s k ≤ 255) → n ≤ constant_most)
Holds s (I.Store c) = is_letter c ≡ true
Holds s (I.Load c) = is_letter c ≡ true
Holds s (I.Binary o) = Unit
Holds s I.Not = Unit
Holds s I.Invert = Unit
Holds s I.Increment = Unit
Holds s I.If = Unit
Holds s I.Then = Unit
Holds s I.Else = Unit
Holds s I.End = Unit
Holds s I.Wrong = Unit

-- an item of the string s that starts before j: the place behind it is j or further on, and in the string unless the item is wrong
pub record Fair (s : List ℕ) (j : ℕ) (l : Lexed) : Type 0 where
  pub on : j ≤ l.next
  pub near : l.next ≤ length s + 1
  pub inside : (l.item ≡ I.Wrong) ⊎ (l.next ≤ length s)
  pub holds : Holds s l.item

-- a place whose byte is not NUL is in the string
in_string : (s : List ℕ) (k : ℕ) → 0 < byte_at s k → k < length s
in_string s k h =
    below_or k (length s) (λ l. l) (λ l. let z : byte_at s k ≡ 0 = get_or-eq_default s 0 l in absurd (let q : ⊥ = omega arith in q))

letter_least : (c : ℕ) → is_letter c ≡ true → 0 < c
letter_least c e = by_test (within 97 122 c) refl e
  where
    by_test : (t : Bool) → within 97 122 c ≡ t → (t || within 65 90 c) ≡ true → 0 < c
    by_test true q h = omega (arith, (within_true 97 122 c q).0)
    by_test false q h = omega (arith, (within_true 65 90 c h).0)

not_zero : (c : ℕ) → eqb c 0 ≡ false → 0 < c
not_zero c e = below_or 0 c (λ l. l) (λ l. absurd (eqb-false c 0 e (omega arith)))

fair_wrong : (s : List ℕ) (j k : ℕ) → j ≤ k → k ≤ length s + 1 → Fair s j (wrong k)
fair_wrong s j k h l = record { on = h; near = l; inside = inl refl; holds = tt }

fair : (s : List ℕ) (j : ℕ) (k : Item) (m : ℕ) → j ≤ m → m ≤ length s → Holds s k → Fair s j (lexed k m)
fair s j k m h l b = record { on = h; near = omega arith; inside = inr l; holds = b }

format_fair : (s : List ℕ) (j k : ℕ) (z : Bool) (w : ℕ) → j ≤ k → k ≤ length s → w ≤ 99 → Fair s j (format_at s k z w)
unfolding format_at
format_fair s j k z w h l b =
    if_both (Fair s j) (eqb (byte_at s k) 100) (λ e. number 100 e (omega arith))
    (λ _. if_both (Fair s j) (eqb (byte_at s k) 111) (λ e. number 111 e (omega arith))
    (λ _. if_both (Fair s j) (eqb (byte_at s k) 120) (λ e. number 120 e (omega arith))
    (λ _. if_both (Fair s j) (eqb (byte_at s k) 88) (λ e. number 88 e (omega arith))
    (λ _. fair_wrong s j k h (omega arith)))))
  where
    number : {d : Base} (x : ℕ) → eqb (byte_at s k) x ≡ true → 0 < x → Fair s j (lexed (I.Number d z w) (k + 1))
    number x e q =
        let p : byte_at s k ≡ x = eqb-true (byte_at s k) x e in
        let i : k < length s = in_string s k (omega arith) in
        fair s j (I.Number _ z w) (k + 1) (omega arith) (omega arith) b

width_fair : (s : List ℕ) (j k : ℕ) (z : Bool) → j ≤ k → k ≤ length s + 1 → Fair s j (width_at s k z)
unfolding width_at
width_fair s j k z h l =
    if_both (Fair s j) (not (is_nonzero (byte_at s k))) (λ _. fair_wrong s j k h l)
    (λ e. let r = within_true 49 57 (byte_at s k) (not-false (is_nonzero (byte_at s k)) e) in
    let i : k < length s = in_string s k (omega arith) in
    if_both (Fair s j) (is_digit (byte_at s (k + 1)))
    (λ q. let p = within_true 48 57 (byte_at s (k + 1)) q in
    let o : k + 1 < length s = in_string s (k + 1) (omega arith) in
    format_fair s j (k + 2) z ((byte_at s k - 48) * 10 + (byte_at s (k + 1) - 48)) (omega arith) (omega arith) (omega arith))
    (λ _. format_fair s j (k + 1) z (byte_at s k - 48) (omega arith) (omega arith) (omega arith)))

found_holds : (s : List ℕ) (ps : List (ℕ × Item)) (x : ℕ) → Each (λ (p : ℕ × Item). Holds s p.1) ps
    → Holds s (found ps x)
unfolding found
found_holds s [] x h = tt
found_holds s (p ∷ ps) x h = if_both (Holds s) (eqb x p.0) (λ _. h.0) (λ _. found_holds s ps x h.1)

single_fair : (s : List ℕ) (j : ℕ) → j ≤ length s → Fair s j (lexed (found singles (byte_at s j)) (j + 1))
unfolding singles found
single_fair s j h =
    record {
      on = omega arith;
      near = omega arith;
      inside = below_or j (length s) (λ l. inr (omega arith)) (λ l. inl (rw (get_or-eq_default s 0 l)));
      holds = found_holds s singles (byte_at s j) (omega arith, (tt, (tt, (tt, (omega arith, (omega arith, (omega arith, (omega arith, (tt, (tt, (tt, (tt, (tt, (tt, (tt, (tt, (tt, (tt, (tt, (tt, (tt, (tt, (tt, (tt, (tt, (tt, (tt, (tt, tt))))))))))))))))))))))))))));
    }

module _ (s : List ℕ) (j : ℕ) (h : j ≤ length s) where
  argument_fair : Fair s j (argument_at s j)
  unfolding argument_at
  argument_fair =
      if_both (Fair s j) (is_nonzero (byte_at s (j + 1)))
      (λ e. let r = within_true 49 57 (byte_at s (j + 1)) e in
      let i : j + 1 < length s = in_string s (j + 1) (omega arith) in
      fair s j _ (j + 2) (omega arith) (omega arith) (omega arith))
      (λ _. fair_wrong s j j (omega arith) (omega arith))

  quoted_fair : Fair s j (quoted_at s j)
  unfolding quoted_at
  quoted_fair =
      if_both (Fair s j) (not (eqb (byte_at s (j + 1)) 0) && eqb (byte_at s (j + 2)) 39)
      (λ e. let p : byte_at s (j + 2) ≡ 39 = eqb-true (byte_at s (j + 2)) 39 (and_right (not (eqb (byte_at s (j + 1)) 0)) (eqb (byte_at s (j + 2)) 39) e) in
      let i : j + 2 < length s = in_string s (j + 2) (omega arith) in
      fair s j _ (j + 3) (omega arith) (omega arith) (byte_at s (j + 1), refl, λ b. omega (arith, b (j + 1))))
      (λ _. fair_wrong s j j (omega arith) (omega arith))

  braced_fair : Fair s j (braced_at s j)
  unfolding braced_at
  braced_fair =
      let e : ℕ = digits_end s (j + 1) in
      let v : ℕ = decimal 0 (take (e - (j + 1)) (drop (j + 1) s)) in
      if_both (Fair s j) (is_digit (byte_at s (j + 1)) && (eqb (byte_at s e) 125 && leb v constant_most))
      (λ q. let r = and_right (is_digit (byte_at s (j + 1))) (eqb (byte_at s e) 125 && leb v constant_most) q in
      let p : byte_at s e ≡ 125 = eqb-true (byte_at s e) 125 (and_left (eqb (byte_at s e) 125) (leb v constant_most) r) in
      let i : e < length s = in_string s e (omega arith) in
      let g : j + 1 ≤ e = scan_ge (λ k. is_digit (byte_at s k)) (j + 1) (length s - (j + 1)) in
      fair s j _ (e + 1) (omega arith) (omega arith) (v, refl, λ _. leb-true v constant_most (and_right (eqb (byte_at s e) 125) (leb v constant_most) r)))
      (λ _. fair_wrong s j j (omega arith) (omega arith))

  store_fair : Fair s j (store_at s j)
  unfolding store_at
  store_fair =
      if_both (Fair s j) (is_letter (byte_at s (j + 1)))
      (λ e. let i : j + 1 < length s = in_string s (j + 1) (letter_least (byte_at s (j + 1)) e) in fair s j _ (j + 2) (omega arith) (omega arith) e)
      (λ _. fair_wrong s j j (omega arith) (omega arith))

  load_fair : Fair s j (load_at s j)
  unfolding load_at
  load_fair =
      if_both (Fair s j) (is_letter (byte_at s (j + 1)))
      (λ e. let i : j + 1 < length s = in_string s (j + 1) (letter_least (byte_at s (j + 1)) e) in fair s j _ (j + 2) (omega arith) (omega arith) e)
      (λ _. fair_wrong s j j (omega arith) (omega arith))

  percent_fair : Fair s j (percent_at s j)
  unfolding percent_at
  percent_fair =
      if_both (Fair s j) (eqb (byte_at s j) 112) (λ _. argument_fair)
      (λ _. if_both (Fair s j) (eqb (byte_at s j) 39) (λ _. quoted_fair)
      (λ _. if_both (Fair s j) (eqb (byte_at s j) 123) (λ _. braced_fair)
      (λ _. if_both (Fair s j) (eqb (byte_at s j) 80) (λ _. store_fair)
      (λ _. if_both (Fair s j) (eqb (byte_at s j) 103) (λ _. load_fair)
      (λ _. if_both (Fair s j) (eqb (byte_at s j) 48) (λ _. width_fair s j (j + 1) true (omega arith) (omega arith))
      (λ _. if_both (Fair s j) (is_nonzero (byte_at s j)) (λ _. width_fair s j j false (omega arith) (omega arith))
      (λ _. single_fair s j h)))))))

-- ---- the laws

pub item_fair : (s : List ℕ) (i : ℕ) → i < length s → Fair s (i + 1) (item_at s i)
unfolding item_at
item_fair s i h =
    if_both (Fair s (i + 1)) (eqb (byte_at s i) 0) (λ _. fair_wrong s (i + 1) (i + 1) (omega arith) (omega arith))
    (λ e. if_both (Fair s (i + 1)) (eqb (byte_at s i) 37) (λ _. percent_fair s (i + 1) (omega arith))
    (λ _. fair s (i + 1) _ (i + 1) (omega arith) (omega arith) (not_zero (byte_at s i) e)))

-- an item leads on
pub item_on : (s : List ℕ) (i : ℕ) → i < length s → i < (item_at s i).next
item_on s i h = omega (arith, (item_fair s i h).on)

-- an item that is not wrong ends in the string
pub item_inside : (s : List ℕ) (i : ℕ) → i < length s → ((item_at s i).item ≡ I.Wrong → ⊥) → (item_at s i).next ≤ length s
item_inside s i h w = ⊎_elim (λ e. absurd (w e)) (λ l. l) (item_fair s i h).inside

-- what an item holds is within bounds
pub item_holds : (s : List ℕ) (i : ℕ) → i < length s → Holds s (item_at s i).item
item_holds s i h = (item_fair s i h).holds
