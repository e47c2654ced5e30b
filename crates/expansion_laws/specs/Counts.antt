-- How many items of a kind a string has: any count from what is left of the string on gives the same; the equations,
-- which show no count; and the most room that a string of at most 1,000 bytes needs.
-- Assumes nothing.
use Rattle.std.specs.Prelude.{◌≡◌, true, false, ◌&&◌, not, List, length, take, drop}
use Rattle.std.proofs.Math.Path.{refl}
use Rattle.std.proofs.Common.{sym, ap, ◌∙◌}
use Rattle.std.proofs.Math.Bool.{Bool}
use Prim.Native.Nat.{ℕ, zero, suc, ◌+◌, ◌-◌, ◌*◌, ◌≤◌, ◌<◌}
use Prim.Native.Char.{code}
use native.Mathlib.Omega.{arith}
use Rattle.std.proofs.Math.Dec.{eqb, leb}
use borrow.Author.Tests.{lt-ltb, le-ltb}
use Rattle.base.specs.If.{when◌then◌else◌}
use Rattle.base.proofs.IfLaws.{true_false, below_or, if_both}
use Rattle.expansion.specs.Limits.{string_most, constant_most, expansion_most}
use Rattle.expansion.specs.declared.Item.{Item}
use Rattle.expansion.specs.declared.Item.TheVariants as I
use Rattle.expansion.specs.declared.Lexed.{Lexed}
use Rattle.expansion.specs.Items.{byte_at, is_digit, is_nonzero, is_letter, argument_at, quoted_at}
use Rattle.expansion.specs.Items.{decimal, digits_end, braced_at, store_at, load_at, format_at, width_at, percent_at}
use Rattle.expansion.specs.Items.{item_at}
use Rattle.expansion.specs.Form.{class_at}
use Rattle.expansion.specs.Machine.{Passing, stops, opens, passing}
use Rattle.expansion.specs.Counting.{count_from, count_of, prints_text, room_of}
use Rattle.item_parts.proofs.Laws.{item_on, item_inside}
use Rattle.expansion_laws.specs.Passes.{passed_to, passed_behind, passed_step, passed_end}

-- 1 for an item that passes a test, else 0
abbrev pub count_one : (Item → Bool) → List ℕ → ℕ → ℕ
count_one ok s i = when ok (item_at s i).item then 1 else 0

-- the items of what is left of a string from place i on that pass a test
unfoldable pub count_of_rest : (Item → Bool) → List ℕ → ℕ → ℕ
count_of_rest ok s i = count_from ok (length s - i) s i

module _ (ok : Item → Bool) (s : List ℕ) where
  -- ---- steps with a count

  count_more : (k i : ℕ) → i < length s
      → count_from ok (suc k) s i ≡ count_one ok s i + count_from ok k s (item_at s i).next
  unfolding count_from
  count_more k i h = rw (count_from, lt-ltb i (length s) h)

  count_ended : (k i : ℕ) → length s ≤ i → count_from ok k s i ≡ 0
  unfolding count_from
  count_ended zero i h = refl
  count_ended (suc k) i h = rw (count_from, le-ltb i (length s) h)

  -- two counts that are enough
  count_same : (f g i : ℕ) → length s - i ≤ f → length s - i ≤ g → count_from ok f s i ≡ count_from ok g s i
  count_same zero g i p q = count_ended zero i (omega arith) ∙ sym (count_ended g i (omega arith))
  count_same (suc f) zero i p q = count_ended (suc f) i (omega arith) ∙ sym (count_ended zero i (omega arith))
  count_same (suc f) (suc g) i p q =
      below_or i (length s)
      (λ l.
      let on = item_on s i l in
      let again = count_same f g (item_at s i).next (omega (arith, on)) (omega (arith, on)) in
      count_more f i l ∙ ap (λ n. count_one ok s i + n) again ∙ sym (count_more g i l))
      (λ l. count_ended (suc f) i l ∙ sym (count_ended (suc g) i l))

  -- ---- the laws

  pub count_enough : (k i : ℕ) → length s - i ≤ k → count_from ok k s i ≡ count_of_rest ok s i
  unfolding count_of_rest
  count_enough k i h = count_same k (length s - i) i h (omega arith)

  pub count_start : count_of ok s ≡ count_of_rest ok s 0
  count_start = count_enough (length s) 0 (omega arith)

  -- an item
  pub count_step : (i : ℕ) → i < length s
      → count_of_rest ok s i ≡ count_one ok s i + count_of_rest ok s (item_at s i).next
  count_step i h =
      let next : ℕ = (item_at s i).next in
      sym (count_enough (suc (length s)) i (omega arith))
      ∙ count_more (length s) i h
      ∙ ap (λ n. count_one ok s i + n) (count_enough (length s) next (omega arith))

  -- the string's end
  pub count_end : (i : ℕ) → length s ≤ i → count_of_rest ok s i ≡ 0
  unfolding count_of_rest
  count_end i h = count_ended (length s - i) i h

  -- passing over items never raises it
  passed_by : (k : ℕ) (elses : Bool) (i d : ℕ) → length s - i ≤ k
      → count_of_rest ok s (passed_to elses s i d) ≤ count_of_rest ok s i
  passed_by zero elses i d h = rw (passed_end elses s i d (omega arith)) (omega arith)
  passed_by (suc k) elses i d h =
      below_or i (length s)
      (λ l.
      let on = item_on s i l in
      rw (passed_step elses s i d l)
      (by_passing (passing elses (class_at s i).class d) l
      (λ e. passed_by k elses (item_at s i).next e (omega (arith, on)))))
      (λ l. rw (passed_end elses s i d l) (omega arith))
    where
      by_passing : (n : Passing) → i < length s
          → ((e : ℕ) → count_of_rest ok s (passed_to elses s (item_at s i).next e) ≤ count_of_rest ok s
          (item_at s i).next)
          → count_of_rest ok s (passed_behind elses s (class_at s i).next n) ≤ count_of_rest ok s i
      by_passing stops l again = unfold class_at in omega (arith, count_step i l)
      by_passing (opens e) l again = unfold class_at in omega (arith, count_step i l, again e)

  pub count_passed : (elses : Bool) (i d : ℕ) → count_of_rest ok s (passed_to elses s i d) ≤ count_of_rest ok s i
  count_passed elses i d = passed_by (length s - i) elses i d (omega arith)

-- ---- `%s` has two bytes

-- an item that starts at i, if it is `%s`, has two bytes
record Two (i : ℕ) (l : Lexed) : Type 0 where
  two : prints_text l.item ≡ true → i + 2 ≤ l.next

-- an item that is not `%s`
other : {i : ℕ} {l : Lexed} → prints_text l.item ≡ false → Two i l
other e = record { two = λ t. true_false (sym t ∙ e) }

format_two : (i : ℕ) (s : List ℕ) (k : ℕ) (zeros : Bool) (width : ℕ) → Two i (format_at s k zeros width)
unfolding format_at prints_text
format_two i s k zeros width =
    if_both (Two i) (eqb (byte_at s k) (code "d")) (λ _. other refl)
    (λ _. if_both (Two i) (eqb (byte_at s k) (code "o")) (λ _. other refl)
    (λ _. if_both (Two i) (eqb (byte_at s k) (code "x")) (λ _. other refl)
    (λ _. if_both (Two i) (eqb (byte_at s k) (code "X")) (λ _. other refl) (λ _. other refl))))

width_two : (i : ℕ) (s : List ℕ) (k : ℕ) (zeros : Bool) → Two i (width_at s k zeros)
unfolding width_at prints_text
width_two i s k zeros =
    if_both (Two i) (not (is_nonzero (byte_at s k))) (λ _. other refl)
    (λ _. if_both (Two i) (is_digit (byte_at s (k + 1))) (λ _. format_two i s (k + 2) zeros _)
    (λ _. format_two i s (k + 1) zeros _))

module _ (i : ℕ) (s : List ℕ) (j : ℕ) where
  argument_two : Two i (argument_at s j)
  unfolding argument_at prints_text
  argument_two = if_both (Two i) (is_nonzero (byte_at s (j + 1))) (λ _. other refl) (λ _. other refl)

  quoted_two : Two i (quoted_at s j)
  unfolding quoted_at prints_text
  quoted_two =
      if_both (Two i) (not (eqb (byte_at s (j + 1)) 0) && eqb (byte_at s (j + 2)) (code "'")) (λ _. other refl)
      (λ _. other refl)

  braced_two : Two i (braced_at s j)
  unfolding braced_at prints_text
  braced_two =
      let e : ℕ = digits_end s (j + 1) in
      let v : ℕ = decimal 0 (take (e - (j + 1)) (drop (j + 1) s)) in
      let closed : Bool = eqb (byte_at s e) (code "}") in
      if_both (Two i) (is_digit (byte_at s (j + 1)) && (closed && leb v constant_most)) (λ _. other refl)
      (λ _. other refl)

  store_two : Two i (store_at s j)
  unfolding store_at prints_text
  store_two = if_both (Two i) (is_letter (byte_at s (j + 1))) (λ _. other refl) (λ _. other refl)

  load_two : Two i (load_at s j)
  unfolding load_at prints_text
  load_two = if_both (Two i) (is_letter (byte_at s (j + 1))) (λ _. other refl) (λ _. other refl)

  percent_two : i < j → Two i (percent_at s j)
  unfolding percent_at
  percent_two h =
      if_both (Two i) (eqb (byte_at s j) (code "p")) (λ _. argument_two)
      (λ _. if_both (Two i) (eqb (byte_at s j) (code "'")) (λ _. quoted_two)
      (λ _. if_both (Two i) (eqb (byte_at s j) (code "{")) (λ _. braced_two)
      (λ _. if_both (Two i) (eqb (byte_at s j) (code "P")) (λ _. store_two)
      (λ _. if_both (Two i) (eqb (byte_at s j) (code "g")) (λ _. load_two)
      (λ _. if_both (Two i) (eqb (byte_at s j) (code "0")) (λ _. width_two i s (j + 1) true)
      (λ _. if_both (Two i) (is_nonzero (byte_at s j)) (λ _. width_two i s j false)
      (λ _. record { two = λ _. omega arith })))))))

item_two : (s : List ℕ) (i : ℕ) → Two i (item_at s i)
unfolding item_at prints_text
item_two s i =
    if_both (Two i) (eqb (byte_at s i) 0) (λ _. other refl)
    (λ _. if_both (Two i) (eqb (byte_at s i) (code "%")) (λ _. percent_two i s (i + 1) (omega arith)) (λ _. other refl))

-- a `%s` item has two bytes, both in the string
pub text_two : (s : List ℕ) (i : ℕ) → i < length s → prints_text (item_at s i).item ≡ true
    → (i + 2 ≤ (item_at s i).next) × ((item_at s i).next ≤ length s)
text_two s i h e = ((item_two s i).two e, item_inside s i h (λ w. is_wrong (rw w at e)))
  where
    is_wrong : prints_text I.Wrong ≡ true → ⊥
    is_wrong t = unfold prints_text in true_false (sym t)

-- ---- the most room

half_by : (k : ℕ) (s : List ℕ) (i : ℕ) → length s - i ≤ k → 2 * count_of_rest prints_text s i ≤ length s - i
half_by zero s i h = omega (arith, count_end prints_text s i (omega arith))
half_by (suc k) s i h =
    below_or i (length s)
    (λ l.
    let on = item_on s i l in
    by_test (prints_text (item_at s i).item) refl l (half_by k s (item_at s i).next (omega (arith, on))))
    (λ l. omega (arith, count_end prints_text s i l))
  where
    by_test : (t : Bool) → prints_text (item_at s i).item ≡ t → i < length s
        → 2 * count_of_rest prints_text s (item_at s i).next ≤ length s - (item_at s i).next
        → 2 * count_of_rest prints_text s i ≤ length s - i
    by_test true e l again =
        let c = rw e at (count_step prints_text s i l) in
        omega (arith, c, text_two s i l e)
    by_test false e l again =
        let c = rw e at (count_step prints_text s i l) in
        omega (arith, c, item_on s i l)

pub texts_half : (s : List ℕ) → 2 * count_of prints_text s ≤ length s
texts_half s = omega (arith, count_start prints_text s, half_by (length s) s 0 (omega arith))

pub room_most : (s : List ℕ) → length s ≤ string_most → room_of s ≤ expansion_most
room_most s h = omega (arith, count_start prints_text s, half_by (length s) s 0 (omega arith))
