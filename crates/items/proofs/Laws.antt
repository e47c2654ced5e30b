-- What is known of the bytes of a right item: each test of its definition holds.
-- Assumes nothing.
use mathlib.Core.Path.{◌≡◌, refl, sym, ap, ◌∙◌}
use mathlib.Core.Bool.{Bool, true, false, ◌&&◌, not}
use mathlib.Core.List.{List, [], ◌∷◌, ◌++◌, map}
use Prim.Native.Nat.{ℕ, ◌+◌, ◌-◌, ◌*◌, ◌≤◌, ◌<◌}
use native.Mathlib.Omega.{arith}
use lib.Dec.{eqb, leb}
use lib.IntN.{pos}
use lib.ListN.{length, take, drop, get_or-eq_default}
use borrow.Author.Tests.{eqb-true, ne_eqb}
use types.Run.{OneOf}
use Rattle.base.proofs.IfLaws.{and_right, below_or, if_both, is_false}
use Rattle.base.specs.Tabulate.{Each}
use Rattle.expansion.specs.declared.Item.{Item}
use Rattle.expansion.specs.declared.Item.TheVariants as I
use Rattle.expansion.specs.declared.Base.TheVariants.{CapitalHex}
use Rattle.expansion.specs.declared.Lexed.{Lexed}
use Rattle.expansion.specs.Limits.{constant_most}
use Rattle.expansion.specs.Items.{byte_at, is_digit, is_nonzero, is_letter, lexed, wrong, singles, found, argument_at, quoted_at, decimal, digits_end, braced_at, store_at, load_at, format_at, width_at, percent_at, item_at}
use Rattle.item_parts.specs.Classes.{other_at}
use Rattle.item_parts.specs.Right.{RightItem, ArgumentTested}
use Rattle.item_parts.proofs.Cases.{within_true, NoneOf, percent_byte, percent_other, braced_from, braced_step, braced_large, braced_close, braced_other, braced_stop, braced_past, braced_first}
use Rattle.items.specs.declared.RunItem.{RunItem}
use Rattle.items.specs.Parts.{Right, read_item, other_item, IfAt, LeftToOther}
use Rattle.items.specs.Reading.{lexed_item, TestAt, Beside, ReadAs}

-- a test that can't fail
is_true : (b : Bool) → (b ≡ false → ⊥) → b ≡ true
is_true true h = refl
is_true false h = absurd (h refl)

-- what equals a right item is right
pub right_as : {l m : Lexed} → l ≡ m → Right m → Right l
right_as e r w = r (sym (ap (λ (l : Lexed). l.item) e) ∙ w)

-- ---- a number's format

module _ (s : List ℕ) (k : ℕ) (z : Bool) (w : ℕ) (r : Right (format_at s k z w)) where
  pub format_inside : k < length s
  unfolding format_at
  format_inside =
      below_or k (length s) (λ l. l) (λ l. absurd (r (rw (get_or-eq_default s 0 l))))

  format_letter : 88 ≤ byte_at s k
  unfolding format_at
  format_letter =
      below_or (byte_at s k) 88
      (λ l. absurd (r (rw (ne_eqb (byte_at s k) 100 (omega arith), ne_eqb (byte_at s k) 111 (omega arith), ne_eqb (byte_at s k) 120 (omega arith), ne_eqb (byte_at s k) 88 (omega arith)))))
      (λ l. l)

  -- a letter that is neither d, o nor x is X
  pub format_capital : (byte_at s k ≡ 100 → ⊥) → (byte_at s k ≡ 111 → ⊥) → (byte_at s k ≡ 120 → ⊥) → lexed (I.Number CapitalHex z w) (k + 1) ≡ format_at s k z w
  unfolding format_at
  format_capital d o x =
      let d0 : eqb (byte_at s k) 100 ≡ false = ne_eqb (byte_at s k) 100 d in
      let o0 : eqb (byte_at s k) 111 ≡ false = ne_eqb (byte_at s k) 111 o in
      let x0 : eqb (byte_at s k) 120 ≡ false = ne_eqb (byte_at s k) 120 x in
      rw (d0, o0, x0, is_true (eqb (byte_at s k) 88) (λ e. r (rw (d0, o0, x0, e))))

module _ (s : List ℕ) (k : ℕ) (z : Bool) (r : Right (width_at s k z)) where
  width_nonzero : is_nonzero (byte_at s k) ≡ true
  unfolding width_at
  width_nonzero = is_true (is_nonzero (byte_at s k)) (λ e. r (rw e))

  pub width_first : (49 ≤ byte_at s k) × (byte_at s k ≤ 57)
  width_first = within_true 49 57 (byte_at s k) width_nonzero

  -- a byte of at most `9` behind the first digit is a digit: the letters of a format are larger
  width_digit : byte_at s (k + 1) ≤ 57 → is_digit (byte_at s (k + 1)) ≡ true
  unfolding width_at
  width_digit h =
      is_true (is_digit (byte_at s (k + 1)))
      (λ e. let f : Right (format_at s (k + 1) z (byte_at s k - 48)) = λ w. r (rw (width_nonzero, e) w) in
      let g : 88 ≤ byte_at s (k + 1) = format_letter s (k + 1) z (byte_at s k - 48) f in
      let q : ⊥ = omega arith in
      q)

  pub width_second : byte_at s (k + 1) ≤ 57 → (48 ≤ byte_at s (k + 1)) × (byte_at s (k + 1) ≤ 57)
  width_second h = within_true 48 57 (byte_at s (k + 1)) (width_digit h)

  pub width_inside : k + 1 < length s
  width_inside =
      below_or (k + 1) (length s) (λ l. l)
      (λ l. let e : byte_at s (k + 1) ≡ 0 = get_or-eq_default s 0 l in
      let d = width_second (omega arith) in
      absurd (let q : ⊥ = omega arith in q))

  pub width_two : byte_at s (k + 1) ≤ 57 → format_at s (k + 2) z ((byte_at s k - 48) * 10 + (byte_at s (k + 1) - 48)) ≡ width_at s k z
  unfolding width_at
  width_two h = rw (width_nonzero, width_digit h)

  pub width_one : 57 < byte_at s (k + 1) → format_at s (k + 1) z (byte_at s k - 48) ≡ width_at s k z
  unfolding width_at
  width_one h =
      let d : is_digit (byte_at s (k + 1)) ≡ false =
      is_false (is_digit (byte_at s (k + 1))) (λ e. let b = within_true 48 57 (byte_at s (k + 1)) e in let q : ⊥ = omega arith in q) in
      rw (width_nonzero, d)

module _ (s : List ℕ) (j : ℕ) (r : Right (other_at s j)) where
  pub filled_inside : j < length s
  filled_inside =
      below_or j (length s) (λ l. l) (λ l. absurd (r (rw (get_or-eq_default s 0 l))))

  pub filled_zero : byte_at s j ≡ 48 → width_at s (j + 1) true ≡ other_at s j
  filled_zero e = rw e

  pub filled_nonzero : (byte_at s j ≡ 48 → ⊥) → width_at s j false ≡ other_at s j
  filled_nonzero n =
      let z : eqb (byte_at s j) 48 ≡ false = ne_eqb (byte_at s j) 48 n in
      rw (z, is_true (is_nonzero (byte_at s j)) (λ e. r (rw (z, e))))

-- ---- `%{digits}`: the digits from i on, behind digits of value v

module _ (s : List ℕ) (j i v : ℕ) (r : Right (braced_at s j)) (e : braced_at s j ≡ braced_from s j i v) where
  braced_right : braced_from s j i v ≡ wrong j → ⊥
  braced_right w = r (ap (λ (l : Lexed). l.item) (e ∙ w))

  pub digits_inside : i < length s
  digits_inside =
      below_or i (length s) (λ l. l) (λ l. absurd (braced_right (braced_past s j i v l)))

  pub digits_value : v ≤ constant_most
  digits_value =
      below_or constant_most v (λ l. absurd (braced_right (braced_large s j i v l))) (λ l. l)

  digit : (byte_at s i ≡ 125 → ⊥) → is_digit (byte_at s i) ≡ true
  digit n =
      is_true (is_digit (byte_at s i)) (λ d. braced_right (braced_other s j i v (braced_stop s i digits_inside d) n))

  pub digits_first : (byte_at s i ≡ 125 → ⊥) → (48 ≤ byte_at s i) × (byte_at s i ≤ 57)
  digits_first n = within_true 48 57 (byte_at s i) (digit n)

  pub digits_step : (byte_at s i ≡ 125 → ⊥) → braced_at s j ≡ braced_from s j (i + 1) (v * 10 + (byte_at s i - 48))
  digits_step n = e ∙ braced_step s j i v digits_inside (digit n)

  pub digits_close : byte_at s i ≡ 125 → lexed (I.Constant (pos v)) (i + 1) ≡ braced_at s j
  digits_close c =
      let d : is_digit (byte_at s (j + 1)) ≡ true =
      is_true (is_digit (byte_at s (j + 1))) (λ f. r (ap (λ (l : Lexed). l.item) (braced_first s j f))) in
      sym (e ∙ braced_close s j i v digits_inside c d digits_value)

-- ---- variables

module _ (s : List ℕ) (j : ℕ) where
  pub store_inside : Right (store_at s j) → j + 1 < length s
  unfolding store_at
  store_inside r =
      below_or (j + 1) (length s) (λ l. l) (λ l. absurd (r (rw (get_or-eq_default s 0 l))))

  pub store_letter : Right (store_at s j) → lexed (I.Store (byte_at s (j + 1))) (j + 2) ≡ store_at s j
  unfolding store_at
  store_letter r = rw (is_true (is_letter (byte_at s (j + 1))) (λ e. r (rw e)))

  pub load_inside : Right (load_at s j) → j + 1 < length s
  unfolding load_at
  load_inside r =
      below_or (j + 1) (length s) (λ l. l) (λ l. absurd (r (rw (get_or-eq_default s 0 l))))

  pub load_letter : Right (load_at s j) → lexed (I.Load (byte_at s (j + 1))) (j + 2) ≡ load_at s j
  unfolding load_at
  load_letter r = rw (is_true (is_letter (byte_at s (j + 1))) (λ e. r (rw e)))

-- ---- the byte after `%`

pub percent_inside : (s : List ℕ) (j : ℕ) → Right (percent_at s j) → j < length s
unfolding percent_at singles found
percent_inside s j r =
    below_or j (length s) (λ l. l) (λ l. absurd (r (rw (get_or-eq_default s 0 l))))

none_map : (A B : Type 0) → (A → B) → (kss : List (List ℕ)) (x : ℕ) → NoneOf A kss x → NoneOf B kss x
none_map A B f [] x h = f h
none_map A B f (ks ∷ kss) x h =
    none_map (A × (OneOf ks x → ⊥)) (B × (OneOf ks x → ⊥)) (λ p. (f p.0, p.1)) kss x h

-- the bytes that `other_at` names: P, g, and those of singles up to ~ but for s and l
abbrev pub other_keys : List (List ℕ)
other_keys =
    (80 ∷ []) ∷ (103 ∷ []) ∷ map (λ (p : ℕ × Item). p.0 ∷ []) (take 2 singles ++ take 19 (drop 4 singles))

pub percent_left : (s : List ℕ) (j : ℕ) → LeftToOther (byte_at s j) → NoneOf Unit other_keys (byte_at s j) → other_at s j ≡ percent_at s j
unfolding singles
percent_left s j n h =
    percent_other
    ((112 ∷ []) ∷ (39 ∷ []) ∷ (123 ∷ []) ∷ (63 ∷ []) ∷ (116 ∷ []) ∷ (101 ∷ []) ∷ (59 ∷ []) ∷ (105 ∷ []) ∷ (115 ∷ []) ∷ (108 ∷ []) ∷ other_keys)
    s j refl
    (none_map Unit _ (λ _. ((((((((((tt, n.0), n.1.0), n.1.1.0), n.1.1.1.0), n.1.1.1.1.0), n.1.1.1.1.1.0), n.1.1.1.1.1.1.0), n.1.1.1.1.1.1.1.0), n.1.1.1.1.1.1.1.1.0), n.1.1.1.1.1.1.1.1.1.0)) other_keys (byte_at s j) h)
    ((refl, (refl, (refl, (refl, (refl, tt))))), refl)

-- ---- what `braced_at` and `other_at` give: a number, a constant, or an item that the run leaves to `machine::take`

read_item_lem : (i : ℕ) (k : Item) (n : ℕ) → lexed_item i (read_item k n) ≡ lexed k n
read_item_lem i (I.Byte b) n = refl
read_item_lem i (I.Argument a) n = refl
read_item_lem i (I.Number b z w) n = refl
read_item_lem i I.Character n = refl
read_item_lem i I.Text n = refl
read_item_lem i I.Length n = refl
read_item_lem i (I.Constant v) n = refl
read_item_lem i (I.Store c) n = refl
read_item_lem i (I.Load c) n = refl
read_item_lem i (I.Binary o) n = refl
read_item_lem i I.Not n = refl
read_item_lem i I.Invert n = refl
read_item_lem i I.Increment n = refl
read_item_lem i I.If n = refl
read_item_lem i I.Then n = refl
read_item_lem i I.Else n = refl
read_item_lem i I.End n = refl
read_item_lem i I.Wrong n = refl

-- s and i are those of the item that is read
module _ (s : List ℕ) (i : ℕ) where
  abbrev pub KnownAt : Lexed → Type 0
  KnownAt l = Beside s i (other_item l)

  format_known : (k : ℕ) (z : Bool) (w : ℕ) → KnownAt (format_at s k z w)
  unfolding format_at
  format_known k z w =
      if_both KnownAt (eqb (byte_at s k) 100) (λ _. tt)
      (λ _. if_both KnownAt (eqb (byte_at s k) 111) (λ _. tt)
      (λ _. if_both KnownAt (eqb (byte_at s k) 120) (λ _. tt)
      (λ _. if_both KnownAt (eqb (byte_at s k) 88) (λ _. tt) (λ _. tt))))

  width_known : (k : ℕ) (z : Bool) → KnownAt (width_at s k z)
  unfolding width_at
  width_known k z =
      if_both KnownAt (not (is_nonzero (byte_at s k))) (λ _. tt)
      (λ _. if_both KnownAt (is_digit (byte_at s (k + 1))) (λ _. format_known (k + 2) z _) (λ _. format_known (k + 1) z _))

  variable_known : (j : ℕ) → KnownAt (store_at s j) × KnownAt (load_at s j)
  unfolding store_at load_at
  variable_known j =
      (if_both KnownAt (is_letter (byte_at s (j + 1))) (λ _. tt) (λ _. tt), if_both KnownAt (is_letter (byte_at s (j + 1))) (λ _. tt) (λ _. tt))

  pub braced_known : (j : ℕ) → KnownAt (braced_at s j)
  unfolding braced_at
  braced_known j =
      let e : ℕ = digits_end s (j + 1) in
      if_both KnownAt (is_digit (byte_at s (j + 1)) && (eqb (byte_at s e) 125 && leb (decimal 0 (take (e - (j + 1)) (drop (j + 1) s))) constant_most)) (λ _. tt) (λ _. tt)

  found_known : (n : ℕ) (ps : List (ℕ × Item)) (x : ℕ) → Each (λ (p : ℕ × Item). x ≡ p.0 → KnownAt (lexed p.1 n)) ps → KnownAt (lexed (found ps x) n)
  unfolding found
  found_known n [] x h = tt
  found_known n (p ∷ ps) x h =
      if_both (λ k. KnownAt (lexed k n)) (eqb x p.0) (λ e. h.0 (eqb-true x p.0 e)) (λ _. found_known n ps x h.1)

  -- a byte of singles other than s, l, i, t and e
  singles_known : (n x : ℕ) → LeftToOther x → Each (λ (p : ℕ × Item). x ≡ p.0 → KnownAt (lexed p.1 n)) singles
  unfolding singles
  singles_known n x h =
      ((λ _. tt), ((λ _. tt), ((λ e. absurd (h.1.1.1.1.1.1.1.1.0 e)), ((λ e. absurd (h.1.1.1.1.1.1.1.1.1.0 e)), ((λ _. tt), ((λ _. tt), ((λ _. tt), ((λ _. tt), ((λ _. tt), ((λ _. tt), ((λ _. tt), ((λ _. tt), ((λ _. tt), ((λ _. tt), ((λ _. tt), ((λ _. tt), ((λ _. tt), ((λ _. tt), ((λ _. tt), ((λ _. tt), ((λ _. tt), ((λ _. tt), ((λ _. tt), ((λ e. absurd (h.1.1.1.1.1.1.1.0 e)), ((λ _. tt), ((λ e. absurd (h.1.1.1.1.0 e)), ((λ e. absurd (h.1.1.1.1.1.0 e)), ((λ _. tt), tt))))))))))))))))))))))))))))

  pub percent_known : (j : ℕ) → LeftToOther (byte_at s j) → KnownAt (percent_at s j)
  unfolding percent_at
  percent_known j n =
      let x : ℕ = byte_at s j in
      if_both KnownAt (eqb x 112) (λ e. absurd (n.0 (eqb-true x 112 e)))
      (λ _. if_both KnownAt (eqb x 39) (λ e. absurd (n.1.0 (eqb-true x 39 e)))
      (λ _. if_both KnownAt (eqb x 123) (λ e. absurd (n.1.1.0 (eqb-true x 123 e)))
      (λ _. if_both KnownAt (eqb x 80) (λ _. (variable_known j).0)
      (λ _. if_both KnownAt (eqb x 103) (λ _. (variable_known j).1)
      (λ _. if_both KnownAt (eqb x 48) (λ _. width_known (j + 1) true)
      (λ _. if_both KnownAt (is_nonzero x) (λ _. width_known j false)
      (λ _. found_known (j + 1) singles x (singles_known (j + 1) x n))))))))

  pub read_other : {r : RunItem} {l : Lexed} → r ≡ other_item l → l ≡ item_at s i → KnownAt l → ReadAs s i r
  read_other {r} {l} e q h = rw e (read_item_lem i l.item l.next ∙ q, h)

-- ---- the item at i

module _ (s : List ℕ) (i : ℕ) (r : RightItem s i) where
  pub item_byte : (byte_at s i ≡ 37 → ⊥) → lexed (I.Byte (byte_at s i)) (i + 1) ≡ item_at s i
  unfolding item_at
  item_byte n =
      rw (ne_eqb (byte_at s i) 0 (λ e. r.right (rw e)), ne_eqb (byte_at s i) 37 n)

  pub item_percent : byte_at s i ≡ 37 → percent_at s (i + 1) ≡ item_at s i
  unfolding item_at
  item_percent e = rw e

-- the places behind a `%` at i
second : (i : ℕ) → i + 1 + 1 ≡ i + 2
second i = omega arith

third : (i : ℕ) → i + 1 + 2 ≡ i + 3
third i = omega arith

fourth : (i : ℕ) → i + 1 + 3 ≡ i + 4
fourth i = omega arith

pub single_read : (k : Item) (i : ℕ) → lexed k (i + 2) ≡ lexed k (i + 1 + 1)
single_read k i = rw (second i)

module _ (s : List ℕ) (i : ℕ) where
  pub argument_digit : Right (argument_at s (i + 1)) → (49 ≤ byte_at s (i + 2)) × (byte_at s (i + 2) ≤ 57)
  unfolding argument_at
  argument_digit r =
      within_true 49 57 (byte_at s (i + 2)) (is_true (is_nonzero (byte_at s (i + 2))) (λ e. r (rw (second i, e))))

  pub argument_inside : Right (argument_at s (i + 1)) → i + 2 < length s
  argument_inside r =
      below_or (i + 2) (length s) (λ l. l)
      (λ l. let e : byte_at s (i + 2) ≡ 0 = get_or-eq_default s 0 l in
      let d = argument_digit r in
      absurd (let q : ⊥ = omega arith in q))

  pub argument_read : Right (argument_at s (i + 1)) → lexed (I.Argument (byte_at s (i + 2) - 49)) (i + 3) ≡ argument_at s (i + 1)
  unfolding argument_at
  argument_read r =
      rw (second i, third i, is_true (is_nonzero (byte_at s (i + 2))) (λ e. r (rw (second i, e))))

  quoted_test : Right (quoted_at s (i + 1)) → (not (eqb (byte_at s (i + 2)) 0) && eqb (byte_at s (i + 3)) 39) ≡ true
  unfolding quoted_at
  quoted_test r =
      is_true (not (eqb (byte_at s (i + 2)) 0) && eqb (byte_at s (i + 3)) 39) (λ e. r (rw (second i, third i, e)))

  pub quoted_inside : Right (quoted_at s (i + 1)) → i + 3 < length s
  quoted_inside r =
      below_or (i + 3) (length s) (λ l. l)
      (λ l. let e : byte_at s (i + 3) ≡ 0 = get_or-eq_default s 0 l in
      let q : byte_at s (i + 3) ≡ 39 =
      eqb-true (byte_at s (i + 3)) 39 (and_right (not (eqb (byte_at s (i + 2)) 0)) (eqb (byte_at s (i + 3)) 39) (quoted_test r)) in
      absurd (let z : ⊥ = omega arith in z))

  pub quoted_read : Right (quoted_at s (i + 1)) → lexed (I.Constant (pos (byte_at s (i + 2)))) (i + 4) ≡ quoted_at s (i + 1)
  unfolding quoted_at
  quoted_read r = rw (second i, third i, fourth i, quoted_test r)

-- ---- the `%?` at i

module _ (s : List ℕ) (i : ℕ) (h : IfAt s i) where
  pub if_inside : i + 2 ≤ length s
  if_inside =
      below_or (i + 1) (length s) (λ l. omega arith)
      (λ l. let e : byte_at s (i + 1) ≡ 0 = get_or-eq_default s 0 l in
      let q : byte_at s (i + 1) ≡ 63 = h.question in
      absurd (let z : ⊥ = omega arith in z))

  pub if_read : lexed I.If (i + 2) ≡ item_at s i
  unfolding singles found
  if_read = single_read I.If i ∙ percent_byte s (i + 1) refl 63 h.question ∙ item_percent s i h.right h.percent

-- an argument and `%t` behind it
module _ (s : List ℕ) (i : ℕ) (t : ArgumentTested s (i + 2)) where
  pub test_digit : (49 ≤ byte_at s (i + 4)) × (byte_at s (i + 4) ≤ 57)
  test_digit = let a : i + 2 + 2 ≡ i + 4 = omega arith in rw a at t.digit

  pub test_read : TestAt s i (byte_at s (i + 4) - 49)
  test_read =
      let a : i + 2 + 2 ≡ i + 4 = omega arith in
      let b : i + 2 + 3 ≡ i + 5 = omega arith in
      let c : i + 2 + 5 ≡ i + 7 = omega arith in
      let d = test_digit in
      record {
        argument = rw (a, b) at t.argument;
        test = rw (b, c) at t.test;
        few = omega arith;
        inside = omega (arith, t.inside);
      }
