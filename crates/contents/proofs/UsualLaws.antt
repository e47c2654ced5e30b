-- What is usual is read by its short way as its definition says.
-- Assumes nothing.
use mathlib.Core.Path.{◌≡◌, sym, ap, ◌∙◌, subst}
use mathlib.Core.Bool.{Bool, true, ◌&&◌}
use mathlib.Core.List.{List}
use Prim.Native.Nat.{ℕ, ◌+◌, ◌-◌, ◌*◌, ◌%◌, ◌≤◌}
use native.Mathlib.Omega.{arith}
use lib.Dec.{eqb, leb}
use lib.ListN.{get_or}
use borrow.Author.Tests.{eqb-true, leb-true, le-leb, lt-ltb, ne_eqb}
use Rattle.base.proofs.IfLaws.{true_false, and_left, and_right}
use Rattle.text.specs.declared.StringItem.TheVariants as S
use Rattle.text.specs.Bytes.{between, digit_of}
use Rattle.text.specs.Strings.{letter_of, octal_of, escape_at, is_control, caret_at, string_item_at, stored_byte}
use Rattle.contents.specs.declared.Usual.{Usual}
use Rattle.contents.specs.declared.Usual.TheVariants.{Itself, End, Pair, Octal}
use Rattle.contents.specs.Usual.{is_escape, is_control_at, is_octal, pair_of, octal_value, Tells}

-- what is told, where the code has found which of them it is
pub as_told : {u v : Usual} (t : List ℕ) (i : ℕ) → u ≡ v → Tells u t i → Tells v t i
as_told t i e h = subst (λ (w : Usual). Tells w t i) e h

both : (a b : Bool) → (a && b) ≡ true → (a ≡ true) × (b ≡ true)
both a b h = (and_left a b h, and_right a b h)

-- ---- digits

-- the answer of is_digit for a byte of the text
pub digit_told : {r : Bool} {x y : ℕ} (most : ℕ) → r ≡ between 48 most x → x ≡ y → between 48 most y ≡ r
digit_told most p q = sym (p ∙ ap (between 48 most) q)

digit_value : (most b : ℕ) → most ≤ 57 → between 48 most b ≡ true → (digit_of b ≡ b - 48) × (48 ≤ b) × (b ≤ most)
unfolding digit_of
digit_value most b l h =
    let s = both (leb 48 b) (leb b most) h in
    let low = leb-true 48 b s.0 in
    let high = leb-true b most s.1 in
    (rw (le-leb 48 b low, le-leb b 57 (omega arith)), low, high)

-- three digits behind a backslash
octal_three : (t : List ℕ) (j k l m : ℕ) → j + 1 ≡ k → j + 2 ≡ l → j + 3 ≡ m → between 48 51 (get_or t j 0) ≡ true
    → between 48 55 (get_or t k 0) ≡ true → between 48 55 (get_or t l 0) ≡ true
    → escape_at t j ≡ S.Byte (get_or t j 0 % 4 * 64 + get_or t k 0 % 8 * 8 + get_or t l 0 % 8) m
unfolding escape_at octal_of
octal_three t j k l m p q r f g h =
    let x = digit_value 51 (get_or t j 0) (omega arith) f in
    let y = digit_value 55 (get_or t k 0) (omega arith) g in
    let z = digit_value 55 (get_or t l 0) (omega arith) h in
    let small : (get_or t j 0 - 48) * 64 + (get_or t k 0 - 48) * 8 + (get_or t l 0 - 48) ≤ 255 = omega arith in
    rw (
      p,
      q,
      r,
      x.0,
      y.0,
      z.0,
      lt-ltb (get_or t j 0 - 48) 8 (omega arith),
      lt-ltb (get_or t k 0 - 48) 8 (omega arith),
      lt-ltb (get_or t l 0 - 48) 8 (omega arith),
      le-leb ((get_or t j 0 - 48) * 64 + (get_or t k 0 - 48) * 8 + (get_or t l 0 - 48)) 255 small,
    )
    (ap (λ (v : ℕ). S.Byte v m) (omega arith))

-- ---- what is told of a place

-- `^?` is another matter
question_apart : (c : ℕ) → is_control c ≡ true → c ≡ 63 → ⊥
unfolding is_control
question_apart c h e = true_false (sym h ∙ ap is_control e)

module _ (t : List ℕ) (i : ℕ) where
  abbrev b : ℕ
  b = get_or t i 0

  abbrev next : ℕ
  next = get_or t (i + 1) 0

  abbrev second : Bool
  second = between 48 55 (get_or t (i + 2) 0)

  abbrev third : Bool
  third = between 48 55 (get_or t (i + 3) 0)

  pub tells_end : b ≡ 44 → Tells End t i
  unfolding string_item_at
  tells_end e = rw e

  pub tells_itself : 32 ≤ b → b ≤ 126 → (b ≡ 44 → ⊥) → (b ≡ 92 → ⊥) → (b ≡ 94 → ⊥) → Tells Itself t i
  unfolding string_item_at stored_byte
  tells_itself low high comma backslash caret =
      let c = ne_eqb b 44 comma in
      let s = ne_eqb b 92 backslash in
      let d = ne_eqb b 94 caret in
      let l = ne_eqb b 10 (λ e. omega arith) in
      (rw (c, s, d, l, le-leb 32 b low, le-leb b 126 high), rw (ne_eqb b 0 (λ e. omega arith)))

  pub tells_escape : is_escape t i ≡ true → Tells Pair t i
  unfolding string_item_at escape_at is_escape digit_of letter_of pair_of
  tells_escape h =
      let s = both (eqb b 92) (eqb next 69) h in
      rw (eqb-true b 92 s.0, eqb-true next 69 s.1) (ap (S.Byte 27) (omega arith))

  pub tells_control : is_control_at t i ≡ true → Tells Pair t i
  unfolding string_item_at caret_at is_control_at pair_of
  tells_control h =
      let s = both (eqb b 94) (is_control next) h in
      let apart = ne_eqb next 63 (question_apart next s.1) in
      rw (eqb-true b 94 s.0, apart, s.1) (ap (S.Byte (next % 32)) (omega arith))

  behind : b ≡ 92 → string_item_at t i ≡ escape_at t (i + 1)
  unfolding string_item_at
  behind e = rw e

  pub tells_octal : is_octal t i ≡ true → Tells Octal t i
  unfolding is_octal octal_value
  tells_octal h =
      let s = both (eqb b 92) (between 48 51 next && (second && third)) h in
      let d = both (between 48 51 next) (second && third) s.1 in
      let e = both second third d.1 in
      behind (eqb-true b 92 s.0)
      ∙ octal_three t (i + 1) (i + 2) (i + 3) (i + 4) (omega arith) (omega arith) (omega arith) d.0 e.0 e.1
