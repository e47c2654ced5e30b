-- Reading the name in a use: what holds at each turn, and the turns.
-- Assumes nothing.
use mathlib.Core.Path.{◌≡◌, refl, sym, ap, ◌∙◌}
use mathlib.Core.List.{List, [], ◌∷◌, ◌++◌}
use Prim.Native.Nat.{ℕ, ◌+◌, ◌≤◌, ◌<◌}
use native.Mathlib.Omega.{arith}
use native.Mathlib.Numerals.{add-one}
use lib.ListN.{length, take, set, length-append, length-set}
use lib.Seq.{length-take-le, take-suc-set}
use Rattle.text.specs.declared.StringItem.TheVariants.{End, Byte, Removed, Malformed}
use Rattle.text.specs.Strings.{string_item_at, stored_byte, Reading, Read, malformed, read_from, read_at, read_bytes}
use Rattle.text_laws.specs.Reads.{read_end, read_malformed, read_byte, read_removed, read_grows}

-- the string that starts at start has been read to i, and its bytes so far are the first n of name
pub record ReadTo (t : List ℕ) (start i : ℕ) (name : List ℕ) (n : ℕ) : Type 0 where
  pub within : n ≤ length name
  pub same : read_from t (record { at = i; bytes = take n name }) ≡ read_at t start

pub read_start : (t : List ℕ) (start : ℕ) (name : List ℕ) → ReadTo t start start name 0
read_start t start name = record { within = omega arith; same = refl }

-- a malformed string stands for no byte
pub read_none : (t : List ℕ) (start : ℕ) (name : List ℕ) → read_at t start ≡ malformed
    → take 0 name ≡ read_bytes (read_at t start)
unfolding read_bytes
read_none t start name e = sym (ap read_bytes e)

module _ {t : List ℕ} {start i : ℕ} {name : List ℕ} {n : ℕ} (h : ReadTo t start i name n) where
  abbrev so_far : Reading
  so_far = record { at = i; bytes = take n name }

  pub name_ends : string_item_at t i ≡ End → take n name ≡ read_bytes (read_at t start)
  unfolding read_bytes
  name_ends e = ap read_bytes (sym (read_end t so_far e) ∙ h.same)

  pub name_malformed : string_item_at t i ≡ Malformed → take 0 name ≡ read_bytes (read_at t start)
  name_malformed e = read_none t start name (sym h.same ∙ read_malformed t so_far e)

  pub name_removed : (k : ℕ) → string_item_at t i ≡ Removed k → ReadTo t start k name n
  name_removed k e = record { within = h.within; same = sym (read_removed t so_far k e) ∙ h.same }

  pub name_byte : (b k : ℕ) → string_item_at t i ≡ Byte b k → n < length name
      → ReadTo t start k (set name n (stored_byte b)) (n + 1)
  name_byte b k e l = record {
    within = let m = length-set name n (stored_byte b) in omega arith;
    same =
        ap (λ (xs : List ℕ). read_from t (record { at = k; bytes = xs }))
        (ap (λ (m : ℕ). take m (set name n (stored_byte b))) (add-one n) ∙ take-suc-set name n (stored_byte b) l)
        ∙ sym (read_byte t so_far b k e)
        ∙ h.same;
  }

  -- one byte more than there were
  pub name_longer : (b k : ℕ) → string_item_at t i ≡ Byte b k → (read_at t start ≡ malformed → ⊥)
      → n < length (read_bytes (read_at t start))
  name_longer b k e w =
      let s : Reading = record { at = k; bytes = take n name ++ (stored_byte b ∷ []) } in
      let q : read_from t s ≡ read_at t start = sym (read_byte t so_far b k e) ∙ h.same in
      let g = read_grows t s (λ z. w (sym q ∙ z)) in
      let m = ap (λ (r : Read). length (read_bytes r)) q in
      let a = length-append (take n name) (stored_byte b ∷ []) in
      let c = length-take-le n name h.within in
      omega arith
