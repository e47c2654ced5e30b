-- Strings of source text: an item ends past its place, so reading ends; what reading gives.
-- Assumes nothing.
use Rattle.std.specs.Prelude.{◌≡◌, List, [], ◌∷◌, ◌++◌, ℕ, ◌+◌, ◌-◌, ◌*◌, ◌≤◌, ◌<◌, eqb, leb, ltb, length, get_or, None}
use Rattle.std.proofs.Math.Path.{refl, ap}
use Rattle.std.proofs.Common.{sym, ◌∙◌, subst, append_assoc, append-nil, arith, le_refl, eq-eqb, length-append}
use Rattle.std.proofs.Math.ListN.{get_or-eq_default}
use Rattle.base.proofs.IfLaws.{true_false, below_or, if_both}
use Rattle.base.specs.Loop.{go, stop}
use Rattle.base.proofs.LoopLaws.{loop_go, loop_stop, loop_ind}
use Rattle.base.proofs.TabulateLaws.{each_append}
use Rattle.word.specs.Nul.{NotNul, NoNul}
use Rattle.text.specs.declared.ByteClass.TheVariants as C
use Rattle.text.specs.declared.StringItem.{StringItem}
use Rattle.text.specs.declared.StringItem.TheVariants.{End, Byte, Removed, Malformed}
use Rattle.text.specs.Bytes.{between, is_blank, run_end}
use Rattle.text.specs.Strings.{digit_at, letter_of, octal_of, escape_at, is_control, caret_at}
use Rattle.text.specs.Strings.{line_end_at, string_item_at}
use Rattle.text.specs.Strings.{stored_byte, Reading, Read, whole, malformed, read_turn, read_from, read_at, read_bytes}
use Rattle.text.specs.Strings.{content, content_of}
use Rattle.text_laws.specs.Runs.{run_ge}

-- ---- items

-- an item ends past a place
abbrev pub Forward : ℕ → StringItem → Type 0
Forward i End = Unit {0}
Forward i (Byte b k) = i < k
Forward i (Removed k) = i < k
Forward i Malformed = Unit {0}

octal_forward : (a b c i j : ℕ) → j ≤ i → Forward j (octal_of a b c i)
unfolding octal_of
octal_forward a b c i j h =
    if_both (Forward j) (ltb b 8)
    (λ _. if_both (Forward j) (ltb c 8) (λ _. if_both (Forward j) (leb (a * 64 + b * 8 + c) 255) (λ _. three)
    (λ _. tt)) (λ _. two))
    (λ _. one)
  where
    one : j < i + 1
    one = omega arith

    two : j < i + 2
    two = omega arith

    three : j < i + 3
    three = omega arith

pub item_forward : (t : List ℕ) (i : ℕ) → Forward i (string_item_at t i)
unfolding string_item_at escape_at caret_at line_end_at
item_forward t i =
    if_both (Forward i) (eqb (get_or t i 0) 44) (λ _. tt)
    (λ _. if_both (Forward i) (eqb (get_or t i 0) 92)
    (λ _. if_both (Forward i) (ltb (digit_at t (i + 1)) 8)
    (λ _. octal_forward _ _ _ (i + 1) i (omega arith))
    (λ _. if_both (Forward i) (eqb (letter_of (get_or t (i + 1) 0)) 0) (λ _. tt) (λ _. second)))
    (λ _. if_both (Forward i) (eqb (get_or t i 0) 94)
    (λ _. if_both (Forward i) (eqb (get_or t (i + 1) 0) 63) (λ _. second)
    (λ _. if_both (Forward i) (is_control (get_or t (i + 1) 0)) (λ _. second) (λ _. tt)))
    (λ _. if_both (Forward i) (eqb (get_or t i 0) 10)
    (λ _. if_both (Forward i) (is_blank (get_or t (i + 1) 0)) (λ _. line) (λ _. tt))
    (λ _. if_both (Forward i) (between 32 126 (get_or t i 0)) (λ _. first) (λ _. tt)))))
  where
    first : i < i + 1
    first = omega arith

    second : i < i + 1 + 1
    second = omega arith

    line : i < run_end C.Blank t (i + 1 + 1)
    line = let h = run_ge C.Blank t (i + 1 + 1) in omega arith

-- past the text's end
pub item_past : (t : List ℕ) (i : ℕ) → length t ≤ i → string_item_at t i ≡ Malformed
unfolding string_item_at
item_past t i h = rw (get_or-eq_default t 0 h)

-- ---- one turn of reading, by the item at its place

module _ (t : List ℕ) (s : Reading) where
  turn_end : string_item_at t s.at ≡ End → read_turn t s ≡ stop (whole s.bytes s.at)
  unfolding read_turn
  turn_end e = rw (e, read_turn)

  turn_byte : (b k : ℕ) → string_item_at t s.at ≡ Byte b k
      → read_turn t s ≡ go (record { at = k; bytes = s.bytes ++ (stored_byte b ∷ []) })
  unfolding read_turn
  turn_byte b k e = rw (e, read_turn)

  turn_removed : (k : ℕ) → string_item_at t s.at ≡ Removed k → read_turn t s ≡ go (record { at = k; bytes = s.bytes })
  unfolding read_turn
  turn_removed k e = rw (e, read_turn)

  turn_malformed : string_item_at t s.at ≡ Malformed → read_turn t s ≡ stop malformed
  unfolding read_turn
  turn_malformed e = rw (e, read_turn)

-- a turn that goes on goes forward, within the text
read_falls : (t : List ℕ) (s s' : Reading) → read_turn t s ≡ go s' → length t - s'.at < length t - s.at
read_falls t s s' e =
    below_or s.at (length t) (λ l. by_item (string_item_at t s.at) refl (item_forward t s.at) l) past
  where
    by_item : (u : StringItem) → string_item_at t s.at ≡ u → Forward s.at u → s.at < length t
        → length t - s'.at < length t - s.at
    by_item End h f l = let z : ◌≡◌ {A = ℕ} 0 1 = cc (turn_end t s h) in omega arith
    by_item (Byte b k) h f l =
        let p : record { at = k; bytes = s.bytes ++ (stored_byte b ∷ []) } ≡ s' = cc (turn_byte t s b k h)
        in let q = ap (λ (r : Reading). r.at) p in omega arith
    by_item (Removed k) h f l =
        let p : record { at = k; bytes = s.bytes } ≡ s' = cc (turn_removed t s k h)
        in let q = ap (λ (r : Reading). r.at) p in omega arith
    by_item Malformed h f l = let z : ◌≡◌ {A = ℕ} 0 1 = cc (turn_malformed t s h) in omega arith

    past : length t ≤ s.at → length t - s'.at < length t - s.at
    past l = let z : ◌≡◌ {A = ℕ} 0 1 = cc (turn_malformed t s (item_past t s.at l)) in omega arith

module _ (t : List ℕ) (s : Reading) where
  pub read_end : string_item_at t s.at ≡ End → read_from t s ≡ whole s.bytes s.at
  unfolding read_from
  read_end e = loop_stop _ (read_turn t) (read_falls t) malformed s _ (turn_end t s e)

  pub read_malformed : string_item_at t s.at ≡ Malformed → read_from t s ≡ malformed
  unfolding read_from
  read_malformed e = loop_stop _ (read_turn t) (read_falls t) malformed s _ (turn_malformed t s e)

  pub read_byte : (b k : ℕ) → string_item_at t s.at ≡ Byte b k
      → read_from t s ≡ read_from t (record { at = k; bytes = s.bytes ++ (stored_byte b ∷ []) })
  unfolding read_from
  read_byte b k e = loop_go _ (read_turn t) (read_falls t) malformed s _ (turn_byte t s b k e)

  pub read_removed : (k : ℕ) → string_item_at t s.at ≡ Removed k
      → read_from t s ≡ read_from t (record { at = k; bytes = s.bytes })
  unfolding read_from
  read_removed k e = loop_go _ (read_turn t) (read_falls t) malformed s _ (turn_removed t s k e)

-- what holds of a string where it ends, and where it is malformed, and before an item if behind it, holds of what is
-- read
module _ (t : List ℕ) (Q : Reading → Read → Type 0)
    (at_end : (s : Reading) → string_item_at t s.at ≡ End → Q s (whole s.bytes s.at))
    (at-malformed : (s : Reading) → Q s malformed)
    (at_byte : (s : Reading) (r : Read) (b k : ℕ) → s.at < k
    → Q (record { at = k; bytes = s.bytes ++ (stored_byte b ∷ []) }) r → Q s r)
    (at-removed : (s : Reading) (r : Read) (k : ℕ) → s.at < k → Q (record { at = k; bytes = s.bytes }) r → Q s r)
  where
    clash : {A : Type 0} → ◌≡◌ {A = ℕ} 0 1 → A
    clash z = absurd (omega arith)

    at_stop : (s : Reading) (r : Read) → read_turn t s ≡ stop r → (u : StringItem) → string_item_at t s.at ≡ u → Q s r
    at_stop s r e End i = let p : whole s.bytes s.at ≡ r = cc (turn_end t s i) in subst (Q s) p (at_end s i)
    at_stop s r e (Byte b k) i = clash (cc (turn_byte t s b k i))
    at_stop s r e (Removed k) i = clash (cc (turn_removed t s k i))
    at_stop s r e Malformed i = let p : malformed ≡ r = cc (turn_malformed t s i) in subst (Q s) p (at-malformed s)

    at_go : (s s' : Reading) (r : Read) → read_turn t s ≡ go s' → Q s' r → (u : StringItem) → string_item_at t s.at ≡ u
        → Forward s.at u → Q s r
    at_go s s' r e h End i f = clash (cc (turn_end t s i))
    at_go s s' r e h (Byte b k) i f =
        let p : s' ≡ record { at = k; bytes = s.bytes ++ (stored_byte b ∷ []) } = cc (turn_byte t s b k i) in
        at_byte s r b k f (subst (λ (q : Reading). Q q r) p h)
    at_go s s' r e h (Removed k) i f =
        let p : s' ≡ record { at = k; bytes = s.bytes } = cc (turn_removed t s k i) in
        at-removed s r k f (subst (λ (q : Reading). Q q r) p h)
    at_go s s' r e h Malformed i f = clash (cc (turn_malformed t s i))

    read_ind : (s : Reading) → Q s (read_from t s)
    unfolding read_from
    read_ind =
        loop_ind _ (read_turn t) (read_falls t) malformed Q
        (λ s r e. at_stop s r e (string_item_at t s.at) refl)
        (λ s s' r e h. at_go s s' r e h (string_item_at t s.at) refl (item_forward t s.at))

-- ---- the comma of a string that is whole stands at its start or behind, within the text

abbrev After : List ℕ → ℕ → Read → Type 0
After t i (whole s k) = (i ≤ k) × (k < length t)
After t i malformed = Unit {0}

after_weaken : (t : List ℕ) (i j : ℕ) → i < j → (r : Read) → After t j r → After t i r
after_weaken t i j h (whole s k) a = omega arith
after_weaken t i j h malformed a = tt

end_within : (t : List ℕ) (i : ℕ) → string_item_at t i ≡ End → i < length t
end_within t i e =
    below_or i (length t) (λ l. l)
    (λ l. absurd (let z : ◌≡◌ {A = ℕ} 0 1 = cc (item_past t i l) in (let y : ⊥ = omega arith in y)))

from_after : (t : List ℕ) (s : Reading) → After t s.at (read_from t s)
from_after t =
    read_ind t (λ (s : Reading) (r : Read). After t s.at r)
    (λ s e. (le_refl s.at, end_within t s.at e))
    (λ s. tt)
    (λ s r b k l h. after_weaken t s.at k l r h)
    (λ s r k l h. after_weaken t s.at k l r h)

pub read_after : (t : List ℕ) (i : ℕ) (s : List ℕ) (k : ℕ) → read_at t i ≡ whole s k → (i ≤ k) × (k < length t)
read_after t i s k e = subst (After t i) e (from_after t (record { at = i; bytes = [] }))

-- ---- no byte that a string stands for is 0

stored_free : (b : ℕ) → NotNul (stored_byte b)
unfolding stored_byte
stored_free b =
    if_both NotNul (eqb b 0)
    (λ _ e. let y : ⊥ = omega arith in y)
    (λ h e. true_false (sym (eq-eqb b 0 e) ∙ h))

from_free : (t : List ℕ) (s : Reading) → NoNul s.bytes → NoNul (read_bytes (read_from t s))
unfolding read_bytes
from_free t =
    read_ind t (λ (s : Reading) (r : Read). NoNul s.bytes → NoNul (read_bytes r))
    (λ s e h. h)
    (λ s h. tt)
    (λ s r b k l h f. h (each_append NotNul s.bytes (stored_byte b ∷ []) f (stored_free b, tt)))
    (λ s r k l h f. h f)

pub read_free : (t : List ℕ) (i : ℕ) → NoNul (read_bytes (read_at t i))
read_free t i = from_free t (record { at = i; bytes = [] }) tt

-- ---- the bytes that were read are the first of the whole string's

read_more : (t : List ℕ) (s : Reading) → (read_from t s ≡ malformed → ⊥) → (more : List ℕ)
    × (s.bytes ++ more ≡ read_bytes (read_from t s))
unfolding read_bytes
read_more t =
    read_ind t (λ (s : Reading) (r : Read). (r ≡ malformed → ⊥) → (more : List ℕ) × (s.bytes ++ more ≡ read_bytes r))
    (λ s e w. ([], append-nil s.bytes))
    (λ s w. absurd (w refl))
    (λ s r b k l h w. let g = h w in (
      stored_byte b ∷ g.0,
      sym (append_assoc s.bytes (stored_byte b ∷ []) g.0)
          ∙ g.1,
    ))
    (λ s r k l h w. h w)

pub read_grows : (t : List ℕ) (s : Reading) → (read_from t s ≡ malformed → ⊥)
    → length s.bytes ≤ length (read_bytes (read_from t s))
read_grows t s w =
    let g = read_more t s w in let n = length-append s.bytes g.0 in let m = ap length g.1 in omega arith

no_more : (xs : List ℕ) → length xs ≡ 0 → xs ≡ []
no_more [] z = refl
no_more (x ∷ xs) z = absurd (omega arith)

-- a string all of whose bytes were read
pub read_all : (t : List ℕ) (s : Reading) → (read_from t s ≡ malformed → ⊥)
    → length s.bytes ≡ length (read_bytes (read_from t s)) → s.bytes ≡ read_bytes (read_from t s)
read_all t s w q =
    let g = read_more t s w in
    let n = length-append s.bytes g.0 in
    let m = ap length g.1 in
    let z : length g.0 ≡ 0 = omega arith in
    sym (append-nil s.bytes) ∙ ap (λ (xs : List ℕ). s.bytes ++ xs) (sym (no_more g.0 z)) ∙ g.1

-- ---- counting: a string that starts at a place, read to i, of which n bytes are known

abbrev pub Scanned : List ℕ → ℕ → ℕ → ℕ → Type 0
Scanned t at i n = (done : List ℕ) × (length done ≡ n) × (read_from t (record { at = i; bytes = done }) ≡ read_at t at)

module _ (t : List ℕ) (at i n : ℕ) (s : Scanned t at i n) where
  pub scanned_byte : (b k : ℕ) → string_item_at t i ≡ Byte b k → Scanned t at k (n + 1)
  scanned_byte b k e = (
    s.0 ++ (stored_byte b ∷ []),
    length-append s.0 (stored_byte b ∷ [])
        ∙ ap (λ (m : ℕ). m + 1) s.1,
    sym (read_byte t (record { at = i; bytes = s.0 }) b k e) ∙ s.2,
  )

  pub scanned_removed : (k : ℕ) → string_item_at t i ≡ Removed k → Scanned t at k n
  scanned_removed k e = (s.0, s.1, sym (read_removed t (record { at = i; bytes = s.0 }) k e) ∙ s.2)

  pub scanned_end : string_item_at t i ≡ End → content n i ≡ content_of (read_at t at)
  unfolding content_of
  scanned_end e =
      ap (λ (m : ℕ). content m i) (sym s.1) ∙ ap content_of
      (sym (read_end t (record { at = i; bytes = s.0 }) e) ∙ s.2)

  pub scanned_malformed : string_item_at t i ≡ Malformed → None ≡ content_of (read_at t at)
  unfolding content_of
  scanned_malformed e = ap content_of (sym (read_malformed t (record { at = i; bytes = s.0 }) e) ∙ s.2)
