-- The cases of the definitions of items, at a byte that was read.
-- Assumes nothing.
use mathlib.Core.Path.{◌≡◌, refl, sym, ap, ◌∙◌}
use mathlib.Core.Bool.{Bool, true, false, ◌&&◌, ◌||◌}
use mathlib.Core.List.{List, [], ◌∷◌, map}
use mathlib.Core.Logic.{inl, inr}
use Prim.Native.Nat.{ℕ, suc, ◌+◌, ◌-◌, ◌*◌, ◌≤◌, ◌<◌}
use native.Mathlib.Numerals.{add-one}
use native.Mathlib.Omega.{arith}
use lib.Dec.{T, eqb, leb}
use lib.IntN.{pos}
use lib.ListN.{length, take, drop, get_or-eq_default}
use lib.Seq.{drop-cons}
use borrow.Author.Tests.{leb-true, le-leb, lt-leb, ne_eqb}
use mir.Val.{has_key}
use types.Run.{OneOf, hit}
use Rattle.base.specs.If.{when◌then◌else◌}
use Rattle.base.proofs.IfLaws.{true_false, and_left, and_right}
use Rattle.base.proofs.ScanLaws.{scan_ge, scan_step, scan_hit, scan_end}
use Rattle.base.specs.Tabulate.{Each}
use Rattle.expansion.specs.declared.Item.{Item}
use Rattle.expansion.specs.declared.Item.TheVariants.{Constant, Wrong}
use Rattle.expansion.specs.declared.Lexed.{Lexed}
use Rattle.expansion.specs.Limits.{constant_most}
use Rattle.expansion.specs.Items.{byte_at, within, is_digit, is_nonzero, lexed, wrong, singles, found, argument_at, quoted_at, decimal, digits_end, braced_at, store_at, load_at, width_at, percent_at, item_at}
use Rattle.item_parts.specs.Classes.{other_at}
use Rattle.item_parts.specs.Right.{ArgumentTested}

pub within_true : (a b x : ℕ) → within a b x ≡ true → (a ≤ x) × (x ≤ b)
within_true a b x e = (leb-true a x (and_left (leb a x) (leb x b) e), leb-true x b (and_right (leb a x) (leb x b) e))

-- ---- the byte after `%`

-- the item whose second byte is x and stands at j
abbrev pub behind : ℕ → List ℕ → ℕ → Lexed
behind x s j =
    when eqb x 112 then argument_at s j
    else when eqb x 39 then quoted_at s j
    else when eqb x 123 then braced_at s j
    else when eqb x 80 then store_at s j
    else when eqb x 103 then load_at s j
    else when eqb x 48 then width_at s (j + 1) true
    else when is_nonzero x then width_at s j false
    else lexed (found singles x) (j + 1)

pub percent_byte : (s : List ℕ) (j : ℕ) {b : ℕ} → b ≡ byte_at s j → (k : ℕ) → b ≡ k → behind k s j ≡ percent_at s j
unfolding percent_at
percent_byte s j e k q = ap (λ x. behind x s j) (sym q ∙ e)

-- x is in none of the groups of keys, as a match leaves it in its last arm
abbrev pub NoneOf : Type 0 → List (List ℕ) → ℕ → Type 0
NoneOf A [] x = A
NoneOf A (ks ∷ kss) x = NoneOf (A × (OneOf ks x → ⊥)) kss x

pub one_of : (P : ℕ → Type 0) (ks : List ℕ) (x : ℕ) → Each P ks → OneOf ks x → P x
one_of P [] x e h = absurd h
one_of P (k ∷ []) x e h = rw h e.0
one_of P (k ∷ (l ∷ ks)) x e (inl h) = rw h e.0
one_of P (k ∷ (l ∷ ks)) x e (inr h) = one_of P (l ∷ ks) x e.1 h

abbrev member_of : List (List ℕ) → ℕ → Bool
member_of [] x = false
member_of (ks ∷ kss) x = has_key ks x || member_of kss x

abbrev all : (ℕ → Bool) → List ℕ → Bool
all p [] = true
all p (k ∷ ks) = p k && all p ks

no_key : (ks : List ℕ) (x : ℕ) → (OneOf ks x → ⊥) → has_key ks x ≡ false
no_key ks x h = by_test (has_key ks x) (hit ks x)
  where
    by_test : (t : Bool) → (T t → OneOf ks x) → t ≡ false
    by_test true g = absurd (h (g tt))
    by_test false g = refl

not_members : (A : Type 0) (kss : List (List ℕ)) (x : ℕ) → NoneOf A kss x → A × (member_of kss x ≡ false)
not_members A [] x h = (h, refl)
not_members A (ks ∷ kss) x h =
    let r : (A × (OneOf ks x → ⊥)) × (member_of kss x ≡ false) = not_members (A × (OneOf ks x → ⊥)) kss x h in
    (r.0.0, rw (no_key ks x r.0.1, r.1))

other : (kss : List (List ℕ)) (x k : ℕ) → NoneOf Unit kss x → member_of kss k ≡ true → x ≡ k → ⊥
other kss x k h m e = true_false (sym m ∙ ap (member_of kss) (sym e) ∙ (not_members Unit kss x h).1)

found_none : (p : ℕ → Bool) (ps : List (ℕ × Item)) (x : ℕ) → ((k : ℕ) → p k ≡ true → x ≡ k → ⊥) → all p (map (λ (q : ℕ × Item). q.0) ps) ≡ true → found ps x ≡ Wrong
unfolding found
found_none p [] x h a = refl
found_none p (q ∷ ps) x h a =
    let t : Bool = all p (map (λ (r : ℕ × Item). r.0) ps) in
    rw (ne_eqb x q.0 (h q.0 (and_left (p q.0) t a))) (found_none p ps x h (and_right (p q.0) t a))

-- the groups hold each byte that starts an item behind `%`, but for digits
abbrev Whole : List (List ℕ) → Type 0
Whole kss = Each (λ k. member_of kss k ≡ true) (112 ∷ 39 ∷ 123 ∷ 80 ∷ 103 ∷ []) × (all (member_of kss) (map (λ (q : ℕ × Item). q.0) singles) ≡ true)

pub percent_other : (kss : List (List ℕ)) (s : List ℕ) (j : ℕ) {b : ℕ} → b ≡ byte_at s j → NoneOf Unit kss b → Whole kss → other_at s j ≡ percent_at s j
percent_other kss s j {b} e n w =
    let o : (k : ℕ) → member_of kss k ≡ true → b ≡ k → ⊥ = λ k. other kss b k n in
    let m : Each (λ k. member_of kss k ≡ true) (112 ∷ 39 ∷ 123 ∷ 80 ∷ 103 ∷ []) = w.0 in
    let r : behind b s j ≡ other_at s j =
    rw (ne_eqb b 112 (o 112 m.0), ne_eqb b 39 (o 39 m.1.0), ne_eqb b 123 (o 123 m.1.1.0), ne_eqb b 80 (o 80 m.1.1.1.0), ne_eqb b 103 (o 103 m.1.1.1.1.0), found_none (member_of kss) singles b o w.1, ← e) in
    sym r ∙ percent_byte s j e b refl

-- ---- `%{digits}`

-- the digits from i on, behind digits of value v, of the constant whose `{` is at j
unfoldable pub braced_from : List ℕ → ℕ → ℕ → ℕ → Lexed
braced_from s j i v =
    let e : ℕ = digits_end s i in
    let w : ℕ = decimal v (take (e - i) (drop i s)) in
    when is_digit (byte_at s (j + 1)) && (eqb (byte_at s e) 125 && leb w constant_most) then lexed (Constant (pos w)) (e + 1) else wrong j

pub braced_start : (s : List ℕ) (j : ℕ) → braced_at s j ≡ braced_from s j (j + 1) 0
unfolding braced_at braced_from
braced_start s j = refl

pub braced_step : (s : List ℕ) (j i v : ℕ) → i < length s → is_digit (byte_at s i) ≡ true → braced_from s j i v ≡ braced_from s j (i + 1) (v * 10 + (byte_at s i - 48))
unfolding braced_from decimal
braced_step s j i v h d =
    let e : digits_end s i ≡ digits_end s (i + 1) = scan_step (λ k. is_digit (byte_at s k)) i (length s) d h in
    let g : i + 1 ≤ digits_end s (i + 1) = scan_ge (λ k. is_digit (byte_at s k)) (i + 1) (length s - (i + 1)) in
    let n : digits_end s (i + 1) - i ≡ suc (digits_end s (i + 1) - (i + 1)) = omega arith in
    let c : drop i s ≡ byte_at s i ∷ drop (i + 1) s = rw (add-one i) (drop-cons s i 0 h) in
    rw (e, n, c)

-- the value only grows
decimal_ge : (v : ℕ) (ds : List ℕ) → v ≤ decimal v ds
unfolding decimal
decimal_ge v [] = omega arith
decimal_ge v (d ∷ ds) = omega (arith, decimal_ge (v * 10 + (d - 48)) ds)

if_same : {A : Type 0} (b c : Bool) (x y : A) → c ≡ false → (when b && c then x else y) ≡ y
if_same true c x y e = rw e
if_same false c x y e = refl

pub braced_large : (s : List ℕ) (j i v : ℕ) → constant_most < v → braced_from s j i v ≡ wrong j
unfolding braced_from
braced_large s j i v h =
    let w : ℕ = decimal v (take (digits_end s i - i) (drop i s)) in
    let l : leb w constant_most ≡ false = lt-leb w constant_most (omega (arith, decimal_ge v (take (digits_end s i - i) (drop i s)))) in
    if_same (is_digit (byte_at s (j + 1))) (eqb (byte_at s (digits_end s i)) 125 && leb w constant_most) _ _ (and-false (eqb (byte_at s (digits_end s i)) 125) l)
  where
    and-false : (a : Bool) {b : Bool} → b ≡ false → (a && b) ≡ false
    and-false true e = e
    and-false false e = refl

-- a byte that is no digit, and the string's end, end the digits
pub braced_close : (s : List ℕ) (j i v : ℕ) → i < length s → byte_at s i ≡ 125 → is_digit (byte_at s (j + 1)) ≡ true → v ≤ constant_most → braced_from s j i v ≡ lexed (Constant (pos v)) (i + 1)
unfolding braced_from decimal
braced_close s j i v h c d l =
    let e : digits_end s i ≡ i = scan_hit (λ k. is_digit (byte_at s k)) i (length s) (rw c) h in
    let z : i - i ≡ 0 = omega arith in
    rw (e, z, d, c, le-leb v constant_most l)

pub braced_other : (s : List ℕ) (j i v : ℕ) → digits_end s i ≡ i → (byte_at s i ≡ 125 → ⊥) → braced_from s j i v ≡ wrong j
unfolding braced_from
braced_other s j i v e c =
    rw (e, ne_eqb (byte_at s i) 125 c) (if_same (is_digit (byte_at s (j + 1))) false _ _ refl)

pub braced_stop : (s : List ℕ) (i : ℕ) → i < length s → is_digit (byte_at s i) ≡ false → digits_end s i ≡ i
braced_stop s i h d = scan_hit (λ k. is_digit (byte_at s k)) i (length s) d h

pub braced_past : (s : List ℕ) (j i v : ℕ) → length s ≤ i → braced_from s j i v ≡ wrong j
braced_past s j i v h = braced_other s j i v (scan_end (λ k. is_digit (byte_at s k)) i (length s) h) (rw (get_or-eq_default s 0 h) (λ q. let z : ⊥ = omega arith in z))

pub braced_first : (s : List ℕ) (j : ℕ) → is_digit (byte_at s (j + 1)) ≡ false → braced_at s j ≡ wrong j
unfolding braced_at
braced_first s j d = rw d

-- ---- an argument that is tested

-- `%` and the byte x stand at i
item_behind : (s : List ℕ) (i x : ℕ) → byte_at s i ≡ 37 → byte_at s (i + 1) ≡ x → item_at s i ≡ behind x s (i + 1)
unfolding item_at
item_behind s i x p q = rw p (sym (percent_byte s (i + 1) refl x q))

-- `%p`, a digit and `%t`
pub argument_tested : (s : List ℕ) (i : ℕ) → i + 5 ≤ length s → byte_at s i ≡ 37 → byte_at s (i + 1) ≡ 112 → is_nonzero (byte_at s (i + 2)) ≡ true
    → byte_at s (i + 3) ≡ 37 → byte_at s (i + 4) ≡ 116 → ArgumentTested s i
unfolding argument_at singles found
argument_tested s i h p q d p' t =
    let n : i + 1 + 1 ≡ i + 2 = omega arith in
    let m : i + 1 + 2 ≡ i + 3 = omega arith in
    let n' : i + 3 + 1 ≡ i + 4 = omega arith in
    let m' : i + 4 + 1 ≡ i + 5 = omega arith in
    record {
      argument = item_behind s i 112 p q ∙ rw (n, d, m);
      digit = within_true 49 57 (byte_at s (i + 2)) d;
      test = item_behind s (i + 3) 116 p' (rw n' t) ∙ rw (n', m');
      inside = h;
    }
