-- Laws that the proofs cite: names from their numbers, decimal numbers, and what stands behind either.
-- Assumes nothing.
use Rattle.std.specs.Int.{byte_at, bytes_low_first}
use mathlib.Core.Path.{◌≡◌, refl, sym, ap, subst, ◌∙◌}
use mathlib.Core.Bool.{Bool, true, false}
use mathlib.Core.List.{List, [], ◌∷◌, ◌++◌, map, append_assoc}
use Prim.Native.Nat.{ℕ, zero, suc, ◌+◌, ◌-◌, ◌*◌, ◌/◌, ◌%◌, ◌^◌, ◌≤◌, ◌<◌}
use native.Mathlib.Nat.{le_refl, pow-suc, one-le-pow, div-div-eq-div-mul}
use native.Mathlib.Omega.{arith}
use lib.ListN.{length, get_or, take, get_or-map}
use borrow.Author.Tests.{eq-eqb, ne_eqb, lt-ltb}
use Rattle.io.specs.Counts.{IsPrefixLen}
use Rattle.io.specs.Digits.{IsDigitCount}
use Rattle.io.specs.Digits.{last_digits as lastDigits}
use Rattle.base.specs.If.{when◌then◌else◌}
use Rattle.base.specs.Answer.{refused, gives}
use Rattle.base.proofs.IfLaws.{below_or}
use Rattle.word.specs.Word.{word, bytes}
use Rattle.edition.specs.declared.Kind.{Kind}
use Rattle.edition.specs.declared.Kind.TheVariants as Kinds
use Rattle.edition.specs.declared.Place.{Place}
use Rattle.edition.specs.Edition.{knows}
use Rattle.names.specs.Names.{ascii, parted, named, boolean_names, number_names, string_names, names_of}
use Rattle.names.specs.Naming.{packed, before_nul, unpacked, naming}
use Rattle.expansion_laws.specs.Digits.{digits_one, digits_more}
use Rattle.shown.specs.Puts.{Puts}
use Rattle.shown.proofs.PutsLaws.{puts_most, puts_then}
use Rattle.show_names.specs.Naming.{decimal, kind_word, name_of, name_room}

-- ---- a name's bytes from its number

byte_is : (i n : ℕ) → byte_at i n ≡ n / 256 ^ i % 256
byte_is zero n = omega arith
byte_is (suc i) n = refl

low_bytes : (i k n : ℕ) → bytes_low_first i k n ≡ bytes k (n / 256 ^ i)
unfolding bytes
low_bytes i zero n = refl
low_bytes i (suc k) n =
    let q : n / 256 ^ suc i ≡ n / 256 ^ i / 256 = ap (λ (p : ℕ). n / p) (pow-suc 256 i) ∙ sym (div-div-eq-div-mul n (256 ^ i) 256) in
    ap (λ (x : ℕ). x ∷ bytes_low_first (suc i) k n) (byte_is i n)
    ∙ ap (λ (xs : List ℕ). n / 256 ^ i % 256 ∷ xs) (low_bytes (suc i) k n ∙ ap (bytes k) q)

-- the library's bytes of a number are document 01's
pub eight_bytes : (n : ℕ) → bytes_low_first 0 8 n ≡ bytes 8 n
eight_bytes n = low_bytes 0 8 n ∙ ap (bytes 8) (omega arith)

-- the bytes before the first NUL
pub before_first : (s : List ℕ) (i : ℕ) → i < length s → get_or s i 0 ≡ 0 → ((k : ℕ) → k < i → get_or s k 0 ≡ 0 → ⊥) → take i s ≡ before_nul s
unfolding before_nul
before_first [] i l e h = absurd (let z : ⊥ = omega arith in z)
before_first (c ∷ s) zero l e h = rw (eq-eqb c 0 e)
before_first (c ∷ s) (suc i) l e h =
    rw (ne_eqb c 0 (h 0 (omega arith))) (ap (λ (xs : List ℕ). c ∷ xs) (before_first s i (omega arith) e (λ k m. h (suc k) (omega arith))))

pub before_none : (s : List ℕ) → ((k : ℕ) → k < length s → get_or s k 0 ≡ 0 → ⊥) → s ≡ before_nul s
unfolding before_nul
before_none [] h = refl
before_none (c ∷ s) h = rw (ne_eqb c 0 (h 0 (omega arith))) (ap (λ (xs : List ℕ). c ∷ xs) (before_none s (λ k m. h (suc k) (omega arith))))

-- ---- names

-- every name comes back from its number: one computed test for each list
names_back : (k : Kind) → map unpacked (map packed (names_of k)) ≡ names_of k
unfolding unpacked before_nul packed word bytes boolean_names number_names string_names named parted ascii
names_back Kinds.Boolean = refl
names_back Kinds.Number = refl
names_back Kinds.String = refl

name_known : (k : Kind) (i : ℕ) → unpacked (packed (get_or (names_of k) i [])) ≡ get_or (names_of k) i []
unfolding unpacked before_nul packed word bytes
name_known k i =
    sym (get_or-map unpacked (map packed (names_of k)) i 0 ∙ ap unpacked (get_or-map packed (names_of k) i [])) ∙ ap (λ (ns : List (List ℕ)). get_or ns i []) (names_back k)

module _ (k : Kind) (p : Place) where
  -- a name of the list
  pub name_packed : (w : ℕ) → gives w ≡ naming k p → unpacked w ≡ name_of k p
  unfolding naming name_of
  name_packed w e = by_test (knows (length (names_of k)) p) e
    where
      by_test : (t : Bool) → gives w ≡ (when t then gives (packed (get_or (names_of k) p.0 [])) else refused 17 [])
          → unpacked w ≡ (when t then get_or (names_of k) p.0 [] else kind_word k ++ decimal p.0)
      by_test true q = let n : w ≡ packed (get_or (names_of k) p.0 []) = cc in ap unpacked n ∙ name_known k p.0
      by_test false q = absurd (let z : ◌≡◌ {A = ℕ} 0 1 = cc in (let y : ⊥ = omega arith in y))

  -- a place that the list has no name at
  pub name_beyond : refused 17 [] ≡ naming k p → kind_word k ++ decimal p.0 ≡ name_of k p
  unfolding naming name_of
  name_beyond e = by_test (knows (length (names_of k)) p) e
    where
      by_test : (t : Bool) → refused 17 [] ≡ (when t then gives (packed (get_or (names_of k) p.0 [])) else refused 17 [])
          → kind_word k ++ decimal p.0 ≡ (when t then get_or (names_of k) p.0 [] else kind_word k ++ decimal p.0)
      by_test true q = absurd (let z : ◌≡◌ {A = ℕ} 0 1 = cc in (let y : ⊥ = omega arith in y))
      by_test false q = refl

-- ---- decimal numbers

-- ten to the 20th or more
powers : (j : ℕ) → 100000000000000000000 ≤ 10 ^ (j + 20)
powers zero = le_refl 100000000000000000000
powers (suc j) =
    let h = powers j in
    let e : suc j + 20 ≡ suc (j + 20) = omega arith in
    rw (e, pow-suc 10 (j + 20)) (omega arith)

-- a 64-bit number has at most 20 digits
pub digits_most_lem : (n k : ℕ) → n < 2 ^ 64 → IsDigitCount 10 1 n k → k ≤ 20
digits_most_lem n k h f =
    below_or k 21 (λ l. omega arith)
    (λ g.
    let e : k - 1 ≡ (k - 21) + 20 = omega arith in
    let p : 10 ^ (k - 1) ≤ n = f.2 (omega arith) in
    let q : 10 ^ ((k - 21) + 20) ≤ n = rw e at p in
    let r = powers (k - 21) in
    omega arith)

pub digits_of : (k n : ℕ) → IsDigitCount 10 1 n k → lastDigits 10 k n ≡ decimal n
digits_of zero n f = absurd (omega (arith, f.0))
digits_of (suc zero) n f =
    let h : n < 10 = f.1 in
    let e : n % 10 ≡ n = omega arith in
    rw (digits_one 10 97 n h, e, lt-ltb n 10 h)
digits_of (suc (suc k)) n f =
    let o : 1 ≤ 10 ^ k = one-le-pow k 10 (omega arith) in
    let s : suc (suc k) - 1 ≡ suc k = omega arith in
    let s' : suc k - 1 ≡ k = omega arith in
    let l : 10 ^ k * 10 ≤ n = rw (s, pow-suc 10 k) at (f.2 (omega arith)) in
    let u : n < 10 ^ suc k * 10 = rw (pow-suc 10 (suc k)) at f.1 in
    let again : lastDigits 10 (suc k) (n / 10) ≡ decimal (n / 10) = digits_of (suc k) (n / 10) (omega arith, omega arith, λ h. rw s' (omega arith)) in
    rw (digits_more 10 97 n (omega arith) (omega arith), ← again, lt-ltb (n % 10) 10 (omega arith))

-- digits d of which the first k are those of n, and then what stands behind them
pub number_puts : (b₀ b₁ b₂ d behind : List ℕ) (at middle end n k : ℕ) → n < 2 ^ 64 → IsPrefixLen k d → IsDigitCount 10 1 n k → take k d ≡ lastDigits 10 k n
    → at + (20 + length behind) ≤ length b₀ → Puts b₀ b₁ at (take k d) (length (take k d)) middle → Puts b₁ b₂ middle behind (length behind) end
    → Puts b₀ b₂ at (decimal n ++ behind) (20 + length behind) end
number_puts b₀ b₁ b₂ d behind at middle end n k h c f e l p q =
    let m = digits_most_lem n k h f in
    puts_then (puts_most (subst (λ (xs : List ℕ). Puts b₀ b₁ at xs (length (take k d)) middle) (e ∙ digits_of k n f) p) (omega arith)) q l

-- ---- a capability, and what stands behind it

module _ {b₀ b₁ b₂ : List ℕ} {middle end : ℕ} (behind : List ℕ) (k : Kind) (p : Place) (h : name_room + length behind ≤ length b₀) where
  pub named_puts : (w : ℕ) → gives w ≡ naming k p → Puts b₀ b₁ 0 (unpacked w) 8 middle → Puts b₁ b₂ middle behind (length behind) end
      → Puts b₀ b₂ 0 (name_of k p ++ behind) (name_room + length behind) end
  named_puts w e r s = rw (name_packed k p w e) at (puts_most {n = name_room + length behind} (puts_then r s (omega arith)) (omega arith))

  pub unnamed_puts : refused 17 [] ≡ naming k p → Puts b₀ b₁ 0 (kind_word k) 8 middle → Puts b₁ b₂ middle (decimal p.0 ++ behind) (20 + length behind) end
      → Puts b₀ b₂ 0 (name_of k p ++ behind) (name_room + length behind) end
  unnamed_puts e r s =
      let q : name_of k p ++ behind ≡ kind_word k ++ (decimal p.0 ++ behind) = ap (λ (n : List ℕ). n ++ behind) (sym (name_beyond k p e)) ∙ append_assoc (kind_word k) (decimal p.0) behind in
      rw q (puts_most (puts_then r s (omega arith)) (omega arith))
