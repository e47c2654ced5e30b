-- The table of hashes: a name but the last of a header's is met with its hash, where the header's bytes are hashed one
-- after the other.
-- Assumes nothing.
use mathlib.Core.Path.{◌≡◌, refl, sym, ap, ◌∙◌}
use mathlib.Core.Bool.{Bool, true, false, ◌||◌}
use mathlib.Core.List.{List, [], ◌∷◌}
use Prim.Native.Nat.{ℕ, ◌+◌, ◌≤◌, ◌<◌}
use native.Mathlib.Numerals.{add-one}
use native.Mathlib.Decide.{ℕ_discrete}
use native.Mathlib.Omega.{arith}
use lib.Dec.{eqb}
use lib.ListN.{length, get_or, drop, set, length-set, drop_of_length-le}
use lib.Seq.{drop-cons, get_or-set_same, get_or-set_other}
use borrow.Author.Tests.{eq-eqb, ne_eqb}
use Rattle.std.specs.Int.Bits.{bit_and}
use Rattle.std.proofs.lemmas.Nat.{and_mask}
use Rattle.base.specs.If.{when◌then◌else◌}
use Rattle.base.proofs.IfLaws.{true_false, or_left, or_right, is_false, below_or}
use Rattle.names.specs.Names.{on_first, parted}
use Rattle.names.specs.Lookup.{same_bytes}
use Rattle.names.proofs.LookupLaws.{same_eq}
use Rattle.text.specs.Heading.{names_in}
use Rattle.text.specs.Building.{all_but_last, is_among, has_name}
use Rattle.use_names.specs.Searched.{names_of}
use Rattle.use_names.specs.Hashed.{hashes_count, hash_more, hash_from, hash_of, Firsts, Enters}
use Rattle.use_names.proofs.NameLaws.{HasFirst, names_some}

-- ---- the hashes of a header's names

-- x is met as the hash of a name but the last, where h is the hash of the first name's bytes before s
pub is_met : ℕ → ℕ → List ℕ → Bool
is_met x h [] = false
is_met x h (b ∷ s) = when eqb b 124 then eqb x h || is_met x 0 s else is_met x (hash_more h b) s

-- the same by names
is_met_in : ℕ → ℕ → List (List ℕ) → Bool
is_met_in x h [] = false
is_met_in x h (n ∷ []) = false
is_met_in x h (n ∷ m ∷ ns) = eqb x (hash_from h n) || is_met_in x 0 (m ∷ ns)

met_bar : (x h : ℕ) (ns : List (List ℕ)) → HasFirst ns → is_met_in x h ([] ∷ ns) ≡ (eqb x h || is_met_in x 0 ns)
unfolding is_met_in hash_from
met_bar x h ns r = rw r.2

met_byte : (x h b : ℕ) (ns : List (List ℕ)) → is_met_in x h (on_first b ns) ≡ is_met_in x (hash_more h b) ns
unfolding is_met_in hash_from
met_byte x h b [] = refl
met_byte x h b (n ∷ []) = refl
met_byte x h b (n ∷ m ∷ ns) = refl

met_names : (x h : ℕ) (s : List ℕ) → is_met_in x h (names_in s) ≡ is_met x h s
unfolding is_met is_met_in parted
met_names x h [] = refl
met_names x h (b ∷ s) = by_test (eqb b 124) (met_names x 0 s) (met_names x (hash_more h b) s)
  where
    by_test : (u : Bool) → is_met_in x 0 (names_in s) ≡ is_met x 0 s
        → is_met_in x (hash_more h b) (names_in s) ≡ is_met x (hash_more h b) s
        → is_met_in x h (when u then [] ∷ names_in s else on_first b (names_in s))
        ≡ (when u then eqb x h || is_met x 0 s else is_met x (hash_more h b) s)
    by_test true e f = met_bar x h (names_in s) (names_some s) ∙ ap (λ u. eqb x h || u) e
    by_test false e f = met_byte x h b (names_in s) ∙ f

met_among : (n : List ℕ) (ns : List (List ℕ)) → is_among n (all_but_last ns) ≡ true → is_met_in (hash_of n) 0 ns ≡ true
unfolding is_met_in is_among all_but_last
met_among n [] h = h
met_among n (m ∷ []) h = h
met_among n (m ∷ k ∷ ns) h = by_same (same_bytes n m) refl h (met_among n (k ∷ ns))
  where
    by_same : (u : Bool) → same_bytes n m ≡ u → (u || is_among n (all_but_last (k ∷ ns))) ≡ true
        → (is_among n (all_but_last (k ∷ ns)) ≡ true → is_met_in (hash_of n) 0 (k ∷ ns) ≡ true)
        → (eqb (hash_of n) (hash_of m) || is_met_in (hash_of n) 0 (k ∷ ns)) ≡ true
    by_same true q g f = or_left _ _ (eq-eqb (hash_of n) (hash_of m) (ap hash_of (same_eq n m q)))
    by_same false q g f = or_right (eqb (hash_of n) (hash_of m)) _ (f g)

name_met : (n s : List ℕ) → has_name n s ≡ true → is_met (hash_of n) 0 s ≡ true
unfolding has_name
name_met n s h = sym (met_names (hash_of n) 0 s) ∙ met_among n (names_in s) h

-- ---- the names of one description are entered

-- an element is at most k where one is set to d, which is, if it was
set_most : (a : List ℕ) (h d x k : ℕ) → h < length a → d ≤ k → ((x ≡ h → ⊥) → get_or a x 0 ≤ k)
    → get_or (set a h d) x 0 ≤ k
set_most a h d x k m l f =
    elim (ℕ_discrete x h) [
      | yes e ↦ (rw (e, get_or-set_same a h d 0 m) l)
      | no n ↦ (rw (get_or-set_other a h x d 0 n) (f n))
    ]

-- the header is hashed to i, and the bytes of the name at hand have the hash h; b is the table before, a now
pub record Entering (names : List ℕ) (d : ℕ) (b a : List ℕ) (h i : ℕ) : Type 0 where
  pub within : i ≤ length names
  pub below : h < hashes_count
  pub kept : length a ≡ length b
  pub own : (x : ℕ) → is_met x 0 names ≡ true → is_met x h (drop i names) ≡ false → get_or a x 0 ≤ d
  pub others : (x k : ℕ) → d ≤ k → get_or b x 0 ≤ k → get_or a x 0 ≤ k

module _ (names : List ℕ) (d : ℕ) (b : List ℕ) where
  pub entering_none : Entering names d b b 0 0
  entering_none =
      record {
        within = omega arith;
        below = omega arith;
        kept = refl;
        own = λ x t f. true_false (sym t ∙ f);
        others = λ x k _ l. l;
      }

  module _ (a : List ℕ) (h i : ℕ) (s : Entering names d b a h i) where
    pub entering_all : length names ≤ i → Enters names d b a
    unfolding is_met
    entering_all l =
        record {
          own = λ n t. s.own (hash_of n) (name_met n names t)
              (ap (is_met (hash_of n) h) (drop_of_length-le names l));
          others = s.others;
        }

    module _ (l : i < length names) where
      rest : drop i names ≡ get_or names i 0 ∷ drop (i + 1) names
      rest = drop-cons names i 0 l ∙ ap (λ (j : ℕ). get_or names i 0 ∷ drop j names) (sym (add-one i))

      pub entering_byte : (get_or names i 0 ≡ 124 → ⊥) → (g : ℕ) → g ≡ hash_more h (get_or names i 0) → g < hashes_count
          → Entering names d b a g (i + 1)
      unfolding is_met
      entering_byte w g q m =
          record {
            within = omega arith;
            below = m;
            kept = s.kept;
            own = λ x t f. s.own x t (ap (is_met x h) rest ∙ rw (ne_eqb (get_or names i 0) 124 w, ← q) f);
            others = s.others;
          }

      pub entering_bar : get_or names i 0 ≡ 124 → h < length a → Entering names d b (set a h d) 0 (i + 1)
      unfolding is_met
      entering_bar w m =
          record {
            within = omega arith;
            below = omega arith;
            kept = length-set a h d ∙ s.kept;
            own =
                λ x t f. set_most a h d x d m (omega arith) (λ n. s.own x t (ap (is_met x h) rest
                ∙ rw (eq-eqb (get_or names i 0) 124 w, ne_eqb x h n) f));
            others = λ x k n l. set_most a h d x k m n (λ _. s.others x k n l);
          }

-- ---- all descriptions are entered

-- the low byte of a number below 256
pub low_byte : (d : ℕ) → d < 256 → bit_and d 255 ≡ d
low_byte d l = and_mask d 8 ∙ omega arith

module _ (t heads commas : List ℕ) (count : ℕ) where
  pub firsts_none : (a : List ℕ) → length a ≡ hashes_count → Firsts t heads commas count a count
  firsts_none a m = record { many = m; least = λ k l g. absurd (let z : ⊥ = omega arith in z) }

  pub firsts_more : (b a : List ℕ) (d e : ℕ) → d ≡ e + 1 → Firsts t heads commas count b d → length a ≡ length b
      → Enters (names_of t heads commas e) e b a → Firsts t heads commas count a e
  firsts_more b a d e q f m s =
      record {
        many = m ∙ f.many;
        least =
            λ k l g n h. below_or e k
            (λ o. s.others (hash_of n) k l (f.least k (omega arith) g n h))
            (λ o. let p : k ≡ e = omega arith in
            rw p (s.own n (ap (λ (k : ℕ). has_name n (names_of t heads commas k)) (sym p) ∙ h)));
      }

  pub firsts_all : (a : List ℕ) (d : ℕ) → d ≤ 0 → Firsts t heads commas count a d → Firsts t heads commas count a 0
  firsts_all a d l f = record { many = f.many; least = λ k _ g. f.least k (omega arith) g }

  -- none before the one that stands at a name's hash has the name
  pub firsts_before : (a : List ℕ) → Firsts t heads commas count a 0 → (n : List ℕ) (d : ℕ) → d < count
      → d < get_or a (hash_of n) 0 → has_name n (names_of t heads commas d) ≡ false
  firsts_before a f n d l m =
      is_false (has_name n (names_of t heads commas d)) (λ h. let k = f.least d (omega arith) l n h in
      let z : ⊥ = omega arith in z)

-- ---- the hash of one name

-- a name is hashed to i, with the hash h
abbrev pub Hashing : List ℕ → ℕ → ℕ → Type 0
Hashing n h i = (i ≤ length n) × (h < hashes_count) × (hash_from h (drop i n) ≡ hash_of n)

pub hash_more_lem : (n : List ℕ) (h i g : ℕ) → Hashing n h i → i < length n → g ≡ hash_more h (get_or n i 0) → g < hashes_count
    → Hashing n g (i + 1)
unfolding hash_from
hash_more_lem n h i g s l q m = (
  omega arith,
  m,
  ap (λ (x : ℕ). hash_from x (drop (i + 1) n)) q
      ∙ sym (ap (hash_from h) (drop-cons n i 0 l ∙ ap (λ (j : ℕ). get_or n i 0 ∷ drop j n) (sym (add-one i)))) ∙ s.2,
)

pub hash_all : (n : List ℕ) (h i : ℕ) → Hashing n h i → length n ≤ i → h ≡ hash_of n
unfolding hash_from
hash_all n h i s l = sym (ap (hash_from h) (drop_of_length-le n l)) ∙ s.2
