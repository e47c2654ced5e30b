-- The names of a header.
-- Assumes nothing.
use Rattle.std.specs.Prelude.{◌≡◌, refl, true, false, ◌&&◌, ◌||◌, List, [], ◌∷◌, eqb, leb, ltb}
use Rattle.std.specs.Prelude.{length, get_or, take, drop, Result, Ok, Err, ◌⊎◌}
use Rattle.std.proofs.Common.{sym, ◌∙◌, subst, inl, inr, not-suc-le-zero, le_of_suc-le-suc, arith}
use Rattle.std.proofs.Common.{length-drop, get_or-take, get_or-drop, drop-drop, length-take-le}
use Rattle.std.proofs.Math.Path.{ap}
use Rattle.std.proofs.Math.Bool.{Bool, not}
use Prim.Native.Nat.{ℕ, zero, suc, ◌+◌, ◌-◌, ◌≤◌, ◌<◌, suc-le-suc}
use borrow.Author.Tests.{leb-true, le-leb, eqb-true, eqb-false, eq-eqb, ne_eqb, not-true, not-false, leb-false}
use borrow.Author.Tests.{lt-leb, lt-ltb, le-ltb}
use Rattle.base.specs.If.{when◌then◌else◌}
use Rattle.base.proofs.IfLaws.{true_false, and_left, and_right, below_or, is_false}
use Rattle.base.specs.Scan.{scan, every}
use Rattle.base.proofs.ScanLaws.{scan_ge, scan_before, scan_fails, every_at, every_all}
use Rattle.base.specs.Tabulate.{Each}
use Rattle.base.proofs.TabulateLaws.{each_of}
use Rattle.word.specs.Nul.{NotNul, NoNul}
use Rattle.text.specs.declared.ByteClass.{ByteClass}
use Rattle.text.specs.declared.ByteClass.TheVariants as C
use Rattle.text.specs.declared.TextRefusal.{TextRefusal}
use Rattle.text.specs.declared.TextRefusal.TheVariants.{Malformed, Limit}
use Rattle.text.specs.Bytes.{is_in, is_alias, is_last_name, run_end}
use Rattle.names.specs.Names.{on_first, parted}
use Rattle.text.specs.Heading.{alias_most, names_in, made_of, right_names, long_alias, line_ends, names_to, header_at}
use Rattle.text_laws.specs.Runs.{run_end_lem, run_ge, run_le, run_before, run_fails}
use Rattle.text_laws.specs.FieldLaws.{byte_within}

-- ---- names between bars

-- no bar stands from i to e
abbrev pub NoBar : List ℕ → ℕ → ℕ → Type 0
NoBar s i e = (j : ℕ) → i ≤ j → j < e → get_or s j 0 ≡ 124 → ⊥

-- the name before the first bar, and the names behind it
parted_first : (s : List ℕ) (k : ℕ) → k < length s → get_or s k 0 ≡ 124 → NoBar s 0 k
    → names_in s ≡ take k s ∷ names_in (drop (suc k) s)
unfolding parted
parted_first [] k l h n = absurd (not-suc-le-zero l)
parted_first (b ∷ s) zero l h n = rw (eq-eqb b 124 h)
parted_first (b ∷ s) (suc k) l h n =
    rw (
      ne_eqb b 124 (n 0 (omega arith) (omega arith)),
      parted_first s k (le_of_suc-le-suc l) h
          (λ j _ m. n (suc j) (omega arith) (suc-le-suc m)),
    )

-- a name without a bar stands alone
parted_alone : (s : List ℕ) → NoBar s 0 (length s) → names_in s ≡ s ∷ []
unfolding parted
parted_alone [] n = refl
parted_alone (b ∷ s) n =
    rw (
      ne_eqb b 124 (n 0 (omega arith) (omega arith)),
      parted_alone s
          (λ j _ m. n (suc j) (omega arith) (suc-le-suc m)),
    )

-- some name is there
abbrev Some : List (List ℕ) → Type 0
Some ns = (m : List ℕ) × (ms : List (List ℕ)) × (ns ≡ m ∷ ms)

parted_some : (s : List ℕ) → Some (names_in s)
unfolding parted
parted_some [] = ([], [], refl)
parted_some (b ∷ s) = by_test (eqb b 124) (parted_some s)
  where
    by_test : (u : Bool) → Some (names_in s) → Some (when u then [] ∷ names_in s else on_first b (names_in s))
    by_test true r = ([], names_in s, refl)
    by_test false r = (b ∷ r.0, r.1, rw r.2)

-- ---- the same at a place of the names

module _ (n : List ℕ) (i : ℕ) where
  pub parted_bar : (e : ℕ) → i ≤ e → e < length n → get_or n e 0 ≡ 124 → NoBar n i e
      → names_in (drop i n) ≡ take (e - i) (drop i n) ∷ names_in (drop (e + 1) n)
  parted_bar e l m h b =
      let k : i + (e - i) ≡ e = omega arith in
      let k' : i + suc (e - i) ≡ e + 1 = omega arith in
      parted_first (drop i n) (e - i) (rw (length-drop i n) (omega arith))
      (get_or-drop i n (e - i) 0 ∙ ap (λ (k : ℕ). get_or n k 0) k ∙ h)
      (λ j _ k q. b (i + j) (omega arith) (omega arith) (sym (get_or-drop i n j 0) ∙ q))
      ∙ ap (λ r. take (e - i) (drop i n) ∷ names_in r) (drop-drop (suc (e - i)) i n ∙ ap (λ (k : ℕ). drop k n) k')

  pub parted_last : NoBar n i (length n) → names_in (drop i n) ≡ drop i n ∷ []
  parted_last b =
      parted_alone (drop i n) (λ j _ k q. b (i + j) (omega arith) (let m = length-drop i n in omega arith)
      (sym (get_or-drop i n j 0) ∙ q))

-- ---- a name but the last that is long

long_first : (m : List ℕ) (ms : List (List ℕ)) → Some ms
    → long_alias (m ∷ ms) ≡ (ltb alias_most (length m) || long_alias ms)
unfolding long_alias
long_first m ms r = rw r.2

module _ (n : List ℕ) (i : ℕ) where
  -- a bar at e
  pub long_bar : (e : ℕ) → i ≤ e → e < length n → get_or n e 0 ≡ 124 → NoBar n i e
      → long_alias (names_in (drop i n)) ≡ (ltb alias_most (e - i) || long_alias (names_in (drop (e + 1) n)))
  long_bar e l m h b =
      ap long_alias (parted_bar n i e l m h b)
      ∙ long_first (take (e - i) (drop i n)) (names_in (drop (e + 1) n)) (parted_some (drop (e + 1) n))
      ∙ ap (λ (k : ℕ). ltb alias_most k || long_alias (names_in (drop (e + 1) n)))
      (length-take-le (e - i) (drop i n) (rw (length-drop i n) (omega arith)))

  -- none
  pub long_last : NoBar n i (length n) → long_alias (names_in (drop i n)) ≡ false
  unfolding long_alias
  long_last b = ap long_alias (parted_last n i b)

-- a search for a long name: the name at hand starts at start and goes on at i, and no name before it is long
pub record Passed (n : List ℕ) (start i : ℕ) : Type 0 where
  pub from : start ≤ i
  pub within : i ≤ length n
  pub name : NoBar n start i
  pub rest : long_alias (names_in (drop start n)) ≡ long_alias (names_in n)

pub passed_none : (n : List ℕ) → Passed n 0 0
passed_none n =
    record {
      from = omega arith;
      within = omega arith;
      name = λ j a b. absurd (let z : ⊥ = omega arith in z);
      rest = refl;
    }

module _ (n : List ℕ) (start i : ℕ) (p : Passed n start i) where
  pub passed_more : i < length n → (get_or n i 0 ≡ 124 → ⊥) → Passed n start (i + 1)
  passed_more l h =
      record {
        from = omega arith;
        within = omega arith;
        name =
            λ j a b. below_or j i (λ m. p.name j a m) (λ m q. let k : i ≡ j = omega arith
            in h (ap (λ (k : ℕ). get_or n k 0) k ∙ q));
        rest = p.rest;
      }

  pub passed_bar : i < length n → get_or n i 0 ≡ 124 → i - start ≤ alias_most → Passed n (i + 1) (i + 1)
  passed_bar l h m =
      record {
        from = omega arith;
        within = omega arith;
        name = λ j a b. absurd (let z : ⊥ = omega arith in z);
        rest =
            ap (λ b. b || long_alias (names_in (drop (i + 1) n))) (sym (le-ltb alias_most (i - start) m))
            ∙ sym (long_bar n start i p.from l h p.name) ∙ p.rest;
      }

  pub passed_long : i < length n → get_or n i 0 ≡ 124 → alias_most < i - start → true ≡ long_alias (names_in n)
  passed_long l h m =
      ap (λ b. b || long_alias (names_in (drop (i + 1) n))) (sym (lt-ltb alias_most (i - start) m))
      ∙ sym (long_bar n start i p.from l h p.name) ∙ p.rest

  pub passed_all : length n ≤ i → false ≡ long_alias (names_in n)
  passed_all l = sym (long_last n start (λ j a b. p.name j a (omega arith))) ∙ p.rest

-- ---- a name of one class of bytes

and-false : (b : Bool) → (b && false) ≡ false
and-false true = refl
and-false false = refl

module _ (c : ByteClass) (s : List ℕ) where
  made_all : 1 ≤ length s → ((j : ℕ) → j < length s → is_in c (get_or s j 0) ≡ true) → made_of c s ≡ true
  unfolding made_of
  made_all l h = rw (le-leb 1 (length s) l) (every_all (λ j. is_in c (get_or s j 0)) (length s) h)

  made_some : made_of c s ≡ true → 1 ≤ length s
  unfolding made_of
  made_some e = leb-true 1 (length s) (and_left _ (every (λ j. is_in c (get_or s j 0)) (length s)) e)

  made_at : made_of c s ≡ true → (j : ℕ) → j < length s → is_in c (get_or s j 0) ≡ true
  unfolding made_of
  made_at e j l = every_at (λ j. is_in c (get_or s j 0)) (length s) j (and_right (leb 1 (length s)) _ e) l

-- as a part of the names
module _ (c : ByteClass) (n : List ℕ) (i : ℕ) where
  module _ (e : ℕ) (l : i ≤ e) (m : e ≤ length n) where
    part_length : length (take (e - i) (drop i n)) ≡ e - i
    part_length = length-take-le (e - i) (drop i n) (rw (length-drop i n) (omega arith))

    part_at : (j : ℕ) → i ≤ j → j < e → get_or (take (e - i) (drop i n)) (j - i) 0 ≡ get_or n j 0
    part_at j a b =
        let k : i + (j - i) ≡ j = omega arith in
        get_or-take (e - i) (drop i n) (j - i) 0 (omega arith) ∙ get_or-drop i n (j - i) 0
        ∙ ap (λ (k : ℕ). get_or n k 0) k

    part_made : i < e → ((j : ℕ) → i ≤ j → j < e → is_in c (get_or n j 0) ≡ true)
        → made_of c (take (e - i) (drop i n)) ≡ true
    part_made b h =
        made_all c (take (e - i) (drop i n)) (rw part_length (omega arith))
        (λ j k. let k' : j < e - i = rw part_length at k in
        rw (get_or-take (e - i) (drop i n) j 0 k', get_or-drop i n j 0) (h (i + j) (omega arith) (omega arith)))

    made_part : made_of c (take (e - i) (drop i n)) ≡ true
        → (i < e) × ((j : ℕ) → i ≤ j → j < e → is_in c (get_or n j 0) ≡ true)
    made_part h = (
      let k = made_some c (take (e - i) (drop i n)) h in let k' = part_length in omega arith,
      λ j a b. rw (← (part_at j a b)) (made_at c (take (e - i) (drop i n)) h (j - i) (rw part_length (omega arith))),
    )

  -- where a run ends
  run_is : (k : ℕ) → i ≤ k → k ≤ length n → ((j : ℕ) → i ≤ j → j < k → is_in c (get_or n j 0) ≡ true)
      → (k < length n → is_in c (get_or n k 0) ≡ false) → run_end c n i ≡ k
  run_is k l m h f =
      below_or (run_end c n i) k
      (λ b. true_false (sym (h (run_end c n i) (run_ge c n i) b) ∙ run_fails c n i (omega arith)))
      (λ b. below_or k (run_end c n i)
      (λ a. let w = run_le c n i (omega arith) in true_false (sym (run_before c n i k l a) ∙ f (omega arith)))
      (λ a. omega arith))

  -- the last name stands from i to the end
  pub made_none : run_end c n i ≤ i → made_of c (drop i n) ≡ false
  made_none l =
      is_false (made_of c (drop i n)) λ h.
      let k = made_some c (drop i n) h in
      let k' = length-drop i n in
      let z : is_in c (get_or n i 0) ≡ true = at_start (made_at c (drop i n) h 0 k) in
      let g = run_ge c n i in
      let q : run_end c n i ≡ i = omega arith in
      true_false (sym z ∙ ap (λ (j : ℕ). is_in c (get_or n j 0)) (sym q) ∙ run_fails c n i (omega arith))
    where
      at_start : is_in c (get_or (drop i n) 0 0) ≡ true → is_in c (get_or n i 0) ≡ true
      at_start h =
          let k : i + 0 ≡ i = omega arith in ap (λ (j : ℕ). is_in c (get_or n j 0)) (sym k)
          ∙ ap (is_in c) (sym (get_or-drop i n 0 0)) ∙ h

  pub made_run : i < run_end c n i → made_of c (drop i n) ≡ eqb (run_end c n i) (length n)
  made_run l =
      below_or i (length n)
      (λ a. below_or (run_end c n i) (length n)
      (λ b. short a b)
      (λ b. let w = run_le c n i (omega arith) in whole a (omega arith)))
      (λ a. absurd (let z = run_end_lem c n i a in let y : ⊥ = omega arith in y))
    where
      short : i < length n → run_end c n i < length n → made_of c (drop i n) ≡ eqb (run_end c n i) (length n)
      short a b =
          let g = run_ge c n i in
          let k : i + (run_end c n i - i) ≡ run_end c n i = omega arith in
          let k' : run_end c n i - i < length (drop i n) = rw (length-drop i n) (omega arith) in
          is_false (made_of c (drop i n))
          (λ h. true_false (sym (made_at c (drop i n) h (run_end c n i - i) k')
          ∙ ap (is_in c) (get_or-drop i n (run_end c n i - i) 0 ∙ ap (λ (j : ℕ). get_or n j 0) k) ∙ run_fails c n i b))
          ∙ sym (ne_eqb (run_end c n i) (length n) (λ q. omega arith))

      whole : i < length n → run_end c n i ≡ length n → made_of c (drop i n) ≡ eqb (run_end c n i) (length n)
      whole a b =
          let q = length-drop i n in
          made_all c (drop i n) (omega arith) (λ j k. rw (get_or-drop i n j 0)
          (run_before c n i (i + j) (omega arith) (omega arith)))
          ∙ sym (eq-eqb (run_end c n i) (length n) b)

-- ---- right names

-- the names are right, where others stand before them or none does
unfoldable pub right_rest : Bool → List (List ℕ) → Bool
right_rest several [] = false
right_rest several (n ∷ []) = several && made_of C.LastName n
right_rest several (n ∷ m ∷ ns) = made_of C.Alias n && right_rest true (m ∷ ns)

pub right_rest_lem : (ns : List (List ℕ)) → right_rest false ns ≡ right_names ns
unfolding right_rest right_names
right_rest_lem [] = refl
right_rest_lem (n ∷ []) = refl
right_rest_lem (n ∷ m ∷ []) = refl
right_rest_lem (n ∷ m ∷ l ∷ ns) = ap (λ b. made_of C.Alias n && b) (right_rest_lem (m ∷ l ∷ ns))

bar_alias : is_in C.Alias 124 ≡ false
unfolding is_in is_alias
bar_alias = refl

bar_last : is_in C.LastName 124 ≡ false
unfolding is_in is_last_name
bar_last = refl

rest_first : (several : Bool) (m : List ℕ) (ms : List (List ℕ)) → Some ms
    → right_rest several (m ∷ ms) ≡ (made_of C.Alias m && right_rest true ms)
unfolding right_rest
rest_first several m ms r = rw r.2

module _ (n : List ℕ) (several : Bool) (i : ℕ) where
  -- a name that a bar ends
  pub rest_bar : (e : ℕ) → e ≡ run_end C.Alias n i → i < e → get_or n e 0 ≡ 124 → e < length n
      → right_rest several (names_in (drop i n)) ≡ right_rest true (names_in (drop (e + 1) n))
  rest_bar e q l h m =
      ap (right_rest several) (parted_bar n i e (omega arith) m h (λ j a b g. true_false
      (sym (before j a b) ∙ ap (is_in C.Alias) g ∙ bar_alias)))
      ∙ rest_first several (take (e - i) (drop i n)) (names_in (drop (e + 1) n)) (parted_some (drop (e + 1) n))
      ∙ ap (λ b. b && right_rest true (names_in (drop (e + 1) n)))
      (part_made C.Alias n i e (omega arith) (omega arith) l before)
    where
      before : (j : ℕ) → i ≤ j → j < e → is_in C.Alias (get_or n j 0) ≡ true
      before j a b = run_before C.Alias n i j a (omega arith)

  -- any other is the last or is wrong
  pub rest_last : (i < run_end C.Alias n i → get_or n (run_end C.Alias n i) 0 ≡ 124 → ⊥)
      → right_rest several (names_in (drop i n)) ≡ (several && made_of C.LastName (drop i n))
  unfolding right_rest
  rest_last w =
      below_or k (length n)
      (λ b. barred bar_ge b (bar_is b))
      (λ b. ap (right_rest several) (parted_last n i (λ j a m. no_bar j a (omega arith))))
    where
      other : ℕ → Bool
      other j = not (eqb (get_or n j 0) 124)

      -- the first bar
      k : ℕ
      k = scan other i (length n - i)

      bar_ge : i ≤ k
      bar_ge = scan_ge other i (length n - i)

      no_bar : NoBar n i k
      no_bar j a b =
          eqb-false (get_or n j 0) 124 (not-true (eqb (get_or n j 0) 124) (scan_before other i (length n - i) j a b))

      bar_is : k < length n → get_or n k 0 ≡ 124
      bar_is b =
          eqb-true (get_or n k 0) 124 (not-false (eqb (get_or n k 0) 124)
          (scan_fails other i (length n - i) (let g = bar_ge in omega arith)))

      no_alias : k < length n → get_or n k 0 ≡ 124 → i ≤ k → made_of C.Alias (take (k - i) (drop i n)) ≡ false
      no_alias b h l =
          is_false (made_of C.Alias (take (k - i) (drop i n))) λ m.
          let p = made_part C.Alias n i k l (omega arith) m in
          let q : run_end C.Alias n i ≡ k =
          run_is C.Alias n i k l (omega arith) p.1 (λ _. ap (is_in C.Alias) h ∙ bar_alias) in
          w (rw q p.0) (ap (λ (j : ℕ). get_or n j 0) q ∙ h)

      no_last : k < length n → get_or n k 0 ≡ 124 → i ≤ k → made_of C.LastName (drop i n) ≡ false
      no_last b h l =
          let q : i + (k - i) ≡ k = omega arith in
          is_false (made_of C.LastName (drop i n)) λ m.
          true_false (sym (made_at C.LastName (drop i n) m (k - i) (rw (length-drop i n) (omega arith)))
          ∙ ap (is_in C.LastName) (get_or-drop i n (k - i) 0 ∙ ap (λ (j : ℕ). get_or n j 0) q ∙ h) ∙ bar_last)

      barred : i ≤ k → k < length n → get_or n k 0 ≡ 124
          → right_rest several (names_in (drop i n)) ≡ (several && made_of C.LastName (drop i n))
      barred l b h =
          ap (right_rest several) (parted_bar n i k l b h no_bar)
          ∙ rest_first several (take (k - i) (drop i n)) (names_in (drop (k + 1) n)) (parted_some (drop (k + 1) n))
          ∙ ap (λ a. a && right_rest true (names_in (drop (k + 1) n))) (no_alias b h l)
          ∙ sym (and-false several)
          ∙ ap (λ a. several && a) (sym (no_last b h l))

-- a search for a wrong name: the names from i on are right if all are
pub record NamesAt (n : List ℕ) (several : Bool) (i : ℕ) : Type 0 where
  pub within : i ≤ length n
  pub rest : right_rest several (names_in (drop i n)) ≡ right_names (names_in n)

pub names_start : (n : List ℕ) → NamesAt n false 0
names_start n = record { within = omega arith; rest = right_rest_lem (names_in n) }

module _ (n : List ℕ) (several : Bool) (i e : ℕ) (q : e ≡ run_end C.Alias n i) (s : NamesAt n several i) where
  pub names_bar : i < e → get_or n e 0 ≡ 124 → NamesAt n true (e + 1)
  names_bar l h =
      let m = byte_within n e 124 refl h in
      record { within = omega arith; rest = sym (rest_bar n several i e q l h m) ∙ s.rest }

  pub names_last : (i < e → get_or n e 0 ≡ 124 → ⊥)
      → (several && made_of C.LastName (drop i n)) ≡ right_names (names_in n)
  names_last w = sym (rest_last n several i (λ l h. w (rw q l) (ap (λ (k : ℕ). get_or n k 0) q ∙ h))) ∙ s.rest

-- ---- right names hold no NUL

-- what holds of each byte of each name, and of the bar, holds of each byte
parted_each : (P : ℕ → Type 0) (s : List ℕ) → P 124 → Each (Each P) (names_in s) → Each P s
unfolding parted
parted_each P [] b e = tt
parted_each P (x ∷ s) b e = by_test (eqb x 124) refl e (λ r. parted_each P s b r)
  where
    on_first_lem : (ns : List (List ℕ)) → Each (Each P) (on_first x ns) → P x × Each (Each P) ns
    on_first_lem [] h = (h.0.0, tt)
    on_first_lem (n ∷ ns) h = (h.0.0, (h.0.1, h.1))

    by_test : (u : Bool) → eqb x 124 ≡ u → Each (Each P) (when u then [] ∷ names_in s else on_first x (names_in s))
        → (Each (Each P) (names_in s) → Each P s) → Each P (x ∷ s)
    by_test true q h rest = (subst P (sym (eqb-true x 124 q)) b, rest h.1)
    by_test false q h rest = let p = on_first_lem (names_in s) h in (p.0, rest p.1)

nul_out : (c : ByteClass) → is_in c 0 ≡ false → (s : List ℕ) → made_of c s ≡ true → NoNul s
nul_out c z s h = each_of NotNul s 0 (λ j l q. true_false (sym (made_at c s h j l) ∙ ap (is_in c) q ∙ z))

alias_free : (s : List ℕ) → made_of C.Alias s ≡ true → NoNul s
unfolding is_in is_alias
alias_free s h = nul_out C.Alias refl s h

last_free : (s : List ℕ) → made_of C.LastName s ≡ true → NoNul s
unfolding is_in is_last_name
last_free s h = nul_out C.LastName refl s h

each_free : (ns : List (List ℕ)) → right_names ns ≡ true → Each NoNul ns
unfolding right_names
each_free [] h = tt
each_free (n ∷ []) h = true_false (sym h)
each_free (n ∷ m ∷ []) h = (
  alias_free n (and_left (made_of C.Alias n) (made_of C.LastName m) h),
  (last_free m (and_right (made_of C.Alias n) (made_of C.LastName m) h), tt),
)
each_free (n ∷ m ∷ l ∷ ns) h = (
  alias_free n (and_left (made_of C.Alias n) (right_names (m ∷ l ∷ ns)) h),
  each_free (m ∷ l ∷ ns)
      (and_right (made_of C.Alias n) (right_names (m ∷ l ∷ ns)) h),
)

module _ (n : List ℕ) (h : right_names (names_in n) ≡ true) where
  pub names_free_lem : NoNul n
  names_free_lem = parted_each NotNul n (λ q. omega arith) (each_free (names_in n) h)

pub names_some : (n : List ℕ) → right_names (names_in n) ≡ true → 1 ≤ length n
unfolding parted right_names
names_some [] h = true_false (sym h)
names_some (b ∷ n) h = omega arith

-- ---- the header

module _ (t : List ℕ) (i c : ℕ) (q : c ≡ run_end C.Header t i) where
  pub header_past : length t ≤ c → Err Malformed ≡ header_at t i
  unfolding header_at
  header_past h = rw (← q, le-leb (length t) c h)

  module _ (l : c < length t) where
    pub header_wrong : right_names (names_in (names_to t i c)) ≡ false → Err Malformed ≡ header_at t i
    unfolding header_at
    header_wrong h = rw (← q, lt-leb (length t) c l, h)

    module _ (n : right_names (names_in (names_to t i c)) ≡ true) where
      pub header_more : line_ends t (run_end C.Blank t (c + 1)) ≡ false → Err Malformed ≡ header_at t i
      unfolding header_at
      header_more h = rw (← q, lt-leb (length t) c l, n, h)

      module _ (e : line_ends t (run_end C.Blank t (c + 1)) ≡ true) where
        pub header_long : long_alias (names_in (names_to t i c)) ≡ true → Err Limit ≡ header_at t i
        unfolding header_at
        header_long h = rw (← q, lt-leb (length t) c l, n, e, h)

        pub header_is : long_alias (names_in (names_to t i c)) ≡ false → Ok c ≡ header_at t i
        unfolding header_at
        header_is h = rw (← q, lt-leb (length t) c l, n, e, h)

-- a header that is right has its comma in the text, and right names before it
pub record Headed (t : List ℕ) (i c : ℕ) : Type 0 where
  pub place : i ≤ c
  pub within : c < length t
  pub names : right_names (names_in (names_to t i c)) ≡ true

pub header_right : (t : List ℕ) (i c : ℕ) → header_at t i ≡ Ok c → Headed t i c
unfolding header_at
header_right t i c e =
    by_tests (leb (length t) r) refl (right_names (names_in (names_to t i r))) refl
    (line_ends t (run_end C.Blank t (r + 1)))
    (long_alias (names_in (names_to t i r)))
    e
  where
    r : ℕ
    r = run_end C.Header t i

    clash : ◌≡◌ {A = Result ℕ TextRefusal} (Err Malformed) (Ok c) → Headed t i c
    clash q = absurd (let z : ◌≡◌ {A = ℕ} 0 1 = cc in (let y : ⊥ = omega arith in y))

    by_tests : (past : Bool) → leb (length t) r ≡ past
        → (names : Bool) → right_names (names_in (names_to t i r)) ≡ names
        → (ends long : Bool)
        → (when past then Err Malformed else when not names then Err Malformed else when not ends then Err Malformed
        else when long then Err Limit else Ok r) ≡ Ok c
        → Headed t i c
    by_tests true p names q ends long h = clash h
    by_tests false p false q ends long h = clash h
    by_tests false p true q false long h = clash h
    by_tests false p true q true true h = absurd (let z : ◌≡◌ {A = ℕ} 0 1 = cc in (let y : ⊥ = omega arith in y))
    by_tests false p true q true false h =
        let k : r ≡ c = cc in
        subst (Headed t i) k (record { place = run_ge C.Header t i; within = leb-false (length t) r p; names = q })

-- a header's refusals
pub header_refusal : (t : List ℕ) (i : ℕ) (r : TextRefusal) → header_at t i ≡ Err r → (r ≡ Malformed) ⊎ (r ≡ Limit)
unfolding header_at
header_refusal t i r e =
    by_tests (leb (length t) c) (not (right_names (names_in (names_to t i c))))
    (not (line_ends t (run_end C.Blank t (c + 1)))) (long_alias (names_in (names_to t i c))) e
  where
    c : ℕ
    c = run_end C.Header t i

    refusal_is : {s : TextRefusal} → ◌≡◌ {A = Result ℕ TextRefusal} (Err s) (Err r) → r ≡ s
    refusal_is q = cc

    by_tests : (past wrong more long : Bool)
        → (when past then Err Malformed else when wrong then Err Malformed else when more then Err Malformed
        else when long then Err Limit else Ok c) ≡ Err r
        → (r ≡ Malformed) ⊎ (r ≡ Limit)
    by_tests true wrong more long h = inl (refusal_is h)
    by_tests false true more long h = inl (refusal_is h)
    by_tests false false true long h = inl (refusal_is h)
    by_tests false false false true h = inr (refusal_is h)
    by_tests false false false false h = absurd (let z : ◌≡◌ {A = ℕ} 0 1 = cc in (let y : ⊥ = omega arith in y))
