-- Laws of entries that hold their file.
-- Assumes nothing.
use mathlib.Core.Path.{◌≡◌, refl, sym, ap, subst, ◌∙◌}
use mathlib.Core.Bool.{Bool, true, false, ◌&&◌, ◌||◌, not}
use mathlib.Core.List.{List, [], ◌∷◌}
use Prim.Native.Nat.{ℕ}
use native.Mathlib.Omega.{arith}
use lib.Dec.{eqb}
use lib.ListN.{get_or}
use borrow.Author.Tests.{eqb-true, eqb-false}
use Rattle.base.specs.If.{when◌then◌else◌}
use Rattle.base.proofs.IfLaws.{true_false, and_left, and_right, or_left, or_right, if_true, if_false}
use Rattle.base.proofs.IfLaws.{if_both, eqb_refl}
use Rattle.edition.specs.declared.Edition.{Edition}
use Rattle.edition.specs.declared.Place.{Place}
use Rattle.edition.specs.Edition.{ok_edition, knows}
use Rattle.entry.specs.declared.Sizes.{Sizes}
use Rattle.entry.specs.declared.Tables.{Tables}
use Rattle.entry.specs.declared.Beyond.{Beyond}
use Rattle.entry.specs.declared.Opening.{Opening}
use Rattle.base.specs.Answer.{Answer, refused, gives, map_answer, is_given}
use Rattle.entry.specs.Layout.{sizes_of, beyond_of}
use Rattle.entry.specs.Reading.{reading, names_part, boolean_in, number_in, part_in}
use Rattle.entry.specs.Asking.{opening_of, opening, asking, asking_names, asking_boolean, asking_number, asking_string}
use Rattle.entry_laws.specs.Accepted.{reading_lines}
use Rattle.file_positions.specs.Positions.{Values}
use Rattle.file_positions.proofs.Positions.{positions}
use Rattle.entry_numbers.specs.declared.EntryNumbers.{EntryNumbers}
use Rattle.entry_numbers.specs.Entries.{numbers_of, opened, same_edition, same_tables, same_beyond, same, from_opening, refusal_of, entry_refusal, asked, entry_names, entry_boolean, entry_number, entry_string, entry_beyond}

-- ---- comparing

pub compared : (a b : EntryNumbers) (x y z : Bool) → x ≡ same_edition a.edition b.edition → y ≡ same_tables a.tables b.tables → z ≡ same_beyond a.beyond b.beyond
    → (x && (y && (z && (eqb a.refusal b.refusal && eqb a.position b.position)))) ≡ same a b
unfolding same
compared a b x y z p q r =
    λ i. p i && (q i && (r i && (eqb a.refusal b.refusal && eqb a.position b.position)))

pub same_refl : (n : EntryNumbers) → same n n ≡ true
unfolding same same_edition same_tables same_beyond
same_refl n = simp (eqb_refl)

-- what a test of two numbers and another test says
eqb_and : (x y : ℕ) (t : Bool) → (eqb x y && t) ≡ true → (x ≡ y) × (t ≡ true)
eqb_and x y t h = (eqb-true x y (and_left (eqb x y) t h), and_right (eqb x y) t h)

edition_is : (a b : Edition) → same_edition a b ≡ true → a ≡ b
unfolding same_edition
edition_is a b h =
    let p = eqb_and a.booleans b.booleans _ h in
    let q = eqb_and a.numbers b.numbers _ p.1 in
    let r = eqb-true a.strings b.strings q.1 in
    λ i. record { booleans = p.0 i; numbers = q.0 i; strings = r i }

tables_are : (a b : Tables) → same_tables a b ≡ true → a ≡ b
unfolding same_tables
tables_are a b h =
    let p = eqb_and a.booleans b.booleans _ h in
    let q = eqb_and a.numbers b.numbers _ p.1 in
    let r = eqb_and a.strings b.strings _ q.1 in
    let u = eqb_and a.booleans_at b.booleans_at _ r.1 in
    let v = eqb_and a.numbers_at b.numbers_at _ u.1 in
    let w = eqb_and a.strings_at b.strings_at _ v.1 in
    let x = eqb-true a.table_at b.table_at w.1 in
    λ i. record { booleans = p.0 i; numbers = q.0 i; strings = r.0 i; booleans_at = u.0 i; numbers_at = v.0 i; strings_at = w.0 i; table_at = x i }

beyond_is : (a b : Beyond) → same_beyond a b ≡ true → a ≡ b
unfolding same_beyond
beyond_is a b h =
    let p = eqb_and a.booleans b.booleans _ h in
    let q = eqb_and a.numbers b.numbers _ p.1 in
    let r = eqb-true a.strings b.strings q.1 in
    λ i. record { booleans = p.0 i; numbers = q.0 i; strings = r i }

-- numbers that compare equal are equal
pub same_is : (a b : EntryNumbers) → same a b ≡ true → a ≡ b
unfolding same
same_is a b h =
    let after-edition = and_right (same_edition a.edition b.edition) _ h in
    let after-tables = and_right (same_tables a.tables b.tables) _ after-edition in
    let p = edition_is a.edition b.edition (and_left (same_edition a.edition b.edition) _ h) in
    let q = tables_are a.tables b.tables (and_left (same_tables a.tables b.tables) _ after-edition) in
    let r = beyond_is a.beyond b.beyond (and_left (same_beyond a.beyond b.beyond) _ after-tables) in
    let x = eqb_and a.refusal b.refusal _ (and_right (same_beyond a.beyond b.beyond) _ after-tables) in
    let y = eqb-true a.position b.position x.1 in
    λ i. record { edition = p i; tables = q i; beyond = r i; refusal = x.0 i; position = y i }

-- ---- asking an entry

-- what is given was asked of an entry that opening gives
pub asked_given : {A : Type 0} (f : List ℕ) (n : EntryNumbers) (x : Answer A) (y : A) → gives y ≡ asked f n x → gives y ≡ x
unfolding asked
asked_given f n x y q = by_test (same n (opened n.edition f)) q
  where
    by_test : (t : Bool) → gives y ≡ (when t then x else refused 17 []) → gives y ≡ x
    by_test true p = p
    by_test false p = true_false (ap is_given p)

-- the entry's numbers compared with those that opening gives
module _ (f : List ℕ) (n : EntryNumbers) (o : Answer Opening) (m : EntryNumbers) (t : Bool) (p : o ≡ opening n.edition f) (q : m ≡ numbers_of n.edition o) (r : t ≡ same n m) where
  test : t ≡ same n (opened n.edition f)
  test = r ∙ ap (same n) (q ∙ ap (numbers_of n.edition) p)

  pub asked_other : {A : Type 0} (x : Answer A) → t ≡ false → refused 17 [] ≡ asked f n x
  unfolding asked
  asked_other x h = if_false (same n (opened n.edition f)) x (refused 17 []) (sym test ∙ h)

  pub asked_same : {A : Type 0} (x y : Answer A) → t ≡ true → y ≡ x → y ≡ asked f n x
  unfolding asked
  asked_same x y h e = e ∙ if_true (same n (opened n.edition f)) x (refused 17 []) (sym test ∙ h)

  -- what opening said, where it gives these numbers; else compared with those of an edition that was too large
  pub refusal_own : (x : Answer (Unit {0})) → x ≡ refusal_of o → t ≡ true → x ≡ entry_refusal f n
  unfolding entry_refusal
  refusal_own x e h = rw (sym test ∙ h, ← p) e

  module _ (u : Bool) (s : u ≡ same n (numbers_of n.edition (refused 3 []))) (h : t ≡ false) where
    pub refusal_large : u ≡ true → refused 3 [] ≡ entry_refusal f n
    unfolding entry_refusal
    refusal_large k = rw (← test, h, ← s, k)

    pub refusal_other : u ≡ false → refused 17 [] ≡ entry_refusal f n
    unfolding entry_refusal
    refusal_other k = rw (← test, h, ← s, k)

-- ---- an entry that opening gave

-- a refusal's number is not 0
abbrev Numbered : {A : Type 0} → Answer A → Type 0
Numbered (refused n v) = n ≡ 0 → ⊥
Numbered (gives x) = Unit {0}

numbered_map : {A B : Type 0} (g : A → B) (x : Answer A) → Numbered x → Numbered (map_answer g x)
numbered_map g (refused n v) h = h
numbered_map g (gives x) h = tt

reading_numbered : (f : List ℕ) → Numbered (reading f)
reading_numbered f =
    reading_lines f Numbered (record {
      on1 = eqb-false 1 0 refl;
      on2 = eqb-false 2 0 refl;
      on3 = eqb-false 3 0 refl;
      on4 = λ _ _. eqb-false 4 0 refl;
      on5 = λ _ _. eqb-false 5 0 refl;
      on6 = λ _ _. eqb-false 6 0 refl;
      on7 = λ _ _. eqb-false 7 0 refl;
      accepted = λ _. tt;
    })

opening_numbered : (e : Edition) (f : List ℕ) → Numbered (opening e f)
unfolding opening
opening_numbered e f =
    if_both Numbered (not (ok_edition e)) (λ _. eqb-false 3 0 refl)
    (λ _. numbered_map (opening_of e) (reading f) (reading_numbered f))

module _ {A : Type 0} (e : Edition) (f : List ℕ) (known : Edition → Bool) (x : Edition → A) where
  unopened : (E : Edition) (n : ℕ) (v : List ℕ) → refused n v ≡ opening E f → refused 17 [] ≡ asking E f (known E) (x E)
  unfolding asking
  unopened E n v q = rw (← q)

  -- asking the entry is asking the file in the edition
  pub opened_asked : asked f (opened e f) (asking (opened e f).edition f (known (opened e f).edition) (x (opened e f).edition)) ≡ asking e f (known e) (x e)
  unfolding asked
  opened_asked = by_answer (opening e f) refl
    where
      refused_again : (k : ℕ) (v : List ℕ) (b : Answer Opening) (N : EntryNumbers) (E : Edition) → (k ≡ 0 → ⊥) → N.refusal ≡ k → b ≡ opening E f
          → (when same N (numbers_of E b) then asking E f (known E) (x E) else refused 17 []) ≡ refused 17 []
      refused_again k v (refused j w) N E z r q = by_test (same N (numbers_of E (refused j w)))
        where
          by_test : (t : Bool) → (when t then asking E f (known E) (x E) else refused 17 []) ≡ refused 17 []
          by_test true = sym (unopened E j w q)
          by_test false = refl
      refused_again k v (gives o) N E z r q = by_test (same N (numbers_of E (gives o))) refl
        where
          by_test : (t : Bool) → same N (numbers_of E (gives o)) ≡ t → (when t then asking E f (known E) (x E) else refused 17 []) ≡ refused 17 []
          by_test true h = absurd (z (sym r ∙ ap (λ (m : EntryNumbers). m.refusal) (same_is N (numbers_of E (gives o)) h)))
          by_test false h = refl

      by_answer : (a : Answer Opening) → a ≡ opening e f
          → (when same (numbers_of e a) (opened (numbers_of e a).edition f) then asking (numbers_of e a).edition f (known (numbers_of e a).edition) (x (numbers_of e a).edition) else refused 17 []) ≡ asking e f (known e) (x e)
      by_answer (gives o) q = sym (if_true (same (numbers_of e (gives o)) (opened e f)) (asking e f (known e) (x e)) (refused 17 []) (ap (λ (b : Answer Opening). same (numbers_of e (gives o)) (numbers_of e b)) (sym q) ∙ same_refl (numbers_of e (gives o))))
      by_answer (refused k v) q = refused_again k v (opening (numbers_of e (refused k v)).edition f) (numbers_of e (refused k v)) (numbers_of e (refused k v)).edition (is-numbered k v (opening e f) q (opening_numbered e f)) refl refl ∙ unopened e k v q
        where
          is-numbered : (k : ℕ) (v : List ℕ) (a : Answer Opening) → refused k v ≡ a → Numbered a → k ≡ 0 → ⊥
          is-numbered k v (refused j w) p h z = h ((let y : j ≡ k = cc in y) ∙ z)
          is-numbered k v (gives o) p h z = true_false (ap is_given (sym p))

pub opened_names : (e : Edition) (f : List ℕ) → entry_names f (opened e f) ≡ asking_names e f
opened_names e f = opened_asked e f (λ E. true) (λ E. names_part (sizes_of f))

pub opened_boolean : (e : Edition) (f : List ℕ) (p : Place) → entry_boolean f (opened e f) p ≡ asking_boolean e f p
opened_boolean e f p = opened_asked e f (λ E. knows E.booleans p) (λ E. boolean_in f (sizes_of f) p)

pub opened_number : (e : Edition) (f : List ℕ) (p : Place) → entry_number f (opened e f) p ≡ asking_number e f p
opened_number e f p = opened_asked e f (λ E. knows E.numbers p) (λ E. number_in f (sizes_of f) p)

pub opened_string : (e : Edition) (f : List ℕ) (p : Place) → entry_string f (opened e f) p ≡ asking_string e f p
opened_string e f p = opened_asked e f (λ E. knows E.strings p) (λ E. part_in f (sizes_of f) p)

pub opened_beyond : (e : Edition) (f : List ℕ) → entry_beyond f (opened e f) ≡ asking e f true (beyond_of e (sizes_of f))
opened_beyond e f = opened_asked e f (λ E. true) (λ E. beyond_of E (sizes_of f))

-- ---- which numbers opening gives

from_own : (f : List ℕ) (n : EntryNumbers) → n ≡ opened n.edition f → from_opening f n ≡ true
unfolding from_opening
from_own f n h = or_left (same n (opened n.edition f)) _ (ap (same n) (sym h) ∙ same_refl n)

module _ (e : Edition) (f : List ℕ) (k : ℕ) (v : List ℕ) where
  -- the numbers of a refusal
  abbrev N : EntryNumbers
  N = numbers_of e (refused k v)

  from_read : (r : Answer Sizes) → r ≡ reading f → refused k v ≡ map_answer (opening_of e) r → from_opening f N ≡ true
  unfolding opening ok_edition
  from_read (refused j w) p q = from_own f N (ap (numbers_of N.edition) (q ∙ ap (map_answer (opening_of N.edition)) p))
  from_read (gives s) p q = true_false (sym (ap is_given q))

  from_refused : (t : Bool) → refused k v ≡ (when not t then refused 3 [] else map_answer (opening_of e) (reading f)) → from_opening f N ≡ true
  unfolding from_opening
  from_refused true q = from_read (reading f) refl q
  from_refused false q =
      let three : k ≡ 3 = cc in
      let none : v ≡ [] = cc in
      or_right (same N (opened N.edition f)) _
      ((λ i. same N (numbers_of e (refused (sym three i) (sym none i)))) ∙ same_refl N)

-- what opening gives passes the test
pub from_opening_lem : (e : Edition) (f : List ℕ) → from_opening f (opened e f) ≡ true
unfolding opening
from_opening_lem e f = by_answer (opening e f) refl
  where
    by_answer : (a : Answer Opening) → a ≡ opening e f → from_opening f (numbers_of e a) ≡ true
    by_answer (gives o) q = from_own f (numbers_of e (gives o)) (ap (numbers_of e) q)
    by_answer (refused k v) q = from_refused e f k v (ok_edition e) q

-- what passes it is what opening gives in some edition
pub opening_gives : (f : List ℕ) (n : EntryNumbers) → from_opening f n ≡ true → (e : Edition) × (n ≡ opened e f)
unfolding from_opening opening ok_edition
opening_gives f n h = by_test (same n (opened n.edition f)) refl h
  where
    by_test : (t : Bool) → same n (opened n.edition f) ≡ t → (t || same n (numbers_of n.edition (refused 3 []))) ≡ true → (e : Edition) × (n ≡ opened e f)
    by_test true q r = (n.edition, same_is n (opened n.edition f) q)
    by_test false q r = (record { booleans = 65; numbers = 0; strings = 0 }, same_is n (numbers_of n.edition (refused 3 [])) r)

-- a refusal's number and position determine what it gives
values_same : (f : List ℕ) (n : ℕ) (v w : List ℕ) → Values f n v → Values f n w → get_or v 0 0 ≡ get_or w 0 0 → v ≡ w
values_same f n v w (Values.none a a' p) (Values.none b b' q) e = p ∙ sym q
values_same f n v w (Values.none a a' p) (Values.position i b c q k) e = absurd (let z : ⊥ = omega arith in z)
values_same f n v w (Values.position i a c p k) (Values.none b b' q) e = absurd (let z : ⊥ = omega arith in z)
values_same f n v w (Values.position i a c p k) (Values.position j b d q l) e =
    let z : i ≡ j = sym (ap (λ (x : List ℕ). get_or x 0 0) p) ∙ e ∙ ap (λ (x : List ℕ). get_or x 0 0) q in
    p ∙ ap (λ (x : ℕ). x ∷ []) z ∙ sym q

module _ (e : Edition) (f : List ℕ) (k : ℕ) (v : List ℕ) (q : opening e f ≡ refused k v) where
  -- the numbers of the refusal
  abbrev M : EntryNumbers
  M = numbers_of e (refused k v)

  -- opening the file in their own edition, where that gives the same
  again : (b : Answer Opening) → opening M.edition f ≡ b → M ≡ numbers_of M.edition b
      → refusal_of b ≡ refused k v
  again (refused j w) r h =
      let z : k ≡ j = ap (λ (m : EntryNumbers). m.refusal) h in
      let p : Values f k w = subst (λ (i : ℕ). Values f i w) (sym z) (positions.opens M.edition f j w r) in
      let x : v ≡ w = values_same f k v w (positions.opens e f k v q) p (ap (λ (m : EntryNumbers). m.position) h) in
      λ i. refused (sym z i) (sym x i)
  again (gives o) r h = absurd (rw q at (opening_numbered e f) (ap (λ (m : EntryNumbers). m.refusal) h))

  -- the edition's
  large : M ≡ numbers_of M.edition (refused 3 []) → ◌≡◌ {A = Answer (Unit {0})} (refused 3 []) (refused k v)
  large h =
      let z : k ≡ 3 = ap (λ (m : EntryNumbers). m.refusal) h in
      λ i. refused (sym z i) (sym (none (positions.opens e f k v q) z) i)
    where
      none : Values f k v → k ≡ 3 → v ≡ []
      none (Values.none l l' p) z = p
      none (Values.position i a b p t) z = absurd (let y : ⊥ = omega arith in y)

  refused_again : entry_refusal f M ≡ refused k v
  unfolding entry_refusal from_opening
  refused_again =
      by_tests (same M (opened M.edition f)) (same M (numbers_of M.edition (refused 3 []))) refl refl
      (rw q at (from_opening_lem e f))
    where
      by_tests : (t u : Bool) → same M (opened M.edition f) ≡ t
          → same M (numbers_of M.edition (refused 3 [])) ≡ u → (t || u) ≡ true
          → (when t then refusal_of (opening M.edition f) else when u then refused 3 [] else refused 17 [])
          ≡ refused k v
      by_tests true u h g o = again (opening M.edition f) refl (same_is M (opened M.edition f) h)
      by_tests false true h g o = large (same_is M (numbers_of M.edition (refused 3 [])) g)
      by_tests false false h g o = true_false (sym o)

-- an entry that opening gave says what opening said
pub opened_refusal : (e : Edition) (f : List ℕ) → entry_refusal f (opened e f) ≡ refusal_of (opening e f)
unfolding entry_refusal
opened_refusal e f = by_answer (opening e f) refl
  where
    by_answer : (a : Answer Opening) → opening e f ≡ a → entry_refusal f (numbers_of e a) ≡ refusal_of a
    by_answer (gives o) q = rw (q, same_refl (numbers_of e (gives o)))
    by_answer (refused k v) q = refused_again e f k v q

-- an entry that opening gives in no edition says 17
pub refusal_17 : (f : List ℕ) (n : EntryNumbers) → from_opening f n ≡ false → entry_refusal f n ≡ refused 17 []
unfolding entry_refusal from_opening
refusal_17 f n h =
    by_tests (same n (opened n.edition f)) (same n (numbers_of n.edition (refused 3 []))) h
  where
    by_tests : (t u : Bool) → (t || u) ≡ false
        → (when t then refusal_of (opening n.edition f) else when u then refused 3 [] else refused 17 []) ≡ refused 17 []
    by_tests true u q = true_false q
    by_tests false true q = true_false q
    by_tests false false q = refl
