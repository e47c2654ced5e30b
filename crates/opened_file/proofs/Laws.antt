-- What an opened file is, and what asking it gives.
-- Assumes nothing.
use mathlib.Core.Path.{◌≡◌, refl, sym, ap, ap₂, ◌∙◌, subst}
use mathlib.Core.Bool.{Bool, true, false, ◌&&◌, not, and-false}
use mathlib.Core.List.{List, []}
use Prim.Native.Nat.{ℕ, ◌+◌, ◌-◌, ◌*◌, ◌≤◌, ◌<◌}
use native.Mathlib.Omega.{arith}
use lib.Dec.{ltb}
use lib.ListN.{length, get_or}
use borrow.Author.Tests.{lt-ltb, le-ltb, ltb-true, eq-eqb, ne_eqb}
use Rattle.std.specs.Prelude.{Some, None, Result, Ok, Err}
use Rattle.std.specs.Result.{result_ok}
use Rattle.base.specs.If.{when◌then◌else◌}
use Rattle.base.proofs.IfLaws.{true_false, and_right}
use Rattle.base.proofs.ScanLaws.{scan_ge}
use Rattle.word.specs.Word.{word}
use Rattle.word.specs.Nul.{not_nul_at, nul_from}
use Rattle.edition.specs.declared.Edition.{Edition}
use Rattle.edition.specs.declared.Place.{Place}
use Rattle.edition.specs.Edition.{ok_edition, knows}
use Rattle.entry.specs.declared.Sizes.{Sizes}
use Rattle.entry.specs.declared.Tables.{Tables}
use Rattle.entry.specs.declared.Offset.{Offset}
use Rattle.entry.specs.declared.Part.{Part}
use Rattle.entry.specs.Limits.{header_size, names_least, number_width, offset_width, short_width}
use Rattle.entry.specs.State.{State, absent, cancelled, present, map_state, absent_mark, cancelled_mark, slot_of, boolean_of}
use Rattle.base.specs.Answer.{Answer, refused, gives, map_answer, is_given}
use Rattle.entry.specs.Layout.{sizes_of, strings_at, table_at, size_of, tables_of}
use Rattle.entry.specs.Reading.{offset, ok_offset, reading, names_part, boolean_in, slot_in, number_in, offset_in, content_at, part_in}
use Rattle.entry.specs.declared.FileRefusal.{FileRefusal}
use Rattle.entry.specs.declared.Opening.{Opening}
use Rattle.entry.specs.Asking.{opening_of, opening, asking, asking_names, asking_boolean, asking_number, asking_string}
use Rattle.entry.specs.Says.{says_file}
use Rattle.entry_laws.specs.Slots.{Passes, slot_in_lem}
use Rattle.entry_laws.specs.Accepted.{Accepted, test_passed, accepted_facts, reading_accepted, counts_names_least, offset_fits}
use Rattle.entry_laws.specs.Asked.{asking_gives}
use Rattle.file_tables.specs.Framed.{Framed}
use Rattle.file_tables.proofs.Laws.{at_booleans, at_numbers, at_strings, at_table, in_booleans_lem, in_numbers_lem, in_strings_lem}
use Rattle.opened_file.specs.Opened.{OpenedAs}

-- ---- asking, by what opening answers

module _ {A : Type 0} (e : Edition) (f : List ℕ) (known : Bool) (x : A) where
  -- a file that opening refuses
  pub asking_unopened : (n : ℕ) (v : List ℕ) → refused n v ≡ opening e f → refused 17 [] ≡ asking e f known x
  unfolding asking
  asking_unopened n v q = rw (← q)

  -- a place that the edition does not know
  pub asking_unknown : known ≡ false → refused 17 [] ≡ asking e f known x
  unfolding asking
  asking_unknown q = rw (q, and-false)

  -- what is given was asked of an opened file
  pub asking_given : (y : A) → gives y ≡ asking e f known x → (is_given (opening e f) ≡ true) × (y ≡ x)
  unfolding asking
  asking_given y q = by_tests (is_given (opening e f)) known q
    where
      by_tests : (t k : Bool) → gives y ≡ (when t && k then gives x else refused 17 []) → (t ≡ true) × (y ≡ x)
      by_tests true true p = (refl, cc)
      by_tests true false p = true_false (ap is_given p)
      by_tests false k p = true_false (ap is_given p)

-- ---- by the answer of opening

module _ (e : Edition) (f : List ℕ) (r : Result Opening FileRefusal) (q : says_file r ≡ opening e f) where
  pub opened_ok : (o : Opening) → Some o ≡ result_ok r → OpenedAs e f o.tables
  opened_ok o s = by_cases r q s
    where
      by_cases : (t : Result Opening FileRefusal) → says_file t ≡ opening e f → Some o ≡ result_ok t → OpenedAs e f o.tables
      by_cases (Ok x) p k = let m : o ≡ x = cc in record { beyond = o.beyond; given = ap gives m ∙ p }
      by_cases (Err y) p k = absurd (cc)

  pub opened_err : {A : Type 0} (known : Bool) (x : A) → None ≡ result_ok r → refused 17 [] ≡ asking e f known x
  opened_err known x s = by_cases r q s
    where
      by_cases : (t : Result Opening FileRefusal) → says_file t ≡ opening e f → None ≡ result_ok t → refused 17 [] ≡ asking e f known x
      by_cases (Ok y) p k = absurd (cc)
      by_cases (Err y) p k = asking_unopened e f known x _ _ p

-- ---- an opened file

-- opening gives tables of accepted files only
pub opened_accepted : (e : Edition) (f : List ℕ) → is_given (opening e f) ≡ true → Accepted f
unfolding opening
opened_accepted e f g = by_tests (ok_edition e) (reading f) refl g
  where
    by_tests : (t : Bool) (a : Answer Sizes) → reading f ≡ a → is_given (when not t then refused 3 [] else map_answer (opening_of e) a) ≡ true → Accepted f
    by_tests false a r h = true_false (sym h)
    by_tests true (refused n v) r h = true_false (sym h)
    by_tests true (gives s) r h = accepted_facts f s r

module _ {e : Edition} {f : List ℕ} {t : Tables} (o : OpenedAs e f t) where
  opened_given : is_given (opening e f) ≡ true
  opened_given = ap is_given (sym o.given)

  opened_file : Accepted f
  opened_file = opened_accepted e f opened_given

  opened_tables : t ≡ tables_of (sizes_of f)
  unfolding opening
  opened_tables =
      let x : Opening = record { tables = t; beyond = o.beyond } in
      let p : map_answer (opening_of e) (reading f) ≡ gives x = (test_passed (ok_edition e) 3 [] (map_answer (opening_of e) (reading f)) x (sym o.given)).1 in
      let q : gives (opening_of e (sizes_of f)) ≡ gives x = ap (map_answer (opening_of e)) (sym (reading_accepted f opened_file)) ∙ p in
      let z : opening_of e (sizes_of f) ≡ x = cc in
      sym (ap (λ (y : Opening). y.tables) z)

  -- the header's facts and the tables' places
  pub framed : Framed f (sizes_of f) t
  framed =
      let a = opened_file in
      record {
        least = a.least;
        most = a.most;
        magical = a.magical;
        header = refl;
        counts = a.counts;
        named = counts_names_least (sizes_of f) a.counts;
        size = a.size;
        places = opened_tables;
      }

  -- what the file says at a place that the edition knows
  asked : {A : Type 0} (n : ℕ) (p : Place) (x y : A) → p.0 < n → x ≡ y → gives x ≡ asking e f (knows n p) y
  asked n p x y h q = sym (asking_gives e f (knows n p) y x opened_given (lt-ltb p.0 n h) (sym q))

  -- ---- names

  pub opened_names : record { start = header_size; length = t.booleans_at - header_size - 1 } ≡ names_part (sizes_of f)
  unfolding names_part
  opened_names =
      let q : t.booleans_at - header_size - 1 ≡ (sizes_of f).names - 1 = (let a = at_booleans framed in omega arith) in
      λ i. record { start = header_size; length = q i }

  pub asked_names : gives (record { start = header_size; length = t.booleans_at - header_size - 1 }) ≡ asking_names e f
  asked_names = sym (asking_gives e f true _ _ opened_given refl (sym opened_names))

  -- ---- booleans

  pub asked_boolean_past : (p : Place) → p.0 < e.booleans → t.booleans ≤ p.0 → gives absent ≡ asking_boolean e f p
  unfolding boolean_in
  asked_boolean_past p h l =
      let n : t.booleans ≡ (sizes_of f).booleans = in_booleans_lem framed in
      asked e.booleans p _ _ h (rw (le-ltb p.0 (sizes_of f).booleans (omega arith)))

  pub asked_boolean : (p : Place) → p.0 < e.booleans → p.0 < t.booleans
      → gives (boolean_of (get_or f (t.booleans_at + p.0) 0)) ≡ asking_boolean e f p
  unfolding boolean_in
  asked_boolean p h l =
      let n : t.booleans ≡ (sizes_of f).booleans = in_booleans_lem framed in
      asked e.booleans p _ _ h (rw (lt-ltb p.0 (sizes_of f).booleans (omega arith), at_booleans framed))

  -- ---- numbers

  pub asked_number : (p : Place) (x : State ℕ) → p.0 < e.numbers → x ≡ slot_in number_width f t.numbers_at t.numbers p → gives x ≡ asking_number e f p
  unfolding number_in
  asked_number p x h q = asked e.numbers p _ _ h (q ∙ ap₂ (λ (b n : ℕ). slot_in short_width f b n p) (at_numbers framed) (in_numbers_lem framed))

  -- ---- strings

  pub opened_offset : (p : Place) (x : State ℕ) → x ≡ slot_in offset_width f t.strings_at t.strings p → map_state offset x ≡ offset_in f (sizes_of f) p
  unfolding offset_in
  opened_offset p x q = ap (map_state offset) (q ∙ ap₂ (λ (b n : ℕ). slot_in short_width f b n p) (at_strings framed) (in_strings_lem framed))

  pub opened_content : (at : Offset) (end : ℕ) → end ≡ nul_from f (t.table_at + at.0) (length f)
      → record { start = t.table_at + at.0; length = end - (t.table_at + at.0) } ≡ content_at f (sizes_of f) at
  unfolding content_at
  opened_content at end q =
      let a : t.table_at + at.0 ≡ table_at (sizes_of f) + at.0 = ap (λ (n : ℕ). n + at.0) (at_table framed) in
      let b : end ≡ nul_from f (table_at (sizes_of f) + at.0) (size_of (sizes_of f)) = q ∙ ap₂ (nul_from f) a framed.size in
      λ i. record { start = a i; length = b i - a i }

  -- a string that a slot presents ends in the file
  pub string_ends : (p : Place) (o : Offset) → present o ≡ offset_in f (sizes_of f) p
      → nul_from f (t.table_at + o.0) (length f) < length f
  unfolding offset_in ok_offset
  string_ends p o q = by_slot (slot_in offset_width f (strings_at (sizes_of f)) (sizes_of f).strings p) (offset_fits f opened_file p) q
    where
      by_slot : (x : State ℕ) → Passes (λ c. ok_offset f (sizes_of f) (offset c)) x → present o ≡ map_state offset x
          → nul_from f (t.table_at + o.0) (length f) < length f
      by_slot absent k r = absurd (let z : ◌≡◌ {A = ℕ} 0 1 = cc in (let y : ⊥ = omega arith in y))
      by_slot cancelled k r = absurd (let z : ◌≡◌ {A = ℕ} 0 1 = cc in (let y : ⊥ = omega arith in y))
      by_slot (present c) k r =
          let m : o ≡ offset c = cc in
          let a : t.table_at + o.0 ≡ table_at (sizes_of f) + c = ap₂ (λ (x y : ℕ). x + y) (at_table framed) (ap (λ (u : Offset). u.0) m) in
          let b : nul_from f (t.table_at + o.0) (length f) ≡ nul_from f (table_at (sizes_of f) + c) (size_of (sizes_of f)) = ap₂ (nul_from f) a framed.size in
          let l : nul_from f (table_at (sizes_of f) + c) (size_of (sizes_of f)) < size_of (sizes_of f) = ltb-true _ _ (and_right (ltb c (sizes_of f).table) _ k) in
          let n = framed.size in
          omega arith

  pub asked_string : (p : Place) (x : State Offset) → p.0 < e.strings → x ≡ offset_in f (sizes_of f) p
      → gives (map_state (content_at f (sizes_of f)) x) ≡ asking_string e f p
  unfolding part_in
  asked_string p x h q = asked e.strings p _ _ h (ap (map_state (content_at f (sizes_of f))) q)

-- ---- slots

-- a slot read inside its table
module _ (f : List ℕ) (base n : ℕ) (p : Place) (h : p.0 < n) (c : ℕ) (r : c ≡ word short_width f (base + short_width * p.0)) where
  slot_read : slot_of short_width c ≡ slot_in short_width f base n p
  slot_read = ap (slot_of short_width) r ∙ sym (slot_in_lem short_width f base n p h)

  pub slot_absent : c ≡ absent_mark short_width → absent ≡ slot_in short_width f base n p
  unfolding slot_of
  slot_absent a = rw (← slot_read, eq-eqb c (absent_mark short_width) a)

  module _ (a : c ≡ absent_mark short_width → ⊥) where
    pub slot_cancelled : c ≡ cancelled_mark short_width → cancelled ≡ slot_in short_width f base n p
    unfolding slot_of
    slot_cancelled b = rw (← slot_read, ne_eqb c (absent_mark short_width) a, eq-eqb c (cancelled_mark short_width) b)

    pub slot_present : (c ≡ cancelled_mark short_width → ⊥) → present c ≡ slot_in short_width f base n p
    unfolding slot_of
    slot_present b = rw (← slot_read, ne_eqb c (absent_mark short_width) a, ne_eqb c (cancelled_mark short_width) b)

-- ---- parts that are given lie in the file

pub names_inside : (e : Edition) (f : List ℕ) (q : Part) → gives q ≡ asking_names e f → q.start + q.length ≤ length f
unfolding names_part
names_inside e f q g =
    let o = asking_given e f true (names_part (sizes_of f)) q g in
    let a = opened_accepted e f o.0 in
    let l : length f ≡ size_of (sizes_of f) = a.size in
    let n : names_least ≤ (sizes_of f).names = counts_names_least (sizes_of f) a.counts in
    let s : q.start ≡ header_size = ap (λ (r : Part). r.start) o.1 in
    let m : q.length ≡ (sizes_of f).names - 1 = ap (λ (r : Part). r.length) o.1 in
    omega arith

-- the content at a good offset ends in the table
content_inside : (f : List ℕ) (s : Sizes) (o : Offset) → ok_offset f s o ≡ true → (content_at f s o).start + (content_at f s o).length ≤ size_of s
unfolding content_at ok_offset
content_inside f s o h =
    let g : table_at s + o.0 ≤ nul_from f (table_at s + o.0) (size_of s) = scan_ge (not_nul_at f) (table_at s + o.0) (size_of s - (table_at s + o.0)) in
    let l : nul_from f (table_at s + o.0) (size_of s) < size_of s = ltb-true _ _ (and_right (ltb o.0 s.table) _ h) in
    omega arith

-- a present part lies in the first n bytes
abbrev PartFits : ℕ → State Part → Type 0
PartFits n absent = Unit {0}
PartFits n cancelled = Unit {0}
PartFits n (present q) = q.start + q.length ≤ n

pub string_inside : (e : Edition) (f : List ℕ) (p : Place) (q : Part) → gives (present q) ≡ asking_string e f p → q.start + q.length ≤ length f
unfolding part_in offset_in
string_inside e f p q g =
    let o = asking_given e f (knows e.strings p) (part_in f (sizes_of f) p) (present q) g in
    let a = opened_accepted e f o.0 in
    let l : length f ≡ size_of (sizes_of f) = a.size in
    let i : q.start + q.length ≤ size_of (sizes_of f) =
    subst (PartFits (size_of (sizes_of f))) (sym o.1) (by_slot (slot_in offset_width f (strings_at (sizes_of f)) (sizes_of f).strings p) (offset_fits f a p)) in
    omega arith
  where
    by_slot : (x : State ℕ) → Passes (λ c. ok_offset f (sizes_of f) (offset c)) x
        → PartFits (size_of (sizes_of f)) (map_state (content_at f (sizes_of f)) (map_state offset x))
    by_slot absent k = tt
    by_slot cancelled k = tt
    by_slot (present c) k = content_inside f (sizes_of f) (offset c) k
