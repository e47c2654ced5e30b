-- What two opened files hand to the writer, and the answers of a merge in their order.
-- Assumes nothing.
use mathlib.Core.Path.{◌≡◌, refl, sym, ap, ◌∙◌, subst}
use mathlib.Core.Bool.{Bool, true, false}
use mathlib.Core.List.{List, [], ◌∷◌, ◌++◌}
use Prim.Native.Nat.{ℕ, ◌+◌, ◌-◌, ◌*◌, ◌^◌, ◌≤◌, ◌<◌}
use native.Mathlib.Decide.{ℕ_discrete}
use native.Mathlib.Omega.{arith}
use lib.Dec.{eqb, leb}
use lib.ListN.{length, take, drop, set, length-append}
use lib.Seq.{get_or-set_same, get_or-set_other, drop-append-add}
use borrow.Author.Count.{below_more}
use borrow.Author.Tests.{lt-ltb, le-leb, lt-leb, ne_eqb}
use Rattle.base.specs.If.{when◌then◌else◌}
use Rattle.base.specs.Tabulate.{tabulate}
use Rattle.base.proofs.TabulateLaws.{tabulate_ext}
use Rattle.base.specs.Overwrite.{put_at}
use Rattle.edition.specs.declared.Edition.{Edition}
use Rattle.edition.specs.declared.Place.{Place}
use Rattle.edition.specs.Edition.{ok_edition, place, knows, booleans_most, numbers_most, strings_most}
use Rattle.entry.specs.declared.Sizes.{Sizes}
use Rattle.entry.specs.declared.Tables.{Tables}
use Rattle.entry.specs.declared.Part.{Part}
use Rattle.entry.specs.Limits.{file_most}
use Rattle.entry.specs.State.{State, absent, cancelled, present, map_state}
use Rattle.base.specs.Answer.{Answer, refused, gives, and_then, is_given, Leaves}
use Rattle.entry.specs.Layout.{sizes_of, size_of, tables_of, beyond_of}
use Rattle.entry.specs.Reading.{bytes_of, reading, names_part, part_in, string_in, boolean_in, number_in}
use Rattle.entry.specs.Asking.{opening, asking, asking_names, asking_boolean, asking_number, asking_string}
use Rattle.entry.specs.Writing.{Handed, state_of, string_handed, string_table, sizes_for, encode, entry_of, fitting}
use Rattle.entry.specs.Merging.{over, merged_boolean, merged_number, merged_string, merged, of_file, merging}
use Rattle.entry_laws.specs.Accepted.{Accepted, test_passed, reading_accepted, names_most_lem}
use Rattle.entry_laws.specs.Asked.{asking_gives}
use Rattle.entry_laws.specs.Parts.{length_encode}
use Rattle.entry_laws.specs.Merge.{given_and_then, of_file_given, edition_counts}
use Rattle.file_tables.proofs.Laws.{open_file}
use Rattle.opened_file.specs.Opened.{OpenedAs}
use Rattle.opened_file.proofs.Laws.{asking_given, opened_accepted, string_inside}
use Rattle.opened_file.specs.Kinds.{kind_given, present_or}
use Rattle.put.specs.Table.{string_of, string_at, table_bytes, total, InPools}
use Rattle.put.proofs.TableLaws.{in_first, bytes_present, bytes_none, length_part, strings_more, table_below, table_total, lent_length, lent_described}
use Rattle.entry.specs.Handed.{handed}
use Rattle.write_laws.specs.File.{Sure, sizes_with, sizes_handed}
use Rattle.write_laws.proofs.FileLaws.{length_with}
use Rattle.merge_states.specs.Filled.{BothOpened, BooleansFilled, NumbersFilled, StringFilled, StringsFilled, merged_table, Measured, StringsGiven, Ready}
use Rattle.merge_states.specs.Answers.{Fitted, Merges}

-- ---- opened files

-- an accepted file with its tables is opened, in an edition that passes
pub opens : (e : Edition) (f : List ℕ) (s : Sizes) (t : Tables) → ok_edition e ≡ true → gives s ≡ reading f → t ≡ tables_of s → OpenedAs e f t
opens e f s t o r q =
    record { beyond = beyond_of e s; given = (λ i. gives (record { tables = q i; beyond = beyond_of e s })) ∙ open_file e f o (gives s) r }

module _ {e : Edition} {f : List ℕ} {t : Tables} (o : OpenedAs e f t) where
  given : is_given (opening e f) ≡ true
  given = ap is_given (sym o.given)

  pub opened_file : Accepted f
  opened_file = opened_accepted e f given

  given_file : (k : ℕ) → is_given (of_file k (reading f)) ≡ true
  given_file k = of_file_given k (reading f) ∙ ap is_given (reading_accepted f opened_file)

  pub opened_edition : ok_edition e ≡ true
  unfolding opening
  opened_edition = (test_passed (ok_edition e) 3 [] _ _ (sym o.given)).0

  -- the names, as the part between a start and an end
  pub opened_names : (q : Part) → gives q ≡ asking_names e f → take (q.start + q.length - q.start) (drop q.start f) ≡ bytes_of f (names_part (sizes_of f))
  opened_names q g =
      let n : q.start + q.length - q.start ≡ q.length = omega arith in
      ap (λ (m : ℕ). take m (drop q.start f)) n ∙ ap (bytes_of f) (asking_given e f true (names_part (sizes_of f)) q g).1

  -- what asking gives at a place that the edition knows
  pub said : {A : Type 0} (n : ℕ) (p : Place) (x : Answer A) (y : A) → p.0 < n → x ≡ asking e f (knows n p) y → x ≡ gives y
  said n p x y h q = q ∙ asking_gives e f (knows n p) y y given (lt-ltb p.0 n h) refl

-- ---- a state over another, by kinds

-- a first state of another kind than absent stands
pub over_stands : {A : Type 0} (k : ℕ) (x : A) (s t : State A) → state_of k x ≡ s → (k ≡ 0 → ⊥) → state_of k x ≡ over s t
unfolding state_of over
over_stands {A} k x s t q n = rw (← q, ne_eqb k 0 n) (by_test (eqb k 1))
  where
    by_test : (b : Bool) → (when b then present x else cancelled) ≡ over (when b then present x else cancelled) t
    by_test true = refl
    by_test false = refl

-- a first state that is absent leaves the second
pub over_leaves : {A : Type 0} (k : ℕ) (x : A) (s t : State A) → state_of k x ≡ s → k ≡ 0 → t ≡ over s t
unfolding state_of over
over_leaves k x s t q z = rw (← q, z)

-- what is given is the state itself
pub given_boolean : (w : Answer (State Unit)) (x : State Unit) (k : ℕ) → w ≡ gives x → k ≡ kind_given w → state_of k tt ≡ x
unfolding state_of
given_boolean w x k q d = ap (λ (j : ℕ). state_of j tt) (d ∙ ap kind_given q) ∙ by_state x
  where
    by_state : (x : State Unit) → state_of (kind_given (gives x)) tt ≡ x
    by_state absent = refl
    by_state cancelled = refl
    by_state (present tt) = refl

given_state : {A : Type 0} (d : A) (x : State A) → state_of (kind_given (gives x)) (present_or d (gives x)) ≡ x
unfolding state_of
given_state d absent = refl
given_state d cancelled = refl
given_state d (present y) = refl

pub given_number : (w : Answer (State ℕ)) (x : State ℕ) (k v : ℕ) → w ≡ gives x → k ≡ kind_given w → v ≡ present_or 0 w → state_of k v ≡ x
given_number w x k v q d g =
    ap (λ (j : ℕ). state_of j v) (d ∙ ap kind_given q) ∙ ap (state_of (kind_given (gives x))) (g ∙ ap (present_or 0) q) ∙ given_state 0 x

-- a first state that is not absent stands
pub stands : {A : Type 0} (w : Answer (State A)) (x y : State A) → w ≡ gives x → (kind_given w ≡ 0 → ⊥) → w ≡ gives (over x y)
unfolding over
stands {A} w x y q n = q ∙ ap gives (by_state x (λ z. n (ap kind_given q ∙ z)))
  where
    by_state : (x : State A) → (kind_given (gives x) ≡ 0 → ⊥) → x ≡ over x y
    by_state absent n = absurd (n refl)
    by_state cancelled n = refl
    by_state (present v) n = refl

-- one that is absent leaves the second
pub leaves : {A : Type 0} (w v : Answer (State A)) (x y : State A) → w ≡ gives x → kind_given w ≡ 0 → v ≡ gives y → v ≡ gives (over x y)
unfolding over
leaves {A} w v x y q z r = r ∙ ap gives (by_state x (sym (ap kind_given q) ∙ z))
  where
    by_state : (x : State A) → kind_given (gives x) ≡ 0 → y ≡ over x y
    by_state absent n = refl
    by_state cancelled n = absurd (let z : ⊥ = omega arith in z)
    by_state (present v) n = absurd (let z : ⊥ = omega arith in z)

-- ---- a string in the two files

-- what stands for the part of a string that is not present
abbrev pub no_part : Part
no_part = record { start = 0; length = 0 }

-- a present part lies in the file
abbrev PartIn : List ℕ → State Part → Type 0
PartIn f x = (q : Part) → x ≡ present q → q.start + q.length ≤ length f

module _ {e : Edition} {f : List ℕ} {t : Tables} (o : OpenedAs e f t) (p : Place) (h : p.0 < e.strings) where
  part_in_lem : PartIn f (part_in f (sizes_of f) p)
  part_in_lem q d = string_inside e f p q (sym (asking_gives e f (knows e.strings p) _ _ (given o) (lt-ltb p.0 e.strings h) d))

  -- where a string starts, as it is handed over
  pub start_most : (w : Answer (State Part)) → w ≡ asking_string e f p → (present_or no_part w).start ≤ file_most
  start_most w q = by_state (part_in f (sizes_of f) p) part_in_lem (said o e.strings p w (part_in f (sizes_of f) p) h q)
    where
      by_state : (x : State Part) → PartIn f x → w ≡ gives x → (present_or no_part w).start ≤ file_most
      by_state absent i d = rw d (omega arith)
      by_state cancelled i d = rw d (omega arith)
      by_state (present r) i d =
          let l : r.start + r.length ≤ length f = i r refl in
          let m = (opened_file o).most in
          rw d (omega arith)

-- strings of a file f whose byte at a place stands in the two files at `at` of it
module _ (a b f : List ℕ) (at : ℕ → ℕ) (moved : (q : Part) → q.start + q.length ≤ length f → take q.length (drop (at q.start) (a ++ b)) ≡ bytes_of f q)
    (pools : (q : Part) → q.start + q.length ≤ length f → InPools (at q.start) q.length a b) where
  moved_string : (x : State Part) → PartIn f x
      → (string_of (kind_given (gives x)) (at (present_or no_part (gives x)).start) (present_or no_part (gives x)).length (a ++ b) ≡ map_state (bytes_of f) x)
      × (kind_given (gives x) ≡ 1 → InPools (at (present_or no_part (gives x)).start) (present_or no_part (gives x)).length a b)
  unfolding state_of
  moved_string absent i = (refl, λ k. absurd (let z : ⊥ = omega arith in z))
  moved_string cancelled i = (refl, λ k. absurd (let z : ⊥ = omega arith in z))
  moved_string (present p) i = (ap present (moved p (i p refl)), λ k. pools p (i p refl))

-- what is handed over of a string, by what the file says
module _ (w : Answer (State Part)) (x : State Part) (q : w ≡ gives x) (k : ℕ) (r : Part) (d : k ≡ kind_given w) (g : r ≡ present_or no_part w) where
  handed_as : (P : ℕ → Part → Type 0) → P (kind_given (gives x)) (present_or no_part (gives x)) → P k r
  handed_as P y = subst (λ (j : ℕ). P j r) (sym (d ∙ ap kind_given q)) (subst (P (kind_given (gives x))) (sym (g ∙ ap (present_or no_part) q)) y)

module _ {e : Edition} {a : List ℕ} {t : Tables} {b : List ℕ} {u : Tables} (o : BothOpened e a t b u) (p : Place) where
  module _ (w : Answer (State Unit)) (h : p.0 < e.booleans) (q : w ≡ asking_boolean e a p) where
    pub boolean_stands : (kind_given w ≡ 0 → ⊥) → w ≡ gives (merged_boolean a b p)
    boolean_stands n = stands w _ (boolean_in b (sizes_of b) p) (said o.first e.booleans p _ _ h q) n

    pub boolean_leaves : (v : Answer (State Unit)) → kind_given w ≡ 0 → v ≡ asking_boolean e b p → v ≡ gives (merged_boolean a b p)
    boolean_leaves v z s = leaves w v _ _ (said o.first e.booleans p _ _ h q) z (said o.second e.booleans p _ _ h s)

  module _ (w : Answer (State ℕ)) (h : p.0 < e.numbers) (q : w ≡ asking_number e a p) where
    pub number_stands : (kind_given w ≡ 0 → ⊥) → w ≡ gives (merged_number a b p)
    number_stands n = stands w _ (number_in b (sizes_of b) p) (said o.first e.numbers p _ _ h q) n

    pub number_leaves : (v : Answer (State ℕ)) → kind_given w ≡ 0 → v ≡ asking_number e b p → v ≡ gives (merged_number a b p)
    number_leaves v z s = leaves w v _ _ (said o.first e.numbers p _ _ h q) z (said o.second e.numbers p _ _ h s)

  module _ (h : p.0 < e.strings) (w : Answer (State Part)) (q : w ≡ asking_string e a p) (k : ℕ) (r : Part) (d : k ≡ kind_given w) (g : r ≡ present_or no_part w) where
    -- the first file's string, as it is handed over
    first_string : (string_of k r.start r.length (a ++ b) ≡ string_in a (sizes_of a) p) × (k ≡ 1 → InPools r.start r.length a b)
    unfolding string_in
    first_string =
        handed_as w (part_in a (sizes_of a) p) (said o.first e.strings p _ _ h q) k r d g
        (λ j s. (string_of j s.start s.length (a ++ b) ≡ string_in a (sizes_of a) p) × (j ≡ 1 → InPools s.start s.length a b))
        (moved_string a b a (λ n. n) (λ s i. in_first a b s.start s.length i) (λ s i. (rw (length-append a b) (omega arith), λ l. i))
        (part_in a (sizes_of a) p) (part_in_lem o.first p h))

    pub string_stands : (k ≡ 0 → ⊥) → StringFilled a b p k r.start r.length
    string_stands n = record { state = over_stands _ _ _ (string_in b (sizes_of b) p) first_string.0 n; lent = first_string.1 }

    module _ (v : Answer (State Part)) (c : v ≡ asking_string e b p) (j : ℕ) (s : Part) (l : j ≡ kind_given v) (m : s ≡ present_or no_part v) where
      -- the second file's string stands behind the first file
      second_string : (string_of j (length a + s.start) s.length (a ++ b) ≡ string_in b (sizes_of b) p)
          × (j ≡ 1 → InPools (length a + s.start) s.length a b)
      unfolding string_in
      second_string =
          handed_as v (part_in b (sizes_of b) p) (said o.second e.strings p _ _ h c) j s l m
          (λ i z. (string_of i (length a + z.start) z.length (a ++ b) ≡ string_in b (sizes_of b) p) × (i ≡ 1 → InPools (length a + z.start) z.length a b))
          (moved_string a b b (λ n. length a + n) (λ z i. ap (take z.length) (drop-append-add a b z.start))
          (λ z i. (rw (length-append a b) (omega arith), λ l. absurd (let y : ⊥ = omega arith in y)))
          (part_in b (sizes_of b) p) (part_in_lem o.second p h))

      pub string_leaves : k ≡ 0 → StringFilled a b p j (length a + s.start) s.length
      string_leaves z =
          record { state = second_string.0 ∙ over_leaves _ _ _ (string_in b (sizes_of b) p) first_string.0 z; lent = second_string.1 }

pub kind_small : {A : Type 0} (w : Answer (State A)) → kind_given w ≤ 2
kind_small (refused n v) = omega arith
kind_small (gives absent) = omega arith
kind_small (gives cancelled) = omega arith
kind_small (gives (present x)) = omega arith

-- ---- the turns of the loops that fill

module _ (a b : List ℕ) (i : ℕ) where
  pub booleans_turn : (kinds : List ℕ) (k : ℕ) → i < length kinds → BooleansFilled i a b kinds → state_of k tt ≡ merged_boolean a b (place i)
      → BooleansFilled (i + 1) a b (set kinds i k)
  booleans_turn kinds k l all here =
      below_more _ i
      (λ j h. rw (get_or-set_other kinds i j k 0 (λ q. let z : ⊥ = omega arith in z)) (all j h))
      (rw (get_or-set_same kinds i k 0 l) here)

  pub numbers_turn : (kinds values : List ℕ) (k v : ℕ) → i < length kinds → i < length values → NumbersFilled i a b kinds values
      → state_of k v ≡ merged_number a b (place i) → NumbersFilled (i + 1) a b (set kinds i k) (set values i v)
  numbers_turn kinds values k v l m all here =
      below_more _ i
      (λ j h. let n : j ≡ i → ⊥ = λ q. omega arith in rw (get_or-set_other kinds i j k 0 n, get_or-set_other values i j v 0 n) (all j h))
      (rw (get_or-set_same kinds i k 0 l, get_or-set_same values i v 0 m) here)

  pub strings_turn : (kinds starts lengths : List ℕ) (k s n : ℕ) → i < length kinds → i < length starts → i < length lengths
      → StringsFilled i a b kinds starts lengths → StringFilled a b (place i) k s n → StringsFilled (i + 1) a b (set kinds i k) (set starts i s) (set lengths i n)
  strings_turn kinds starts lengths k s n l m r all here =
      below_more _ i
      (λ j h.
      let w : j ≡ i → ⊥ = λ q. omega arith in
      rw (get_or-set_other kinds i j k 0 w, get_or-set_other starts i j s 0 w, get_or-set_other lengths i j n 0 w) (all j h))
      (rw (get_or-set_same kinds i k 0 l, get_or-set_same starts i s 0 m, get_or-set_same lengths i n 0 r) here)

-- ---- the string table, string by string

-- the bytes of the first i merged strings
abbrev pub table_of : (a b : List ℕ) → ℕ → ℕ
table_of a b i = length (string_table (tabulate (λ j. merged_string a b (place j)) i))

module _ {a b : List ℕ} {i k s n : ℕ} (f : StringFilled a b (place i) k s n) where
  pub table_turn : table_of a b (i + 1) ≡ table_of a b i + table_bytes (state_of k n)
  table_turn =
      let g : ℕ → State (List ℕ) = λ j. merged_string a b (place j) in
      let d : map_state length (g i) ≡ state_of k n = ap (map_state length) (sym f.state) ∙ lent_length (a ++ b) k s n (λ q. (f.lent q).0) in
      ap length (strings_more g i) ∙ length-append (string_table (tabulate g i)) (string_table (g i ∷ [])) ∙ ap (λ (m : ℕ). table_of a b i + m) (length_part (g i) ∙ ap table_bytes d)

  -- a present string lies in the files, so it is no longer than they are
  pub string_most_lem : {e : Edition} {t u : Tables} → BothOpened e a t b u → table_bytes (state_of k n) ≤ 2 * file_most + 1
  string_most_lem o = elim (ℕ_discrete k 1) [
    | yes e ↦ (let l = (f.lent e).0 in
        let m : length (a ++ b) ≡ length a + length b = length-append a b in
        let x = (opened_file o.first).most in
        let y = (opened_file o.second).most in
        let r = bytes_present k n e in
        omega arith)
    | no e ↦ (let r = bytes_none k n e in omega arith)
  ]

module _ (e : Edition) (a b : List ℕ) where
  pub table_whole : (i : ℕ) → i ≡ e.strings → table_of a b i ≡ merged_table e a b
  unfolding merged
  table_whole i h = ap (table_of a b) h

  pub table_large : (i : ℕ) → i ≤ e.strings → file_most < table_of a b i → file_most < merged_table e a b
  unfolding merged
  table_large i h l = let m = table_below (λ j. merged_string a b (place j)) i e.strings h in omega arith

-- ---- what is handed over

-- arrays of the most strings have enough for every edition that passes
pub strings_given : {e : Edition} {a : List ℕ} {t : Tables} → OpenedAs e a t → (kinds starts lengths : List ℕ) → length kinds ≡ strings_most → length starts ≡ strings_most
    → length lengths ≡ strings_most → StringsGiven e kinds starts lengths
strings_given {e} o kinds starts lengths l m n =
    let c = (edition_counts e (opened_edition o)).1.1 in
    record { kinds_given = omega arith; starts_given = omega arith; lengths_given = omega arith }

module _ {e : Edition} {a : List ℕ} {t : Tables} {b : List ℕ} {u : Tables} (o : BothOpened e a t b u)
    (names bools nums values kinds starts lengths : List ℕ) (table : ℕ) (named : names ≡ bytes_of a (names_part (sizes_of a)))
    (m : Measured e a b kinds starts lengths table) where
  abbrev filled : Handed
  filled = handed names bools nums values kinds starts lengths (a ++ b)

  -- it is the merged entry
  pub entry_merged : BooleansFilled e.booleans a b bools → NumbersFilled e.numbers a b nums values → entry_of e filled ≡ merged e a b
  unfolding entry_of merged
  entry_merged f g =
      λ i. record {
        names = named i;
        booleans = tabulate_ext _ _ e.booleans f i;
        numbers = tabulate_ext _ _ e.numbers g i;
        strings = tabulate_ext _ _ e.strings (λ j h. (m.filled j h).state) i;
      }

  table_total_is : table ≡ total kinds lengths e.strings
  unfolding merged
  table_total_is =
      let g : ℕ → State (List ℕ) = string_at kinds starts lengths (a ++ b) in
      m.whole
      ∙ ap (λ (l : List (State (List ℕ))). length (string_table l)) (sym (tabulate_ext g (λ j. merged_string a b (place j)) e.strings (λ j h. (m.filled j h).state)))
      ∙ table_total kinds lengths g e.strings (lent_described kinds starts lengths (a ++ b) e.strings (λ i h k. ((m.filled i h).lent k).0))

  pub ready : StringsGiven e kinds starts lengths → length bools ≡ booleans_most → length nums ≡ numbers_most → length values ≡ numbers_most → Ready e filled a b table
  ready g l₁ l₂ l₃ =
      let c = edition_counts e (opened_edition o.first) in
      let n : length names ≤ 127 = rw named (names_most_lem a (opened_file o.first)) in
      let s = table_total_is in
      let w = m.most in
      record {
        given = record { booleans = omega arith; number_kinds = omega arith; number_values = omega arith; string_kinds = g.kinds_given; string_starts = g.starts_given; string_lengths = g.lengths_given };
        lent = λ i h. (m.filled i h).lent;
        summed = s;
        measured = omega arith;
      }

-- ---- measuring it, and putting it if it fits

-- s are the header's sizes
module _ {e : Edition} {h : Handed} {a b : List ℕ} {table : ℕ} (r : Ready e h a b table) (s : Sizes) (z : s ≡ sizes_with e h.names table) where
  sizes_are : s ≡ sizes_handed e h
  sizes_are = z ∙ ap (sizes_with e h.names) r.summed

  pub ready_size : size_of s < 2 ^ 64
  ready_size = let m = r.measured in let k = ap size_of sizes_are in omega arith

  -- n is the file's size, c the buffer
  module _ (l : h.lent ≡ a ++ b) (n : ℕ) (q : n ≡ size_of s) (c : List ℕ) where
    pub ready_sure : n ≤ file_most → n ≤ length c → Sure c s e h a b
    ready_sure m k = record { sized = sizes_are; given = r.given; lent = r.lent; most = omega arith; room = omega arith }

    abbrev file : List ℕ
    file = encode (entry_of e h)

    length_is : length file ≡ n
    unfolding entry_of
    length_is =
        length_with e h (string_handed h)
        (lent_described h.string_kinds h.string_starts h.string_lengths h.lent e.strings (λ i m k. rw l (r.lent i m k).0))
        ∙ sym (q ∙ ap size_of sizes_are)

    pub fit_size : file_most < n → Fitted file c c (refused 9 [])
    fit_size m = let t : leb (length file) file_most ≡ false = rw length_is (lt-leb n file_most m) in (rw t, rw t)

    module _ (m : n ≤ file_most) where
      fits : leb (length file) file_most ≡ true
      fits = rw length_is (le-leb n file_most m)

      pub fit_room : length c < n → Fitted file c c (refused 8 (n ∷ []))
      fit_room k = let t : leb (length file) (length c) ≡ false = rw length_is (lt-leb n (length c) k) in (rw (fits, t, length_is), rw (fits, t))

      pub fit_file : n ≤ length c → (d : List ℕ) → d ≡ put_at c 0 file → Fitted file c d (gives n)
      fit_file k d p = let t : leb (length file) (length c) ≡ true = rw length_is (le-leb n (length c) k) in (rw (fits, t, length_is), rw (fits, t, p))

-- ---- the answers of a merge, in their order

module _ (e : Edition) (x y b : List ℕ) where
  pub merge_edition : ok_edition e ≡ false → Merges e x y b b (refused 3 [])
  unfolding merging
  merge_edition o = (rw o, rw o)

  pub merge_first : ok_edition e ≡ true → (n : ℕ) (v : List ℕ) → refused n v ≡ reading x
      → Merges e x y b b (refused n (1 ∷ v))
  unfolding merging
  merge_first o n v q = (rw (o, ← q), rw (o, ← q))

  pub merge_second : {t : Tables} → OpenedAs e x t → (n : ℕ) (v : List ℕ) → refused n v ≡ reading y
      → Merges e x y b b (refused n (2 ∷ v))
  unfolding merging
  merge_second o n v q =
      let z = opened_edition o in
      let r : Answer (List ℕ) = refused n (2 ∷ v) in
      let g : and_then (of_file 1 (reading x)) r ≡ r = given_and_then (of_file 1 (reading x)) r (given_file o 1) in
      (rw (z, ← q, g), rw (z, ← q, g))

  module _ {t u : Tables} (o : BothOpened e x t y u) where
    merging_opened : merging e x y (length b) ≡ fitting (length b) (encode (merged e x y))
    unfolding merging
    merging_opened =
        let z = opened_edition o.first in
        rw (
          z,
          given_and_then (of_file 1 (reading x)) _ (given_file o.first 1),
          given_and_then (of_file 2 (reading y)) _ (given_file o.second 2),
        )

    pub merge_fitted : (f c : List ℕ) (says : Answer ℕ) → f ≡ encode (merged e x y) → Fitted f b c says → Merges e x y b c says
    merge_fitted f c says q w = subst (λ (z : Answer (List ℕ)). Leaves z b c says) (sym merging_opened) (subst (λ (g : List ℕ). Fitted g b c says) q w)

    -- the file is at least as long as its string table
    pub merge_large : file_most < merged_table e x y → Merges e x y b b (refused 9 [])
    unfolding sizes_for
    merge_large m =
        let l = length_encode (merged e x y) in
        let t : leb (length (encode (merged e x y))) file_most ≡ false = lt-leb (length (encode (merged e x y))) file_most (omega arith) in
        rw merging_opened (rw t, rw t)
