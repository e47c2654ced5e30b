-- The cases of the C calls' numbers, as their code meets them.
-- Assumes nothing.
use mathlib.Core.Path.{◌≡◌, refl, sym, ap, ◌∙◌}
use mathlib.Core.Bool.{Bool, true, false, not}
use mathlib.Core.List.{List, [], ◌∷◌}
use Prim.Native.Nat.{ℕ, ◌+◌, ◌*◌, ◌^◌, ◌≤◌, ◌<◌}
use native.Mathlib.Omega.{arith}
use lib.Dec.{leb}
use lib.ListN.{length, get_or}
use borrow.Author.Tests.{leb-true}
use Rattle.base.specs.If.{when◌then◌else◌}
use Rattle.base.specs.Scan.{every}
use Rattle.base.specs.Tabulate.{tabulate}
use Rattle.edition.specs.declared.Edition.{Edition}
use Rattle.edition.specs.Edition.{ok_edition}
use Rattle.std.specs.Prelude.{Result, Ok, Err}
use Rattle.entry.specs.declared.Opening.{Opening}
use Rattle.entry.specs.declared.WriteRefusal.{WriteRefusal}
use Rattle.entry.specs.declared.WriteRefusal.TheVariants as W
use Rattle.entry.specs.declared.MergeRefusal.{MergeRefusal}
use Rattle.entry.specs.declared.MergeRefusal.TheVariants as G
use Rattle.list_states.specs.declared.ListRefusal.{ListRefusal}
use Rattle.list_states.specs.declared.ListRefusal.TheVariants as L
use Rattle.text.specs.declared.CompileRefusal.{CompileRefusal}
use Rattle.text.specs.declared.CompileRefusal.TheVariants as C
use Rattle.text.specs.Compiling.{says_compiled}
use Rattle.building_laws.specs.Values as values
use Rattle.entry.specs.declared.Sizes.{Sizes}
use Rattle.entry.specs.Limits.{file_most}
use Rattle.base.specs.Answer.{Answer, refused, gives, map_answer, and_then, number_of}
use Rattle.entry.specs.Layout.{sizes_of}
use Rattle.entry.specs.Reading.{reading}
use Rattle.entry.specs.Asking.{opening}
use Rattle.entry.specs.Writing.{Handed, encode, entry_of, enough_states, names_fit, is_lent, states_fit, writing}
use Rattle.entry.specs.Merging.{merged, of_file, merging}
use Rattle.entry.specs.Says.{file_number, write_number, write_values, says_written, says_merged}
use Rattle.entry_laws.specs.Accepted.{reading_lines}
use Rattle.entry_laws.specs.Demands.{written_only_if}
use Rattle.entry_laws.specs.MergeDemands.{merged_only_if}
use Rattle.file_positions.proofs.Positions.{merged_fits}
use Rattle.list_states.specs.Listing.{done, says_listed, ValueFits}
use Rattle.c_numbers.specs.Numbers.{numbered, merging_number, none, opening_array}
use Rattle.c_numbers.specs.Numbers.{WrittenWithin, MergedWithin, LengthWithin}
use Rattle.refusal_numbers.specs.Refusals.{values_of, says_by}
use Rattle.c_numbers.proofs.Laws.{file_most_lem}
use Rattle.c_asked.specs.Asked.{asked_code, asking8}
use Rattle.terminfo_c.specs.Calls.{array_after}

-- ---- eight places at once

module _ (e : Edition) (f kinds places before : List ℕ) where
  abbrev pub eight : List ℕ
  eight = tabulate (λ i. asked_code e f (get_or kinds i 0) (get_or places i 0)) 8

  pub ask_done : (o : Opening) → gives o ≡ opening e f → (0 ≡ numbered none (asking8 e f kinds places)) × (eight ≡ array_after before (asking8 e f kinds places))
  unfolding asking8 numbered
  ask_done o g = (rw (← g), rw (← g))

  pub ask_refused : (n : ℕ) (v : List ℕ) → refused n v ≡ opening e f
      → (17 * 2 ^ 56 ≡ numbered none (asking8 e f kinds places)) × (before ≡ array_after before (asking8 e f kinds places))
  unfolding asking8 numbered
  ask_refused n v g = (rw (← g), rw (← g))

-- ---- opening

module _ (a : Answer Opening) (before : List ℕ) where
  pub open_done : (o : Opening) → gives o ≡ a → (0 ≡ numbered none a) × (opening_array o ≡ array_after before (map_answer opening_array a))
  unfolding numbered
  open_done o g = (rw (← g), rw (← g))

  pub open_refused : (n : ℕ) (v : List ℕ) → refused n v ≡ a
      → (n * 2 ^ 56 + get_or v 0 0 ≡ numbered none a) × (before ≡ array_after before (map_answer opening_array a))
  unfolding numbered
  open_refused n v g = (rw (← g), rw (← g))

-- ---- writing

map_refused : (n : ℕ) (v : List ℕ) (a : Answer (List ℕ)) → refused n v ≡ map_answer length a → refused n v ≡ a
map_refused n v (refused m w) e = cc
map_refused n v (gives f) e = absurd (let z : ◌≡◌ {A = ℕ} 0 1 = cc in (let y : ⊥ = omega arith in y))

map_gives : (n : ℕ) (a : Answer (List ℕ)) → gives n ≡ map_answer length a → (f : List ℕ) × ((n ≡ length f) × (a ≡ gives f))
map_gives n (refused m w) e = absurd (let z : ◌≡◌ {A = ℕ} 0 1 = cc in (let y : ⊥ = omega arith in y))
map_gives n (gives f) e = (f, (cc, refl))

-- the length that 8 gives is at most a file's
abbrev Bounded : {A : Type 0} → Answer A → Type 0
Bounded a = (n : ℕ) → refused 8 (n ∷ []) ≡ a → n ≤ file_most

-- 8 is not given
abbrev NoRoom : {A : Type 0} → Answer A → Type 0
NoRoom a = (v : List ℕ) → refused 8 v ≡ a → ⊥

no_room_if : {A : Type 0} (t : Bool) (k : ℕ) (a : Answer A) → (◌≡◌ {A = ℕ} 8 k → ⊥) → NoRoom a → NoRoom (when not t then refused k [] else a)
no_room_if true k a h r = r
no_room_if false k a h r = λ v e. h (cc)

no_room_gives : {A : Type 0} (x : A) → NoRoom (gives x)
no_room_gives x v e = let z : ◌≡◌ {A = ℕ} 0 1 = cc in omega arith

bounded_if : {A : Type 0} (t : Bool) (k : ℕ) (a : Answer A) → (◌≡◌ {A = ℕ} 8 k → ⊥) → (t ≡ true → Bounded a) → Bounded (when not t then refused k [] else a)
bounded_if true k a h r = r refl
bounded_if false k a h r = λ n e. absurd (h (cc))

bounded_then : {A B : Type 0} (a : Answer A) (b : Answer B) → NoRoom a → Bounded b → Bounded (and_then a b)
bounded_then (refused k v) b r c n e = absurd (r (n ∷ []) (cc))
bounded_then (gives x) b r c n e = c n e

bounded_room : {A : Type 0} (size room : ℕ) (x : A) → size ≤ file_most → Bounded (when not (leb size room) then refused 8 (size ∷ []) else gives x)
bounded_room size room x l = by_test (leb size room)
  where
    by_test : (t : Bool) → Bounded (when not t then refused 8 (size ∷ []) else gives x)
    by_test true n e = absurd (no_room_gives x (n ∷ []) e)
    by_test false n e = let z : n ≡ size = cc in omega arith

room_most : (e : Edition) (h : Handed) (room : ℕ) → Bounded (writing e h room)
unfolding writing
room_most e h room =
    let size : ℕ = length (encode (entry_of e h)) in
    bounded_if (enough_states e h) 3 _ (λ q. omega arith) (λ _.
    bounded_if (names_fit h.names) 4 _ (λ q. omega arith) (λ _.
    bounded_if (every (is_lent h) e.strings) 7 _ (λ q. omega arith) (λ _.
    bounded_if (states_fit e h) 13 _ (λ q. omega arith) (λ _.
    bounded_if (leb size file_most) 9 _ (λ q. omega arith) (λ l.
    bounded_room size room _ (leb-true size file_most l))))))

pub written_within : (e : Edition) (h : Handed) (room : ℕ) (w : Result ℕ WriteRefusal) → says_written w ≡ map_answer length (writing e h room) → WrittenWithin w
written_within e h room (Ok n) g =
    let p = map_gives n (writing e h room) g in
    let q = written_only_if e h room p.0 p.1.1 in
    let l : n ≡ length (encode (entry_of e h)) = p.1.0 ∙ ap length q.1.1 in
    let m = q.0.size in
    omega arith
written_within e h room (Err W.Counts) g = omega arith
written_within e h room (Err W.Names) g = omega arith
written_within e h room (Err W.Lent) g = omega arith
written_within e h room (Err W.Limit) g = omega arith
written_within e h room (Err W.Size) g = omega arith
written_within e h room (Err (W.Room n)) g = room_most e h room n (map_refused 8 (n ∷ []) (writing e h room) g)

-- ---- merging

reading_no_room : (f : List ℕ) (k : ℕ) → NoRoom (of_file k (reading f))
reading_no_room f k =
    reading_lines f (λ a. NoRoom (of_file k a)) (record {
      on1 = λ v e. other 1 v _ e (omega arith);
      on2 = λ v e. other 2 v _ e (omega arith);
      on3 = λ v e. other 3 v _ e (omega arith);
      on4 = λ _ _ v e. other 4 v _ e (omega arith);
      on5 = λ _ _ v e. other 5 v _ e (omega arith);
      on6 = λ _ _ v e. other 6 v _ e (omega arith);
      on7 = λ _ _ v e. other 7 v _ e (omega arith);
      accepted = λ _. no_room_gives (sizes_of f);
    })
  where
    other : (n : ℕ) (v w : List ℕ) → ◌≡◌ {A = Answer Sizes} (refused 8 v) (refused n w) → n < 8 → ⊥
    other n v w e l = let z : ◌≡◌ {A = ℕ} 8 n = ap number_of e in omega arith

merge_room_most : (e : Edition) (a b : List ℕ) (room : ℕ) → Bounded (merging e a b room)
unfolding merging
merge_room_most e a b room =
    let size : ℕ = length (encode (merged e a b)) in
    bounded_if (ok_edition e) 3 _ (λ q. omega arith) (λ _.
    bounded_then (of_file 1 (reading a)) _ (reading_no_room a 1)
    (bounded_then (of_file 2 (reading b)) _ (reading_no_room b 2)
    (bounded_if (leb size file_most) 9 _ (λ q. omega arith) (λ l.
    bounded_room size room _ (leb-true size file_most l)))))

pub merged_within : (e : Edition) (a b : List ℕ) (room : ℕ) (m : Result ℕ MergeRefusal) → says_merged m ≡ map_answer length (merging e a b room) → MergedWithin m
merged_within e a b room (Ok n) g =
    let p = map_gives n (merging e a b room) g in
    let q = merged_only_if e a b room p.0 p.1.1 in
    let l : n ≡ length (encode (merged e a b)) = p.1.0 ∙ ap length q.1.1 in
    let m = q.0.size in
    omega arith
merged_within e a b room (Err G.Edition) g = tt
merged_within e a b room (Err (G.First r)) g =
    merged_fits e a b room (file_number r) _ (sym (map_refused _ _ (merging e a b room) g)) (file_most_lem r)
merged_within e a b room (Err (G.Second r)) g =
    merged_fits e a b room (file_number r) _ (sym (map_refused _ _ (merging e a b room) g)) (file_most_lem r)
merged_within e a b room (Err G.Size) g = tt
merged_within e a b room (Err (G.Room n)) g = merge_room_most e a b room n (map_refused 8 (n ∷ []) (merging e a b room) g)

-- a length is the same number before and after the file is counted
pub numbered_length : (a : Answer (List ℕ)) → numbered (λ n. n) (map_answer length a) ≡ numbered length a
unfolding numbered
numbered_length (refused n v) = refl
numbered_length (gives f) = refl

pub merged_length : (a : Answer (List ℕ)) → merging_number (λ n. n) (map_answer length a) ≡ merging_number length a
unfolding merging_number
merged_length (refused n v) = refl
merged_length (gives f) = refl

-- ---- listing every state

-- what a call that gives nothing in its number gives has no part in it
pub numbered_done : {A : Type 0} (a : Answer A) → numbered none (map_answer done a) ≡ numbered none a
unfolding numbered
numbered_done (refused n v) = refl
numbered_done (gives x) = refl

-- ---- what the answers of writing, listing and compiling say, by the numbers and values of their refusals

pub written_by : (w : Result ℕ WriteRefusal) → says_by write_number write_values w ≡ says_written w
written_by (Ok n) = refl
written_by (Err r) = refl

pub written_bits : (w : Result ℕ WriteRefusal) → WrittenWithin w → LengthWithin write_values w
written_bits (Ok n) h = tt
written_bits (Err r) h = omega arith

pub compiled_by : (c : Result ℕ CompileRefusal)
    → says_by (λ why. number_of (says_compiled (Err why))) (λ why. values_of (says_compiled (Err why))) c
    ≡ says_compiled c
compiled_by (Ok n) = refl
compiled_by (Err C.Edition) = refl
compiled_by (Err C.Length) = refl
compiled_by (Err (C.Refused r)) = refl
compiled_by (Err C.Size) = refl
compiled_by (Err (C.Room n)) = refl

pub compiled_bits : (c : Result ℕ CompileRefusal) → values.Bounded (says_compiled c)
    → LengthWithin (λ why. values_of (says_compiled (Err why))) c
compiled_bits (Ok n) h = tt
compiled_bits (Err C.Edition) h = omega arith
compiled_bits (Err C.Length) h = omega arith
compiled_bits (Err (C.Refused r)) h = omega arith
compiled_bits (Err C.Size) h = omega arith
compiled_bits (Err (C.Room n)) h = omega arith

pub list_bits : (why : ListRefusal) → ValueFits (Err why) → get_or (values_of (says_listed (Err why))) 0 0 < 2 ^ 48
list_bits (L.File r) h = omega arith
list_bits (L.Room n) h = omega arith
