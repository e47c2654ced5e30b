-- Laws of the states by kinds and contents, and of the loops that put them.
-- Assumes nothing.
use mathlib.Core.Path.{◌≡◌, refl, sym, ap, ap₂, ◌∙◌}
use mathlib.Core.Bool.{Bool, true, false}
use mathlib.Core.List.{List, [], ◌∷◌, ◌++◌, map, append_assoc}
use Prim.Native.Nat.{ℕ, zero, suc, ◌+◌, ◌-◌, ◌*◌, ◌≤◌, ◌<◌}
use native.Mathlib.Decide.{ℕ_discrete}
use native.Mathlib.Omega.{arith}
use lib.Dec.{eqb}
use lib.ListN.{length, get_or, take, drop, set, length-append, length-drop, length-map}
use lib.Seq.{length-take-le, take-append-le, drop-append-le, drop-append-add}
use borrow.Author.Tests.{ne_eqb}
use Rattle.base.specs.If.{when◌then◌else◌}
use Rattle.base.specs.Tabulate.{tabulate}
use Rattle.base.proofs.TabulateLaws.{length_tabulate, tabulate_more, map_append}
use Rattle.base.specs.Overwrite.{put_at}
use Rattle.base.proofs.OverwriteLaws.{put_run, put_store}
use Rattle.word.specs.Word.{bytes, words}
use Rattle.word.proofs.WordLaws.{length_bytes, length_words, words_append, words_one}
use Rattle.entry.specs.Limits.{short_width}
use Rattle.entry.specs.declared.Offset.{Offset}
use Rattle.entry.specs.State.{State, absent, cancelled, present, map_state, code_of}
use Rattle.entry.specs.Reading.{offset}
use Rattle.entry.specs.Writing.{state_of, offsets, string_table, padding, offset_code}
use Rattle.entry_laws.specs.Handed.{state_has, state_present}
use Rattle.put.specs.Table.{string_of, string_at, table_bytes, length_at, total, slot_at, slots_of, HasLengths}

-- ---- states by kind

pub map_state_of : {A B : Type 0} (g : A → B) (k : ℕ) (x : A) → map_state g (state_of k x) ≡ state_of k (g x)
unfolding state_of
map_state_of {A} {B} g k x = by_tests (eqb k 0) (eqb k 1)
  where
    by_tests : (a b : Bool) → map_state g (when a then absent else when b then present x else cancelled) ≡ (when a then absent else when b then present (g x) else cancelled)
    by_tests true b = refl
    by_tests false true = refl
    by_tests false false = refl

-- a content counts only where the kind is present
pub state_other : {A : Type 0} (k : ℕ) (x y : A) → (k ≡ 1 → ⊥) → state_of k x ≡ state_of k y
unfolding state_of
state_other k x y e = rw (ne_eqb k 1 e)

map_const : {A B C : Type 0} (g : A → B) (z : C) (s : State A) → map_state (λ (y : B). z) (map_state g s) ≡ map_state (λ (x : A). z) s
map_const g z absent = refl
map_const g z cancelled = refl
map_const g z (present x) = refl

-- the slot's code is the same, by a bare number or by an offset
pub offset_code_lem : (k : ℕ) (o : Offset) → code_of short_width (state_of k o.0) ≡ offset_code (state_of k o)
offset_code_lem k o = sym (ap (code_of short_width) (map_state_of (λ (p : Offset). p.0) k o))

-- ---- table bytes by kind

pub bytes_present : (k n : ℕ) → k ≡ 1 → table_bytes (state_of k n) ≡ n + 1
unfolding table_bytes
bytes_present k n e = ap table_bytes (state_present k n e)

-- what holds of the two states without a content holds of every kind but present
pub state_none : {A C : Type 0} (f : State A → C) (z : C) (k : ℕ) (x : A) → f absent ≡ z → f cancelled ≡ z → (k ≡ 1 → ⊥) → f (state_of k x) ≡ z
state_none f z k x p q e = state_has (λ s. f s ≡ z) k x p q (λ h. absurd (e h))

pub bytes_none : (k n : ℕ) → (k ≡ 1 → ⊥) → table_bytes (state_of k n) ≡ 0
unfolding table_bytes
bytes_none k n e = state_none table_bytes 0 k n refl refl e

-- a string that is not present has no part of the table
pub part_none : (k : ℕ) (s : List ℕ) → (k ≡ 1 → ⊥) → string_table (state_of k s ∷ []) ≡ []
unfolding string_table
part_none k s e = state_none (λ (t : State (List ℕ)). string_table (t ∷ [])) [] k s refl refl e

pub part_present : (k : ℕ) (s : List ℕ) → k ≡ 1 → string_table (state_of k s ∷ []) ≡ s ++ (0 ∷ [])
unfolding string_table
part_present k s e = ap (λ (t : State (List ℕ)). string_table (t ∷ [])) (state_present k s e)

pub length_part : (s : State (List ℕ)) → length (string_table (s ∷ [])) ≡ table_bytes (map_state length s)
unfolding string_table table_bytes
length_part absent = refl
length_part cancelled = refl
length_part (present s) = length-append s (0 ∷ [])

-- ---- one string more

pub total_more : (kinds lengths : List ℕ) (n : ℕ) → total kinds lengths (n + 1) ≡ total kinds lengths n + table_bytes (length_at kinds lengths n)
unfolding total
total_more kinds lengths n = let e : n + 1 ≡ suc n = omega arith in rw e

-- what no place lowers is lowered by no number of places
never_lower : (f : ℕ → ℕ) → ((i : ℕ) → f i ≤ f (i + 1)) → (i n : ℕ) → i ≤ n → f i ≤ f n
never_lower f up i n h = let e : i + (n - i) ≡ n = omega arith in rw e at (by_steps (n - i))
  where
    by_steps : (k : ℕ) → f i ≤ f (i + k)
    by_steps zero = let e : i + 0 ≡ i = omega arith in rw e (omega arith)
    by_steps (suc k) =
        let e : i + suc k ≡ i + k + 1 = omega arith in
        let ih = by_steps k in
        let s = up (i + k) in
        rw e (omega arith)

-- the strings up to a place take no more than all
pub total_below : (kinds lengths : List ℕ) (i n : ℕ) → i < n → total kinds lengths i + table_bytes (length_at kinds lengths i) ≤ total kinds lengths n
total_below kinds lengths i n h =
    let l = never_lower (total kinds lengths) (λ j. let t = total_more kinds lengths j in omega arith) (i + 1) n (omega arith) in
    let t = total_more kinds lengths i in
    omega arith

offsets_more : (o : Offset) (xs : List (State (List ℕ))) (s : State (List ℕ))
    → offsets o (xs ++ (s ∷ [])) ≡ offsets o xs ++ (map_state (λ (t : List ℕ). offset (o.0 + length (string_table xs))) s ∷ [])
unfolding offsets string_table
offsets_more o [] absent = refl
offsets_more o [] cancelled = refl
offsets_more o [] (present s) = ap (λ (n : ℕ). present (offset n) ∷ []) (omega arith)
offsets_more o (absent ∷ xs) s = ap (λ l. absent ∷ l) (offsets_more o xs s)
offsets_more o (cancelled ∷ xs) s = ap (λ l. cancelled ∷ l) (offsets_more o xs s)
offsets_more o (present t ∷ xs) s =
    let p : Offset = offset (o.0 + length t + 1) in
    let e : p.0 + length (string_table xs) ≡ o.0 + length (t ++ (0 ∷ string_table xs)) = rw (length-append t (0 ∷ string_table xs)) (omega arith) in
    ap (λ l. present o ∷ l) (offsets_more p xs s ∙ ap (λ (n : ℕ). offsets p xs ++ (map_state (λ (u : List ℕ). offset n) s ∷ [])) e)

table_more : (xs : List (State (List ℕ))) (s : State (List ℕ)) → string_table (xs ++ (s ∷ [])) ≡ string_table xs ++ string_table (s ∷ [])
unfolding string_table
table_more [] s = refl
table_more (absent ∷ xs) s = table_more xs s
table_more (cancelled ∷ xs) s = table_more xs s
table_more (present t ∷ xs) s = rw (table_more xs s) (simp append_assoc)

-- ---- the table and the slots of strings of these kinds and lengths

pub strings_more : (g : ℕ → State (List ℕ)) (n : ℕ) → string_table (tabulate g (n + 1)) ≡ string_table (tabulate g n) ++ string_table (g n ∷ [])
strings_more g n = ap string_table (tabulate_more g n) ∙ table_more (tabulate g n) (g n)

-- the table of the first strings is no longer than that of all
pub table_below : (g : ℕ → State (List ℕ)) (i n : ℕ) → i ≤ n → length (string_table (tabulate g i)) ≤ length (string_table (tabulate g n))
table_below g = never_lower (λ k. length (string_table (tabulate g k))) (λ k. rw (strings_more g k, length-append (string_table (tabulate g k)) (string_table (g k ∷ []))) (omega arith))

module _ (kinds lengths : List ℕ) (g : ℕ → State (List ℕ)) where
  pub part_length : (i n : ℕ) → HasLengths kinds lengths g n → i < n → length (string_table (g i ∷ [])) ≡ table_bytes (length_at kinds lengths i)
  part_length i n d h = length_part (g i) ∙ ap table_bytes (d i h)

  pub table_total : (n : ℕ) → HasLengths kinds lengths g n → length (string_table (tabulate g n)) ≡ total kinds lengths n
  unfolding tabulate string_table total
  table_total zero d = refl
  table_total (suc n) d =
      let e : suc n ≡ n + 1 = omega arith in
      let ih : length (string_table (tabulate g n)) ≡ total kinds lengths n = table_total n (λ i h. d i (omega arith)) in
      let p = part_length n (suc n) d (omega arith) in
      ap (λ (k : ℕ). length (string_table (tabulate g k))) e ∙ ap length (strings_more g n) ∙ length-append (string_table (tabulate g n)) (string_table (g n ∷ [])) ∙ rw (ih, p)

  pub offsets_total : (n : ℕ) → HasLengths kinds lengths g n → offsets (offset 0) (tabulate g n) ≡ slots_of kinds lengths n
  unfolding tabulate offsets
  offsets_total zero d = refl
  offsets_total (suc n) d =
      let e : suc n ≡ n + 1 = omega arith in
      let d' : HasLengths kinds lengths g n = λ i h. d i (omega arith) in
      let z : 0 + length (string_table (tabulate g n)) ≡ total kinds lengths n = (let t = table_total n d' in omega arith) in
      let o : Offset = offset (total kinds lengths n) in
      let s : map_state (λ (t : List ℕ). o) (g n) ≡ slot_at kinds lengths n = sym (map_const length o (g n)) ∙ ap (map_state (λ (m : ℕ). o)) (d n (omega arith)) ∙ map_state_of (λ (m : ℕ). o) (get_or kinds n 0) (get_or lengths n 0) in
      ap (λ (k : ℕ). offsets (offset 0) (tabulate g k)) e
      ∙ ap (offsets (offset 0)) (tabulate_more g n)
      ∙ offsets_more (offset 0) (tabulate g n) (g n)
      ∙ ap₂ (λ (l : List (State Offset)) (m : ℕ). l ++ (map_state (λ (t : List ℕ). offset m) (g n) ∷ [])) (offsets_total n d') z
      ∙ ap (λ (t : State Offset). slots_of kinds lengths n ++ (t ∷ [])) s
      ∙ sym (tabulate_more (slot_at kinds lengths) n)
      ∙ ap (slots_of kinds lengths) (sym e)

-- a string that lies in what is lent is of its kind and length
pub lent_length : (lent : List ℕ) (k a m : ℕ) → (k ≡ 1 → a + m ≤ length lent) → map_state length (string_of k a m lent) ≡ state_of k m
lent_length lent k a m q = map_state_of length k (take m (drop a lent)) ∙ elim (ℕ_discrete k 1) [
  | yes e ↦ (let r : a + m ≤ length lent = q e in ap (state_of k) (length-take-le m (drop a lent) (rw (length-drop a lent) (omega arith))))
  | no e ↦ state_other k (length (take m (drop a lent))) m e
]

pub lent_described : (kinds starts lengths lent : List ℕ) (n : ℕ) → ((i : ℕ) → i < n → get_or kinds i 0 ≡ 1 → get_or starts i 0 + get_or lengths i 0 ≤ length lent)
    → HasLengths kinds lengths (string_at kinds starts lengths lent) n
lent_described kinds starts lengths lent n l i h = lent_length lent (get_or kinds i 0) (get_or starts i 0) (get_or lengths i 0) (l i h)

-- ---- the turns of the loops that put: b holds the first i from at on

module _ {A : Type 0} (code : A → ℕ) (g : ℕ → A) where
  codes_more : (i : ℕ) → map code (tabulate g (i + 1)) ≡ map code (tabulate g i) ++ (code (g i) ∷ [])
  codes_more i = ap (map code) (tabulate_more g i) ∙ map_append code (tabulate g i) (g i ∷ [])

  pub length_codes : (i : ℕ) → length (map code (tabulate g i)) ≡ i
  length_codes i = length-map (tabulate g i) code ∙ length_tabulate g i

  pub length_shorts : (i : ℕ) → length (words short_width (map code (tabulate g i))) ≡ short_width * i
  length_shorts i = length_words short_width (map code (tabulate g i)) ∙ ap (λ (k : ℕ). short_width * k) (length_codes i)

  -- a code stored as a byte
  pub byte_turn : (b₀ b : List ℕ) (at i n c : ℕ) → at + n ≤ length b₀ → i < n → b ≡ put_at b₀ at (map code (tabulate g i)) → c ≡ code (g i)
      → set b (at + i) c ≡ put_at b₀ at (map code (tabulate g (i + 1)))
  byte_turn b₀ b at i n c f h e q =
      let l = length_codes i in
      put_store b₀ b at (at + i) c (map code (tabulate g i)) (map code (tabulate g (i + 1))) e (omega arith) (rw q (codes_more i)) (omega arith)

  -- a code put as a short
  pub short_turn : (b₀ b : List ℕ) (at i n c : ℕ) → at + short_width * n ≤ length b₀ → i < n → b ≡ put_at b₀ at (words short_width (map code (tabulate g i))) → c ≡ code (g i)
      → put_at b (at + short_width * i) (bytes short_width c) ≡ put_at b₀ at (words short_width (map code (tabulate g (i + 1))))
  short_turn b₀ b at i n c f h e q =
      let done : List ℕ = map code (tabulate g i) in
      let l = length_shorts i in
      let m : words short_width (map code (tabulate g (i + 1))) ≡ words short_width done ++ bytes short_width c =
      ap (words short_width) (codes_more i) ∙ words_append short_width done (code (g i) ∷ []) ∙ rw (words_one, q) in
      put_run b₀ b at (at + short_width * i) (words short_width done) (bytes short_width c) (words short_width (map code (tabulate g (i + 1)))) e (omega arith) m (rw length_bytes (omega arith))

-- a string's part put by a call
pub string_turn : (kinds lengths : List ℕ) (g : ℕ → State (List ℕ)) (b₀ b : List ℕ) (at p i n : ℕ) → HasLengths kinds lengths g n → at + total kinds lengths n ≤ length b₀
    → i < n → p ≡ at + total kinds lengths i → b ≡ put_at b₀ at (string_table (tabulate g i))
    → put_at b p (string_table (g i ∷ [])) ≡ put_at b₀ at (string_table (tabulate g (i + 1)))
string_turn kinds lengths g b₀ b at p i n d f h q e =
    let l = table_total kinds lengths g i (λ j r. d j (omega arith)) in
    let m = part_length kinds lengths g i n d h in
    let t = total_below kinds lengths i n h in
    put_run b₀ b at p (string_table (tabulate g i)) (string_table (g i ∷ [])) (string_table (tabulate g (i + 1))) e (omega arith) (strings_more g i) (omega arith)

-- one short more behind the shorts xs at the front
pub put_front_short : (b₀ b : List ℕ) (p x : ℕ) (xs : List ℕ) → b ≡ put_at b₀ 0 (words short_width xs) → p ≡ 2 * length xs → p + 2 ≤ length b₀
    → put_at b p (bytes short_width x) ≡ put_at b₀ 0 (words short_width (xs ++ (x ∷ [])))
put_front_short b₀ b p x xs e q h =
    let l = length_words short_width xs in
    put_run b₀ b 0 p (words short_width xs) (bytes short_width x) (words short_width (xs ++ (x ∷ []))) e (omega arith) (words_append short_width xs (x ∷ []) ∙ rw words_one) (rw length_bytes (omega arith))

pub padding_one : (n : ℕ) → (n ≡ 0 → ⊥) → padding n ≡ 0 ∷ []
unfolding padding
padding_one zero h = absurd (h refl)
padding_one (suc n) h = refl

-- ---- a content in one of two lent slices

pub in_first : (first second : List ℕ) (start size : ℕ) → start + size ≤ length first → take size (drop start (first ++ second)) ≡ take size (drop start first)
in_first first second start size h =
    rw (drop-append-le start first second (omega arith)) (take-append-le size (drop start first) second (rw (length-drop start first) (omega arith)))

pub in_second : (first second : List ℕ) (start size : ℕ) → length first ≤ start → take size (drop start (first ++ second)) ≡ take size (drop (start - length first) second)
in_second first second start size h =
    let e : start ≡ length first + (start - length first) = omega arith in
    ap (take size) (ap (λ (n : ℕ). drop n (first ++ second)) e ∙ drop-append-add first second (start - length first))
