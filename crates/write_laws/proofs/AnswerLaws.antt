-- Laws of judging what is handed over, and of the answers in their order.
-- Assumes nothing.
use mathlib.Core.Path.{◌≡◌, refl, sym, ap, ◌∙◌}
use mathlib.Core.Bool.{true, false, ◌&&◌}
use mathlib.Core.List.{List, [], ◌∷◌, ◌++◌, append-nil}
use Prim.Native.Nat.{ℕ, zero, suc, ◌+◌, ◌-◌, ◌*◌, ◌≤◌, ◌<◌}
use native.Mathlib.Nat.{lt_of_not-le}
use native.Mathlib.Decide.{dec_le, ℕ_discrete}
use native.Mathlib.Omega.{arith}
use lib.Dec.{eqb, leb}
use lib.ListN.{length, get_or, take, drop, length-drop}
use lib.Seq.{length-take-le}
use borrow.Author.Tests.{le-leb, lt-leb}
use Rattle.base.proofs.IfLaws.{and_right}
use Rattle.base.specs.Scan.{every}
use Rattle.base.proofs.ScanLaws.{every_at}
use Rattle.base.specs.Overwrite.{put_at}
use Rattle.edition.specs.declared.Edition.{Edition}
use Rattle.entry.specs.declared.Sizes.{Sizes}
use Rattle.entry.specs.Limits.{file_most, short_most, content_most}
use Rattle.entry.specs.Layout.{size_of}
use Rattle.base.specs.Answer.{refused, gives}
use Rattle.entry.specs.Writing.{Handed, state_of, string_handed, encode, entry_of, enough_states, names_fit, is_lent, number_fits, content_fits, boolean_fits_at, number_fits_at, string_fits_at, states_fit, writing}
use Rattle.word.specs.Nul.{nul_from}
use Rattle.entry_laws.specs.Handed.{state_present, enough_facts, names_facts, lent_fact, string_facts, lent_content}
use Rattle.put.specs.Table.{string_of, total}
use Rattle.put.proofs.TableLaws.{state_none, bytes_present, bytes_none, lent_described}
use Rattle.entry.specs.Handed.{with_lent}
use Rattle.write_laws.specs.File.{sizes_handed, Given, Sure}
use Rattle.write_laws.proofs.FileLaws.{length_with}
use Rattle.write_laws.specs.Answers.{LimitsPassed, Wrote}
use Rattle.entry_laws.specs.Merge.{edition_counts}

-- ---- enough states

pub enough : (e : Edition) (h : Handed) → enough_states e h ≡ true → Given e h
enough e h t =
    let f = (enough_facts e h t).1 in
    record {
      booleans = f.0;
      number_kinds = f.1.0.0;
      number_values = f.1.0.1;
      string_kinds = f.1.1.0;
      string_starts = f.1.1.1.0;
      string_lengths = f.1.1.1.1;
    }

-- ---- one state

-- a sum tested without being made
pub leb_shift : (a b n : ℕ) → a ≤ n → leb b (n - a) ≡ leb (a + b) n
leb_shift a b n h = elim (dec_le (a + b) n) [
  | yes l ↦ le-leb b (n - a) (omega arith) ∙ sym (le-leb (a + b) n l)
  | no l ↦ (let g : n < a + b = lt_of_not-le l in lt-leb b (n - a) (omega arith) ∙ sym (lt-leb (a + b) n g))
]

pub number_fits_none : (k v : ℕ) → (k ≡ 1 → ⊥) → number_fits (state_of k v) ≡ true
unfolding number_fits
number_fits_none k v e = state_none number_fits true k v refl refl e

pub number_fits_present : (k v : ℕ) → k ≡ 1 → number_fits (state_of k v) ≡ leb v short_most
unfolding number_fits
number_fits_present k v e = ap number_fits (state_present k v e)

pub content_fits_none : (k : ℕ) (s : List ℕ) → (k ≡ 1 → ⊥) → content_fits (state_of k s) ≡ true
unfolding content_fits
content_fits_none k s e = state_none content_fits true k s refl refl e

pub content_fits_present : (k start size : ℕ) (lent s : List ℕ) → k ≡ 1 → start + size ≤ length lent → s ≡ take size (drop start lent)
    → content_fits (string_of k start size lent) ≡ (leb size content_most && eqb (nul_from s 0 (length s)) (length s))
unfolding content_fits
content_fits_present k start size lent s e h q =
    let t : List ℕ = take size (drop start lent) in
    let l : length t ≡ size = length-take-le size (drop start lent) (rw (length-drop start lent) (omega arith)) in
    ap content_fits (state_present k t e)
    ∙ ap (λ (m : ℕ). leb m content_most && eqb (nul_from t 0 (length t)) (length t)) l
    ∙ ap (λ (u : List ℕ). leb size content_most && eqb (nul_from u 0 (length u)) (length u)) (sym q)

-- ---- what is judged says of the strings and of the sizes

pub lent_at : (h : Handed) (n : ℕ) → every (is_lent h) n ≡ true
    → (i : ℕ) → i < n → get_or h.string_kinds i 0 ≡ 1 → get_or h.string_starts i 0 + get_or h.string_lengths i 0 ≤ length h.lent
lent_at h n t i l = lent_fact h i (every_at (is_lent h) n i t l)

pub total_most : (kinds lengths : List ℕ) (n : ℕ) → ((i : ℕ) → i < n → get_or kinds i 0 ≡ 1 → get_or lengths i 0 ≤ content_most) → total kinds lengths n ≤ 1001 * n
unfolding total
total_most kinds lengths zero h = omega arith
total_most kinds lengths (suc n) h =
    let ih = total_most kinds lengths n (λ i l. h i (omega arith)) in
    elim (ℕ_discrete (get_or kinds n 0) 1) [
      | yes e ↦ (let q = h n (omega arith) e in let r = bytes_present (get_or kinds n 0) (get_or lengths n 0) e in omega arith)
      | no e ↦ (let r = bytes_none (get_or kinds n 0) (get_or lengths n 0) e in omega arith)
    ]

module _ (e : Edition) (h : Handed) (j : LimitsPassed e h) where
  pub length_handed : length (encode (entry_of e h)) ≡ size_of (sizes_handed e h)
  unfolding entry_of
  length_handed = length_with e h (string_handed h) (lent_described h.string_kinds h.string_starts h.string_lengths h.lent e.strings (lent_at h e.strings j.lent))

  short_at : states_fit e h ≡ true → (i : ℕ) → i < e.strings → get_or h.string_kinds i 0 ≡ 1 → get_or h.string_lengths i 0 ≤ content_most
  unfolding states_fit
  short_at t i l k =
      let r : every (string_fits_at h) e.strings ≡ true =
      and_right (every (number_fits_at h) e.numbers) _ (and_right (every (boolean_fits_at h) e.booleans) _ t) in
      (lent_content h i (lent_at h e.strings j.lent i l k) ((string_facts h i (every_at (string_fits_at h) e.strings i r l)).1 k)).0

  -- no sum on the way to the file's length wraps
  pub size_fits : states_fit e h ≡ true → size_of (sizes_handed e h) < 1000000
  size_fits t =
      let n = (names_facts h.names j.named).0.1 in
      let k = edition_counts e (enough_facts e h j.enough).0 in
      let r = total_most h.string_kinds h.string_lengths e.strings (short_at t) in
      omega arith

  -- the lent bytes are the first slice, and the second is empty
  pub sure : (b : List ℕ) (s : Sizes) → s ≡ sizes_handed e h → size_of s ≤ file_most → size_of s ≤ length b → Sure b s e (with_lent h (h.lent ++ [])) h.lent []
  sure b s z m r =
      let k = enough e h j.enough in
      record {
        sized = z;
        given =
            record {
              booleans = k.booleans;
              number_kinds = k.number_kinds;
              number_values = k.number_values;
              string_kinds = k.string_kinds;
              string_starts = k.string_starts;
              string_lengths = k.string_lengths;
            };
        lent = λ i l q. (let f = lent_at h e.strings j.lent i l q in (rw append-nil f, λ z. f));
        most = m;
        room = r;
      }

-- ---- the answers, in the order of refusal

module _ (e : Edition) (h : Handed) (b : List ℕ) where
  pub refuse_3 : enough_states e h ≡ false → Wrote e h b b (refused 3 [])
  unfolding writing
  refuse_3 t = (rw t, rw t)

  module _ (s : enough_states e h ≡ true) where
    pub refuse_4 : names_fit h.names ≡ false → Wrote e h b b (refused 4 [])
    unfolding writing
    refuse_4 t = (rw (s, t), rw (s, t))

    pub refuse_7 : names_fit h.names ≡ true → every (is_lent h) e.strings ≡ false → Wrote e h b b (refused 7 [])
    unfolding writing
    refuse_7 n t = (rw (s, n, t), rw (s, n, t))

  module _ (j : LimitsPassed e h) where
    pub refuse_13 : states_fit e h ≡ false → Wrote e h b b (refused 13 [])
    unfolding writing
    refuse_13 t = (rw (j.enough, j.named, j.lent, t), rw (j.enough, j.named, j.lent, t))

    module _ (t : states_fit e h ≡ true) (n : ℕ) (w : n ≡ length (encode (entry_of e h))) where
      pub refuse_9 : file_most < n → Wrote e h b b (refused 9 [])
      unfolding writing
      refuse_9 m = (rw (j.enough, j.named, j.lent, t, ← w, lt-leb _ _ m), rw (j.enough, j.named, j.lent, t, ← w, lt-leb _ _ m))

      pub refuse_8 : n ≤ file_most → length b < n → Wrote e h b b (refused 8 (n ∷ []))
      unfolding writing
      refuse_8 m r = (rw (j.enough, j.named, j.lent, t, ← w, le-leb _ _ m, lt-leb _ _ r), rw (j.enough, j.named, j.lent, t, ← w, le-leb _ _ m, lt-leb _ _ r))

      pub give_file : n ≤ file_most → n ≤ length b → (c : List ℕ) → c ≡ put_at b 0 (encode (entry_of e h)) → Wrote e h b c (gives n)
      unfolding writing
      give_file m r c q = (rw (j.enough, j.named, j.lent, t, ← w, le-leb _ _ m, le-leb _ _ r) (ap gives w), rw (j.enough, j.named, j.lent, t, ← w, le-leb _ _ m, le-leb _ _ r) q)
