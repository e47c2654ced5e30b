-- The cases of the reader's definitions, as its code meets them.
-- Assumes nothing.
use mathlib.Core.Path.{◌≡◌, sym, ap, ap₂, ◌∙◌}
use mathlib.Core.Bool.{Bool, true, false, ◌&&◌, not, and-false}
use mathlib.Core.List.{List, [], ◌∷◌}
use Prim.Native.Nat.{ℕ, ◌+◌, ◌-◌, ◌*◌, ◌%◌, ◌≤◌, ◌<◌}
use native.Mathlib.Omega.{arith}
use lib.Dec.{eqb, ltb}
use lib.ListN.{length, get_or}
use borrow.Author.Tests.{lt-leb, le-leb, eq-eqb, ne_eqb, lt-ltb, le-ltb, leb-true}
use Rattle.base.specs.If.{when◌then◌else◌}
use Rattle.base.proofs.IfLaws.{below_or, true_false, and_left}
use Rattle.base.specs.Scan.{scan}
use Rattle.base.proofs.ScanLaws.{scan_all, scan_le, scan_before, scan_ext}
use Rattle.word.specs.Word.{word}
use Rattle.word.specs.Nul.{nul_from, not_nul_at}
use Rattle.edition.specs.declared.Edition.{Edition}
use Rattle.edition.specs.Edition.{ok_edition}
use Rattle.entry.specs.declared.Sizes.{Sizes}
use Rattle.entry.specs.declared.Tables.{Tables}
use Rattle.entry.specs.Limits.{magic, header_size, file_most, names_least, number_width, offset_width, short_width}
use Rattle.entry.specs.State.{ok_boolean, ok_slot, half}
use Rattle.base.specs.Answer.{Answer, refused, gives, map_answer}
use Rattle.entry.specs.Layout.{sizes_of, size_of, tables_of, booleans_at, numbers_at, strings_at, table_at}
use Rattle.entry.specs.Reading.{ok_counts, ok_names, ok_booleans, ok_pad, ok_numbers, ok_strings, ok_offset, offset, reading}
use Rattle.entry.specs.Reading.{ok_boolean_at, ok_number_at, ok_string_at, bad_names, bad_boolean, bad_number, bad_string}
use Rattle.entry.specs.Asking.{opening_of, opening}
use Rattle.entry_laws.specs.Accepted.{accepted_facts, accepted_sizes}
use Rattle.file_tables.specs.Framed.{Shorts, Framed, OffsetsEnd}

-- ---- the header's counts

pub counts_named : (s : Sizes) → ok_counts s ≡ true → names_least ≤ s.names
unfolding ok_counts
counts_named s h = leb-true _ _ (and_left _ _ h)

-- ---- the tables' places

pub placed : (s : Sizes) (t : Tables) → t ≡ tables_of s → t.table_at ≡ table_at s
unfolding tables_of
placed s t e = ap (λ (u : Tables). u.table_at) e

module _ {f : List ℕ} {s : Sizes} {t : Tables} (k : Framed f s t) where
  pub at_booleans : t.booleans_at ≡ booleans_at s
  unfolding tables_of
  at_booleans = ap (λ (u : Tables). u.booleans_at) k.places

  pub at_numbers : t.numbers_at ≡ numbers_at s
  unfolding tables_of
  at_numbers = ap (λ (u : Tables). u.numbers_at) k.places

  pub at_strings : t.strings_at ≡ strings_at s
  unfolding tables_of
  at_strings = ap (λ (u : Tables). u.strings_at) k.places

  pub at_table : t.table_at ≡ table_at s
  at_table = placed s t k.places

  pub in_booleans_lem : t.booleans ≡ s.booleans
  unfolding tables_of
  in_booleans_lem = ap (λ (u : Tables). u.booleans) k.places

  pub in_numbers_lem : t.numbers ≡ s.numbers
  unfolding tables_of
  in_numbers_lem = ap (λ (u : Tables). u.numbers) k.places

  pub in_strings_lem : t.strings ≡ s.strings
  unfolding tables_of
  in_strings_lem = ap (λ (u : Tables). u.strings) k.places

-- ---- the checks of the tables and the positions, by the places that code holds

-- an index that a scan comes to
pub index_most : (ok : ℕ → Bool) (m n : ℕ) → n ≡ scan ok 0 m → n ≤ m
index_most ok m n e = let l = scan_le ok 0 m in omega arith

module _ {f : List ℕ} {s : Sizes} {t : Tables} (k : Framed f s t) where
  module _ (n : ℕ) (e : n ≡ scan (λ i. ok_boolean (get_or f (t.booleans_at + i) 0)) 0 t.booleans) where
    booleans_scan : n ≡ scan (ok_boolean_at f s) 0 s.booleans
    booleans_scan =
        e ∙ ap₂ (λ (b m : ℕ). scan (λ i. ok_boolean (get_or f (b + i) 0)) 0 m) (at_booleans k) (in_booleans_lem k)

    pub booleans_bad : (n ≡ t.booleans → ⊥) → false ≡ (ok_booleans f s && ok_pad f s)
    unfolding ok_booleans
    booleans_bad h = rw (← booleans_scan, ne_eqb n s.booleans (λ q. h (q ∙ sym (in_booleans_lem k))))

    pub booleans_good : n ≡ t.booleans → ok_pad f s ≡ (ok_booleans f s && ok_pad f s)
    unfolding ok_booleans
    booleans_good h = rw (← booleans_scan, eq-eqb n s.booleans (h ∙ in_booleans_lem k))

    pub boolean_at : t.booleans_at + n ≡ bad_boolean f s
    unfolding bad_boolean
    boolean_at = ap₂ ◌+◌ (at_booleans k) booleans_scan

  pub pad_none : (s.names + s.booleans) % 2 ≡ 0 → true ≡ ok_pad f s
  unfolding ok_pad
  pad_none h = rw h

  pub pad_byte : ((s.names + s.booleans) % 2 ≡ 0 → ⊥) → eqb (get_or f (t.booleans_at + t.booleans) 0) 0 ≡ ok_pad f s
  unfolding ok_pad
  pad_byte h = rw (ne_eqb _ _ h, at_booleans k, in_booleans_lem k)

  module _ (n : ℕ) (e : n ≡ scan (λ i. ok_slot number_width (λ d. ltb d (half number_width)) (word number_width f (t.numbers_at + number_width * i))) 0 t.numbers) where
    numbers_scan : n ≡ scan (ok_number_at f s) 0 s.numbers
    numbers_scan =
        e ∙ ap₂ (λ (b m : ℕ). scan (λ i. ok_slot number_width (λ d. ltb d (half number_width)) (word number_width f (b + number_width * i))) 0 m) (at_numbers k) (in_numbers_lem k)

    pub numbers_by : eqb n t.numbers ≡ ok_numbers f s
    unfolding ok_numbers
    numbers_by = ap₂ eqb numbers_scan (in_numbers_lem k)

    pub number_at : t.numbers_at + number_width * n ≡ bad_number f s
    unfolding bad_number
    number_at = ap₂ (λ (a i : ℕ). a + number_width * i) (at_numbers k) numbers_scan

-- ---- offsets that have a NUL at or after them

-- n is one past the last NUL of the k bytes from t on
pub offsets_below : (f : List ℕ) (t k n : ℕ) → n ≤ k → ((j : ℕ) → n ≤ j → j < k → not_nul_at f (t + j) ≡ true) → (0 < n → get_or f (t + (n - 1)) 0 ≡ 0)
    → (c : ℕ) → (ltb c k && ltb (nul_from f (t + c) (t + k)) (t + k)) ≡ ltb c n
offsets_below f t k n l past last c = below_or c n before after
  where
    before : c < n → (ltb c k && ltb (nul_from f (t + c) (t + k)) (t + k)) ≡ ltb c n
    before h =
        let z : get_or f (t + (n - 1)) 0 ≡ 0 = last (omega arith) in
        let m : nul_from f (t + c) (t + k) < t + k =
        below_or (nul_from f (t + c) (t + k)) (t + k) (λ g. g) (λ g.
        let y : not_nul_at f (t + (n - 1)) ≡ true = scan_before (not_nul_at f) (t + c) (t + k - (t + c)) (t + (n - 1)) (omega arith) (omega arith) in
        true_false (sym y ∙ ap not (eq-eqb _ _ z))) in
        rw (lt-ltb c k (omega arith), lt-ltb _ _ m, lt-ltb c n h)

    after : n ≤ c → (ltb c k && ltb (nul_from f (t + c) (t + k)) (t + k)) ≡ ltb c n
    after h =
        below_or c k
        (λ g.
        let a : nul_from f (t + c) (t + k) ≡ t + c + (t + k - (t + c)) =
        scan_all (not_nul_at f) (t + c) (t + k - (t + c)) (λ j p q.
        let e : t + (j - t) ≡ j = omega arith in
        ap (not_nul_at f) (sym e) ∙ past (j - t) (omega arith) (omega arith)) in
        rw (lt-ltb c k g, le-ltb (nul_from f (t + c) (t + k)) (t + k) (omega arith), le-ltb c n h))
        (λ g. rw (le-ltb c k g, le-ltb c n h))

-- slots judged by two tests that agree
pub slot_ext : (p q : ℕ → Bool) → ((c : ℕ) → p c ≡ q c) → (c : ℕ) → ok_slot short_width p c ≡ ok_slot short_width q c
unfolding ok_slot
slot_ext p q h c = rw (h c)

module _ {f : List ℕ} {s : Sizes} {t : Tables} (k : Framed f s t) where
  -- the string slots, judged by the end of the offsets
  module _ (n end : ℕ) (o : OffsetsEnd f t.table_at s.table end)
      (e : n ≡ scan (λ i. ok_slot offset_width (λ d. ltb d end) (word offset_width f (t.strings_at + offset_width * i))) 0 t.strings) where
    strings_scan : n ≡ scan (ok_string_at f s) 0 s.strings
    unfolding ok_offset
    strings_scan =
        e ∙ ap₂ (λ (b m : ℕ). scan (λ i. ok_slot offset_width (λ d. ltb d end) (word offset_width f (b + offset_width * i))) 0 m) (at_strings k) (in_strings_lem k)
        ∙ scan_ext _ _ 0 s.strings (λ j l r.
        slot_ext (λ d. ltb d end) (λ c. ok_offset f s (offset c))
        (λ c. sym (o c) ∙ ap (λ (a : ℕ). ltb c s.table && ltb (nul_from f (a + c) (a + s.table)) (a + s.table)) (at_table k))
        (word offset_width f (strings_at s + offset_width * j)))

    pub strings_by : eqb n t.strings ≡ ok_strings f s
    unfolding ok_strings
    strings_by = ap₂ eqb strings_scan (in_strings_lem k)

    pub string_at_lem : t.strings_at + offset_width * n ≡ bad_string f s
    unfolding bad_string
    string_at_lem = ap₂ (λ (a i : ℕ). a + offset_width * i) (at_strings k) strings_scan

-- ---- the order of refusal

module _ (f : List ℕ) where
  pub file_short : length f < header_size → refused 1 [] ≡ reading f
  unfolding reading
  file_short h = rw (lt-leb _ _ h)

  pub file_long : file_most < length f → refused 1 [] ≡ reading f
  unfolding reading
  file_long h = rw (lt-leb (length f) file_most h, and-false)

  module _ (a : header_size ≤ length f) (b : length f ≤ file_most) where
    pub file_magic : (word short_width f 0 ≡ magic → ⊥) → refused 2 [] ≡ reading f
    unfolding reading
    file_magic h = rw (le-leb _ _ a, le-leb _ _ b, ne_eqb _ _ h)

    module _ (m : word short_width f 0 ≡ magic) where
      pub file_counts : ok_counts (sizes_of f) ≡ false → refused 3 [] ≡ reading f
      unfolding reading
      file_counts h = rw (le-leb _ _ a, le-leb _ _ b, eq-eqb _ _ m, h)

      module _ (k : ok_counts (sizes_of f) ≡ true) where
        pub file-size : (length f ≡ size_of (sizes_of f) → ⊥) → refused 1 [] ≡ reading f
        unfolding reading
        file-size h = rw (le-leb _ _ a, le-leb _ _ b, eq-eqb _ _ m, k, ne_eqb _ _ h)

module _ {f : List ℕ} {s : Sizes} {t : Tables} (k : Framed f s t) where
  -- what is left once the header has passed
  reading_framed : reading f ≡ (when not (ok_names f s) then refused 4 (bad_names f s ∷ [])
      else when not (ok_booleans f s && ok_pad f s) then refused 5 (bad_boolean f s ∷ [])
      else when not (ok_numbers f s) then refused 6 (bad_number f s ∷ [])
      else when not (ok_strings f s) then refused 7 (bad_string f s ∷ [])
      else gives s)
  unfolding reading
  reading_framed =
      rw (le-leb _ _ k.least, le-leb _ _ k.most, eq-eqb _ _ k.magical, ← k.header, k.counts, eq-eqb _ _ k.size)

  pub tables_names : {p : ℕ} → p ≡ bad_names f s → ok_names f s ≡ false → refused 4 (p ∷ []) ≡ reading f
  tables_names e h = rw (reading_framed, h, e)

  module _ (n : ok_names f s ≡ true) where
    pub tables_booleans : {p : ℕ} → p ≡ bad_boolean f s → (ok_booleans f s && ok_pad f s) ≡ false
        → refused 5 (p ∷ []) ≡ reading f
    tables_booleans e h = rw (reading_framed, n, h, e)

    module _ (b : (ok_booleans f s && ok_pad f s) ≡ true) where
      pub tables_numbers : {p : ℕ} → p ≡ bad_number f s → ok_numbers f s ≡ false → refused 6 (p ∷ []) ≡ reading f
      tables_numbers e h = rw (reading_framed, n, b, h, e)

      module _ (m : ok_numbers f s ≡ true) where
        pub tables-strings : {p : ℕ} → p ≡ bad_string f s → ok_strings f s ≡ false → refused 7 (p ∷ []) ≡ reading f
        tables-strings e h = rw (reading_framed, n, b, m, h, e)

        pub tables-done : ok_strings f s ≡ true → gives s ≡ reading f
        tables-done h = rw (reading_framed, n, b, m, h)

-- ---- opening

-- the sizes of an accepted file are shorts
pub accepted_shorts : (f : List ℕ) (s : Sizes) → gives s ≡ reading f → Shorts s
accepted_shorts f s e =
    let a = accepted_facts f s (sym e) in
    let q : s ≡ sizes_of f = accepted_sizes f s (sym e) in
    let l : length f ≡ size_of s = a.size ∙ ap size_of (sym q) in
    let m : length f ≤ file_most = a.most in
    record { names = omega arith; booleans = omega arith; numbers = omega arith; strings = omega arith; table = omega arith }

module _ (e : Edition) (f : List ℕ) where
  pub open_edition : ok_edition e ≡ false → refused 3 [] ≡ opening e f
  unfolding opening
  open_edition h = rw h

  pub open_file : ok_edition e ≡ true → (a : Answer Sizes) → a ≡ reading f → map_answer (opening_of e) a ≡ opening e f
  unfolding opening
  open_file h a g = rw (h, ← g)
