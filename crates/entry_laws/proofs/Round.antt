-- The round trip: what is written is accepted, and read back as it was, at every place.
-- Assumes nothing.
use Rattle.std.specs.Prelude.{◌≡◌}
use Rattle.std.proofs.Math.Path.{refl, sym, ap, subst}
use Rattle.std.proofs.Common.{◌∙◌, add-zero, lit<, length-append, take_at}
use Rattle.std.proofs.Math.Bool.{true, or-true}
use mathlib.Core.List.{List, [], ◌∷◌, ◌++◌, append_assoc}
use Prim.Native.Nat.{ℕ, zero, suc, ◌+◌, ◌-◌, ◌*◌, ◌≤◌, ◌<◌, suc-le-suc}
use native.Mathlib.Omega.{arith}
use Rattle.std.proofs.Math.Dec.{ltb}
use Rattle.std.proofs.Math.ListN.{length, get_or, get_or-map, get_or-eq_default}
use Rattle.std.proofs.lemmas.List.{length-map, get_or_at}
use Rattle.std.proofs.Math.Seq.{drop_at}
use borrow.Author.Tests.{lt-ltb, le-ltb, le-leb, eq-eqb}
use Rattle.base.proofs.IfLaws.{below_or}
use Rattle.base.specs.Scan.{every}
use Rattle.base.proofs.ScanLaws.{every_all}
use Rattle.base.specs.Tabulate.{Each}
use Rattle.word.specs.Word.{word, Below}
use Rattle.word.specs.Nul.{NoNul, nul_from}
use Rattle.word.proofs.WordLaws.{word_words}
use Rattle.edition.specs.declared.Place.{Place}
use Rattle.edition.specs.Edition.{place}
use Rattle.entry.specs.declared.Sizes.{Sizes}
use Rattle.entry.specs.declared.Offset.{Offset}
use Rattle.entry.specs.Limits.{magic, header_size, file_most, short_most, names_least, names_most, number_most}
use Rattle.entry.specs.Limits.{number_width}
use Rattle.entry.specs.Limits.{short_width}
use Rattle.entry.specs.State.{State, absent, cancelled, present, map_state, half, ok_slot, ok_boolean, boolean_code}
use Rattle.base.specs.Answer.{gives}
use Rattle.entry.specs.Layout.{sizes_of, booleans_at, pad_of, numbers_at, strings_at, table_at, size_of}
use Rattle.entry.specs.Reading.{Entry, bytes_of, offset, ok_counts, ok_names, ok_booleans, ok_pad, ok_numbers}
use Rattle.entry.specs.Reading.{ok_offset}
use Rattle.entry.specs.Reading.{ok_strings, reading, names_part, boolean_in, number_in, offset_in, content_at, part_in}
use Rattle.entry.specs.Reading.{string_in, held_boolean, held_number, held_string}
use Rattle.entry.specs.Writing.{offsets, string_table, sizes_for, header, padding, encode}
use Rattle.entry_laws.specs.Sound.{Sound, NumberFits, ContentFree}
use Rattle.entry_laws.specs.Parts.{header_part, booleans_part, table_part, before_booleans, before_pad}
use Rattle.entry_laws.specs.Parts.{before_numbers, before_strings, before_table, after_names, after_booleans}
use Rattle.entry_laws.specs.Parts.{after_pad, after_numbers}
use Rattle.entry_laws.specs.Parts.{at_header, at_names, at_booleans, at_pad, at_numbers, at_strings, at_table}
use Rattle.entry_laws.specs.Parts.{starts_names, starts_booleans, starts_pad, starts_numbers, starts_strings}
use Rattle.entry_laws.specs.Parts.{starts_table, length_offsets, length_encode, part_at}
use Rattle.entry_laws.specs.Slots.{BelowMarks, Passes, slots_read, slots_ok, boolean_code_lem, ok_boolean_code}
use Rattle.entry_laws.specs.Nul.{nul_behind}
use Rattle.entry_laws.specs.Accepted.{Accepted, reading_accepted}
use Rattle.entry_laws.specs.Round.{offset_of, next_start, part_from}

-- ---- the header

module _ (x : Entry) (ok : Sound x) where
  size_most : size_of (sizes_for x) ≤ file_most
  size_most = subst (λ (n : ℕ). n ≤ file_most) (length_encode x) ok.fits

  header_below : Below 65536 (header (sizes_for x))
  unfolding header
  header_below =
      let h : size_of (sizes_for x) ≤ file_most = size_most in
      (lit< tt, (omega arith, (omega arith, (omega arith, (omega arith, (omega arith, tt))))))

  -- short k of the header
  header_at : (k : ℕ) → k < 6 → word short_width (encode x) (short_width * k) ≡ get_or (header (sizes_for x)) k 0
  unfolding header
  header_at k h = rw (at_header x) (word_words short_width (header (sizes_for x)) _ k 0 header_below h)

  pub magic_written : word short_width (encode x) 0 ≡ magic
  unfolding header
  magic_written = header_at 0 (lit< tt)

  pub sizes_written : sizes_of (encode x) ≡ sizes_for x
  unfolding sizes_of header
  sizes_written =
      let a : word short_width (encode x) 2 ≡ (sizes_for x).names = header_at 1 (lit< tt) in
      let b : word short_width (encode x) 4 ≡ (sizes_for x).booleans = header_at 2 (lit< tt) in
      let c : word short_width (encode x) 6 ≡ (sizes_for x).numbers = header_at 3 (lit< tt) in
      let d : word short_width (encode x) 8 ≡ (sizes_for x).strings = header_at 4 (lit< tt) in
      let e : word short_width (encode x) 10 ≡ (sizes_for x).table = header_at 5 (lit< tt) in
      λ i. record { names = a i; booleans = b i; numbers = c i; strings = d i; table = e i }

  counts_ok : ok_counts (sizes_for x) ≡ true
  unfolding ok_counts sizes_for
  counts_ok =
      let z : size_of (sizes_for x) ≤ file_most = size_most in
      let a : 1 ≤ length x.names = ok.named in
      let b : length x.names ≤ 127 = ok.names_most in
      rw (
        le-leb names_least (sizes_for x).names (omega arith),
        le-leb (sizes_for x).names names_most (omega arith),
        le-leb (sizes_for x).booleans short_most (omega arith),
        le-leb (sizes_for x).numbers short_most (omega arith),
        le-leb (sizes_for x).strings short_most (omega arith),
        le-leb (sizes_for x).table short_most (omega arith),
      )

-- ---- names

module _ (x : Entry) where
  pub names_written : bytes_of (encode x) (names_part (sizes_for x)) ≡ x.names
  unfolding names_part sizes_for
  names_written =
      let e : length x.names + 1 - 1 ≡ length x.names = omega arith in
      rw (at_names x, drop_at (header_part x) _ header_size (starts_names x), e)
      (take_at x.names _ (length x.names) refl)

  names_ok : NoNul x.names → ok_names (encode x) (sizes_for x) ≡ true
  unfolding ok_names sizes_for
  names_ok n =
      eq-eqb _ _
      (nul_behind x.names (encode x) (header_part x) (after_names x) header_size
      (header_size + (length x.names + 1) - header_size) (at_names x) (starts_names x) n (omega arith)
      ∙ omega arith)

-- ---- booleans and the pad byte

module _ (x : Entry) where
  boolean_at : (i : ℕ) → i < length x.booleans
      → get_or (encode x) (booleans_at (sizes_for x) + i) 0 ≡ boolean_code (get_or x.booleans i absent)
  unfolding boolean_code
  boolean_at i h =
      part_at (encode x) (before_booleans x) (booleans_part x) (after_booleans x) (booleans_at (sizes_for x)) i 0
      (at_booleans x) (starts_booleans x)
      (rw (length-map x.booleans boolean_code) h)
      ∙ get_or-map boolean_code x.booleans i absent

  pub boolean_written : (p : Place) → boolean_in (encode x) (sizes_for x) p ≡ held_boolean x p
  unfolding boolean_in sizes_for
  boolean_written p =
      below_or p.0 (length x.booleans)
      (λ h. rw (lt-ltb p.0 (length x.booleans) h, boolean_at p.0 h)
      (boolean_code_lem (get_or x.booleans p.0 absent)))
      (λ h. rw (le-ltb p.0 (length x.booleans) h) (sym (get_or-eq_default x.booleans absent h)))

  booleans_ok : ok_booleans (encode x) (sizes_for x) ≡ true
  unfolding ok_booleans sizes_for
  booleans_ok =
      every_all (λ i. ok_boolean (get_or (encode x) (booleans_at (sizes_for x) + i) 0)) (length x.booleans) (λ i h.
      rw (boolean_at i h) (ok_boolean_code (get_or x.booleans i absent)))

  pad_ok : ok_pad (encode x) (sizes_for x) ≡ true
  unfolding ok_pad padding
  pad_ok = by_pad (pad_of (sizes_for x)) refl
    where
      by_pad : (k : ℕ) → pad_of (sizes_for x) ≡ k → ok_pad (encode x) (sizes_for x) ≡ true
      by_pad zero e = rw e
      by_pad (suc k) e =
          let at : encode x ≡ before_pad x ++ (0 ∷ after_pad x)
          = at_pad x ∙ ap (λ (z : ℕ). before_pad x ++ (padding z ++ after_pad x)) e in
          let g : get_or (encode x) (booleans_at (sizes_for x) + (sizes_for x).booleans) 0 ≡ 0
          = rw at (get_or_at (before_pad x) 0 (after_pad x) 0 _ (starts_pad x)) in
          rw g (simp or-true)

-- ---- numbers

number_below : (xs : List (State ℕ)) → Each NumberFits xs → Each (λ s. BelowMarks 2 s) xs
number_below [] e = tt
number_below (absent ∷ xs) e = (tt, number_below xs e.1)
number_below (cancelled ∷ xs) e = (tt, number_below xs e.1)
number_below (present n ∷ xs) e = (let h : n ≤ number_most = e.0 in omega arith, number_below xs e.1)

number_passes : (xs : List (State ℕ)) → Each NumberFits xs → Each (λ s. Passes (λ c. ltb c (half number_width)) s) xs
number_passes [] e = tt
number_passes (absent ∷ xs) e = (tt, number_passes xs e.1)
number_passes (cancelled ∷ xs) e = (tt, number_passes xs e.1)
number_passes (present n ∷ xs) e =
    (let h : n ≤ number_most = e.0 in lt-ltb n (half number_width) (omega arith), number_passes xs e.1)

module _ (x : Entry) (ok : Sound x) where
  pub number_written : (p : Place) → number_in (encode x) (sizes_for x) p ≡ held_number x p
  unfolding number_in sizes_for
  number_written p =
      slots_read 2 (λ s. s) (lit< tt) x.numbers absent (encode x) (before_numbers x) (after_numbers x)
      (numbers_at (sizes_for x)) (at_numbers x) (starts_numbers x)
      (number_below x.numbers ok.numbers_fit) refl p

  numbers_ok : ok_numbers (encode x) (sizes_for x) ≡ true
  unfolding ok_numbers sizes_for
  numbers_ok =
      slots_ok 2 (λ s. s) (lit< tt) x.numbers absent (encode x) (before_numbers x) (after_numbers x)
      (numbers_at (sizes_for x)) (at_numbers x) (starts_numbers x)
      (number_below x.numbers ok.numbers_fit) (λ c. ltb c (half number_width))
      (number_passes x.numbers ok.numbers_fit)

offset_below : (o : Offset) (xs : List (State (List ℕ))) → o.0 + length (string_table xs) ≤ file_most
    → Each (λ s. BelowMarks 2 (offset_of s)) (offsets o xs)
unfolding offsets string_table
offset_below o [] h = tt
offset_below o (absent ∷ xs) h = (tt, offset_below o xs h)
offset_below o (cancelled ∷ xs) h = (tt, offset_below o xs h)
offset_below o (present s ∷ xs) h =
    let l : length (s ++ (0 ∷ string_table xs)) ≡ length s + suc (length (string_table xs))
    = length-append s (0 ∷ string_table xs) in
    (omega arith, offset_below (offset (o.0 + length s + 1)) xs (omega arith))

pub part_ext : (a : ℕ) (g h : ℕ → State (List ℕ)) (i : ℕ) → ((j : ℕ) → j ≤ i → g j ≡ h j)
    → part_from a g i ≡ part_from a h i
unfolding part_from
part_ext a g h zero e = rw (e 0 (omega arith))
part_ext a g h (suc i) e =
    rw (e 0 (omega arith))
    (part_ext (next_start a (h 0)) (λ j. g (suc j)) (λ j. h (suc j)) i (λ j l. e (suc j) (suc-le-suc l)))

part_absent : (a i : ℕ) → part_from a (λ j. absent) i ≡ absent
unfolding part_from
part_absent a zero = refl
part_absent a (suc i) = part_absent a i

-- a file of sizes s in which the table's strings from the offset o on are xs
module _ (f : List ℕ) (s : Sizes) (sized : length f ≡ size_of s) where
  -- the first of them
  module _ (t : List ℕ) (xs : List (State (List ℕ))) (before : List ℕ) (o : Offset)
      (at : f ≡ before ++ (t ++ (0 ∷ string_table xs)))
      (starts : length before ≡ table_at s + o.0) (free : NoNul t) where
    within : table_at s + o.0 + length t < size_of s
    within =
        let l : length f ≡ length before + (length t + suc (length (string_table xs)))
        = ap length at
        ∙ rw (length-append before (t ++ (0 ∷ string_table xs)), length-append t (0 ∷ string_table xs)) in
        omega arith

    nul_of : nul_from f (table_at s + o.0) (size_of s) ≡ table_at s + o.0 + length t
    nul_of =
        let w : table_at s + o.0 + length t < size_of s = within in
        nul_behind t f before (string_table xs) (table_at s + o.0) (size_of s - (table_at s + o.0)) at starts free
        (omega arith)

    content_back : bytes_of f (content_at f s o) ≡ t
    unfolding content_at
    content_back =
        let m : table_at s + o.0 + length t - (table_at s + o.0) ≡ length t = omega arith in
        rw (nul_of, m, at, drop_at before (t ++ (0 ∷ string_table xs)) (table_at s + o.0) starts)
        (take_at t (0 ∷ string_table xs) (length t) refl)

    part_back : content_at f s o ≡ record { start = table_at s + o.0; length = length t }
    unfolding content_at
    part_back =
        let m : table_at s + o.0 + length t - (table_at s + o.0) ≡ length t = omega arith in
        rw (nul_of, m)

    offset_ok : ok_offset f s o ≡ true
    unfolding ok_offset
    offset_ok =
        let w : table_at s + o.0 + length t < size_of s = within in
        rw (nul_of, lt-ltb o.0 s.table (omega arith), lt-ltb (table_at s + o.0 + length t) (size_of s) w)

    -- what stands before the next of them
    next_at_lem : f ≡ (before ++ (t ++ (0 ∷ []))) ++ string_table xs
    next_at_lem = at ∙ simp append_assoc

    next_starts : length (before ++ (t ++ (0 ∷ []))) ≡ table_at s + (o.0 + length t + 1)
    next_starts = rw (length-append before (t ++ (0 ∷ [])), length-append t (0 ∷ []), starts) (omega arith)

  contents_back : (xs : List (State (List ℕ))) (before : List ℕ) (o : Offset) (i : ℕ) → f ≡ before ++ string_table xs
      → length before ≡ table_at s + o.0
      → Each ContentFree xs
      → map_state (bytes_of f) (map_state (content_at f s) (get_or (offsets o xs) i absent)) ≡ get_or xs i absent
  unfolding offsets string_table
  contents_back [] before o i e l n = refl
  contents_back (absent ∷ xs) before o zero e l n = refl
  contents_back (absent ∷ xs) before o (suc i) e l n = contents_back xs before o i e l n.1
  contents_back (cancelled ∷ xs) before o zero e l n = refl
  contents_back (cancelled ∷ xs) before o (suc i) e l n = contents_back xs before o i e l n.1
  contents_back (present t ∷ xs) before o zero e l n = ap present (content_back t xs before o e l n.0)
  contents_back (present t ∷ xs) before o (suc i) e l n =
      contents_back xs (before ++ (t ++ (0 ∷ []))) (offset (o.0 + length t + 1)) i
      (next_at_lem t xs before o e l n.0) (next_starts t xs before o e l n.0) n.1

  parts_back : (xs : List (State (List ℕ))) (before : List ℕ) (o : Offset) (i : ℕ) → f ≡ before ++ string_table xs
      → length before ≡ table_at s + o.0 → Each ContentFree xs
      → map_state (content_at f s) (get_or (offsets o xs) i absent)
      ≡ part_from (table_at s + o.0) (λ j. get_or xs j absent) i
  unfolding offsets string_table part_from
  parts_back [] before o i e l n = sym (part_absent (table_at s + o.0) i)
  parts_back (absent ∷ xs) before o zero e l n = refl
  parts_back (absent ∷ xs) before o (suc i) e l n = parts_back xs before o i e l n.1
  parts_back (cancelled ∷ xs) before o zero e l n = refl
  parts_back (cancelled ∷ xs) before o (suc i) e l n = parts_back xs before o i e l n.1
  parts_back (present t ∷ xs) before o zero e l n = ap present (part_back t xs before o e l n.0)
  parts_back (present t ∷ xs) before o (suc i) e l n =
      let m : table_at s + o.0 + length t + 1 ≡ table_at s + (o.0 + length t + 1) = omega arith in
      rw m (parts_back xs (before ++ (t ++ (0 ∷ []))) (offset (o.0 + length t + 1)) i
      (next_at_lem t xs before o e l n.0) (next_starts t xs before o e l n.0) n.1)

  offset_passes : (xs : List (State (List ℕ))) (before : List ℕ) (o : Offset) → f ≡ before ++ string_table xs
      → length before ≡ table_at s + o.0
      → Each ContentFree xs → Each (λ a. Passes (λ c. ok_offset f s (offset c)) (offset_of a)) (offsets o xs)
  unfolding offsets string_table
  offset_passes [] before o e l n = tt
  offset_passes (absent ∷ xs) before o e l n = (tt, offset_passes xs before o e l n.1)
  offset_passes (cancelled ∷ xs) before o e l n = (tt, offset_passes xs before o e l n.1)
  offset_passes (present t ∷ xs) before o e l n = (
    offset_ok t xs before o e l n.0,
    offset_passes xs (before ++ (t ++ (0 ∷ []))) (offset (o.0 + length t + 1)) (next_at_lem t xs before o e l n.0)
        (next_starts t xs before o e l n.0) n.1,
  )

offset_back : (s : State Offset) → map_state offset (offset_of s) ≡ s
offset_back absent = refl
offset_back cancelled = refl
offset_back (present o) = refl

module _ (x : Entry) (ok : Sound x) where
  abbrev slots : List (State Offset)
  slots = offsets (offset 0) x.strings

  table_starts : length (before_table x) ≡ table_at (sizes_for x) + 0
  table_starts = starts_table x ∙ omega arith

  slots_below : Each (λ s. BelowMarks 2 (offset_of s)) slots
  unfolding sizes_for
  slots_below =
      let z : size_of (sizes_for x) ≤ file_most = size_most x ok in offset_below (offset 0) x.strings (omega arith)

  pub offset_written : (p : Place)
      → offset_in (encode x) (sizes_for x) p ≡ get_or (offsets (offset 0) x.strings) p.0 absent
  unfolding offset_in sizes_for
  offset_written p =
      rw (
        ← length_offsets (offset 0) x.strings,
        slots_read 2 offset_of (lit< tt) slots absent (encode x) (before_strings x) (table_part x)
            (strings_at (sizes_for x)) (at_strings x) (starts_strings x) slots_below refl p,
      )
      (offset_back (get_or slots p.0 absent))

  pub string_written : (p : Place) → string_in (encode x) (sizes_for x) p ≡ held_string x p
  unfolding string_in part_in
  string_written p =
      rw (offset_written p)
      (contents_back (encode x) (sizes_for x) (length_encode x) x.strings (before_table x) (offset 0) p.0
      (at_table x) table_starts ok.strings_free)

  -- where the string at a place stands
  pub part_written : (p : Place)
      → part_in (encode x) (sizes_for x) p ≡ part_from (table_at (sizes_for x)) (λ i. held_string x (place i)) p.0
  unfolding part_in
  part_written p =
      rw (offset_written p)
      (parts_back (encode x) (sizes_for x) (length_encode x) x.strings (before_table x) (offset 0) p.0
      (at_table x) table_starts ok.strings_free
      ∙ ap (λ (a : ℕ). part_from a (λ i. held_string x (place i)) p.0) (add-zero (table_at (sizes_for x))))

  strings_ok : ok_strings (encode x) (sizes_for x) ≡ true
  unfolding ok_strings sizes_for
  strings_ok =
      subst (λ (n : ℕ).
      every (λ i. ok_slot short_width (λ c. ok_offset (encode x) (sizes_for x) (offset c))
      (word short_width (encode x) (strings_at (sizes_for x) + short_width * i))) n ≡ true)
      (length_offsets (offset 0) x.strings)
      (slots_ok 2 offset_of (lit< tt) slots absent (encode x) (before_strings x) (table_part x) (strings_at
      (sizes_for x))
      (at_strings x) (starts_strings x) slots_below
      (λ c. ok_offset (encode x) (sizes_for x) (offset c))
      (offset_passes (encode x) (sizes_for x) (length_encode x) x.strings (before_table x) (offset 0)
      (at_table x) table_starts ok.strings_free))

  -- ---- acceptance

  pub written_accepted : Accepted (encode x)
  written_accepted =
      let z : size_of (sizes_for x) ≤ file_most = size_most x ok in
      let l : length (encode x) ≡ size_of (sizes_for x) = length_encode x in
      record {
        magical = magic_written x ok;
        least = omega arith;
        most = ok.fits;
        counts = rw (sizes_written x ok) (counts_ok x ok);
        size = rw (sizes_written x ok) l;
        names = rw (sizes_written x ok) (names_ok x ok.names_free);
        booleans = rw (sizes_written x ok) (booleans_ok x);
        pad = rw (sizes_written x ok) (pad_ok x);
        numbers = rw (sizes_written x ok) (numbers_ok x ok);
        strings = rw (sizes_written x ok) strings_ok;
      }

  pub written_reading : reading (encode x) ≡ gives (sizes_for x)
  written_reading = reading_accepted (encode x) written_accepted ∙ ap gives (sizes_written x ok)
