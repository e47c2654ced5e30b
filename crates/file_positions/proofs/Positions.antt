-- A refusal's position is that of the first bad byte or slot of its table.
-- Assumes nothing.
use mathlib.Core.Path.{◌≡◌, refl, sym, ap, ◌∙◌}
use mathlib.Core.Bool.{Bool, true, false, ◌&&◌, ◌||◌, not}
use mathlib.Core.List.{List, []}
use mathlib.Core.Logic.{inl, inr}
use Prim.Native.Nat.{ℕ, ◌+◌, ◌-◌, ◌*◌, ◌≤◌, ◌<◌}
use native.Mathlib.Omega.{arith}
use lib.Dec.{eqb, leb}
use lib.ListN.{length, get_or}
use borrow.Author.Tests.{eq-eqb, ne_eqb, eqb-false, lt-ltb, le-ltb, not-true, not-false}
use Rattle.base.specs.If.{when◌then◌else◌}
use Rattle.base.specs.Scan.{scan, every}
use Rattle.base.specs.Answer.{Answer, refused, gives, map_answer, and_then, is_given}
use Rattle.base.proofs.IfLaws.{below_or, true_false, if_both}
use Rattle.base.proofs.ScanLaws.{scan_le, scan_before, scan_fails}
use Rattle.word.specs.Nul.{not_nul_at}
use Rattle.edition.specs.declared.Edition.{Edition}
use Rattle.edition.specs.Edition.{ok_edition}
use Rattle.entry.specs.declared.Sizes.{Sizes}
use Rattle.entry.specs.Limits.{header_size, file_most, names_least}
use Rattle.entry.specs.Layout.{sizes_of, booleans_at, pad_of}
use Rattle.entry.specs.Reading.{ok_boolean_at, ok_names, ok_booleans, ok_pad, ok_numbers, ok_strings, reading}
use Rattle.entry.specs.Reading.{bad_names, bad_boolean, bad_number, bad_string}
use Rattle.entry.specs.Asking.{opening_of, opening}
use Rattle.entry.specs.Writing.{encode, fitting}
use Rattle.entry.specs.Merging.{merged, of_file, merging}
use Rattle.entry_laws.specs.Accepted.{Header, reading_lines, counts_names_least}
use Rattle.file_positions.specs.Positions.{Table, table_of, ok_boolean_or_pad_at, FirstBad, Values}
use Rattle.file_positions.specs.Positions.{MergedValues, Positions}
use Rattle.file_positions.proofs.TestLaws.{bad_names_least, bad_names_most, bad_names_before, bad_names_nul}
use Rattle.file_positions.proofs.TestLaws.{names_closed}

-- ---- one table

-- a test that some place fails ends before the count
every_not : (ok : ℕ → Bool) (n : ℕ) → every ok n ≡ false → scan ok 0 n < n
every_not ok n h =
    let l = scan_le ok 0 n in
    let z = eqb-false (scan ok 0 n) n h in
    below_or (scan ok 0 n) n (λ g. g) (λ g. absurd (z (omega arith)))

-- and fails there
scan_bad : (ok : ℕ → Bool) (n : ℕ) → scan ok 0 n < n → ok (scan ok 0 n) ≡ false
scan_bad ok n h = scan_fails ok 0 n (omega arith)

scanned : (f : List ℕ) (t : Table) → every t.ok t.count ≡ false
    → ((i : ℕ) → i < t.count → t.start + t.width * i + t.width ≤ length f)
    → FirstBad f t (t.start + t.width * scan t.ok 0 t.count)
scanned f t h l =
    record {
      index = scan t.ok 0 t.count;
      position = refl;
      inside = every_not t.ok t.count h;
      lies = l (scan t.ok 0 t.count) (every_not t.ok t.count h);
      bad = scan_bad t.ok t.count (every_not t.ok t.count h);
      before = λ j r. scan_before t.ok 0 t.count j (omega arith) r;
    }

module _ (f : List ℕ) (k : Header f) where
  abbrev s : Sizes
  s = sizes_of f

  named : names_least ≤ s.names
  named = counts_names_least s k.counts

  names_first : ok_names f s ≡ false → FirstBad f (table_of f s 4) (bad_names f s)
  names_first h =
      let l = bad_names_least f s named in
      let m = bad_names_most f s named in
      let z = k.size in
      let n = named in
      let p : header_size + (bad_names f s - header_size) ≡ bad_names f s = omega arith in
      record {
        index = bad_names f s - header_size;
        position = omega arith;
        inside = omega arith;
        lies = omega arith;
        bad = below_or (bad_names f s) (booleans_at s - 1) (early p) (unclosed p);
        before = λ j r.
            rw (ne_eqb (j + 1) s.names (λ q. let y : ⊥ = omega arith in y))
            (bad_names_before f s named (header_size + j) (omega arith) (omega arith));
      }
    where
      early : header_size + (bad_names f s - header_size) ≡ bad_names f s → bad_names f s < booleans_at s - 1
          → (table_of f s 4).ok (bad_names f s - header_size) ≡ false
      early p g =
          let l = bad_names_least f s named in
          let n = named in
          rw (ne_eqb (bad_names f s - header_size + 1) s.names (λ q. let y : ⊥ = omega arith in y), p)
          (bad_names_nul f s named g)

      unclosed : header_size + (bad_names f s - header_size) ≡ bad_names f s → booleans_at s - 1 ≤ bad_names f s
          → (table_of f s 4).ok (bad_names f s - header_size) ≡ false
      unclosed p g =
          let m = bad_names_most f s named in
          let n = named in
          let q : bad_names f s ≡ booleans_at s - 1 = omega arith in
          let e : bad_names f s - header_size + 1 ≡ s.names = omega arith in
          rw (eq-eqb _ _ e, p, q) (by_test (not_nul_at f (booleans_at s - 1)) refl q)
        where
          by_test : (t : Bool) → not_nul_at f (booleans_at s - 1) ≡ t → bad_names f s ≡ booleans_at s - 1 → not t ≡ false
          by_test true e q = refl
          by_test false e q = true_false (sym (names_closed f s named q e) ∙ h)

  -- an index of the boolean table that is no boolean's
  pad_index : ok_booleans f s ≡ true → (ok_booleans f s && ok_pad f s) ≡ false
      → (0 < pad_of s) × (eqb (get_or f (booleans_at s + s.booleans) 0) 0 ≡ false)
  unfolding ok_pad
  pad_index b h = by_pad (eqb (pad_of s) 0) refl (rw b at h)
    where
      by_pad : (t : Bool) → eqb (pad_of s) 0 ≡ t → (t || eqb (get_or f (booleans_at s + s.booleans) 0) 0) ≡ false
          → (0 < pad_of s) × (eqb (get_or f (booleans_at s + s.booleans) 0) 0 ≡ false)
      by_pad true e q = true_false q
      by_pad false e q = (let z = eqb-false (pad_of s) 0 e in below_or 0 (pad_of s) (λ g. g) (λ g. absurd (z (omega arith))), q)

  -- the first bad boolean's index
  abbrev m : ℕ
  m = scan (ok_boolean_at f s) 0 s.booleans

  boolean_first : (ok_booleans f s && ok_pad f s) ≡ false → FirstBad f (table_of f s 5) (bad_boolean f s)
  unfolding bad_boolean ok_booleans
  boolean_first h =
      below_or m s.booleans
      (λ g. located (omega arith) (rw (lt-ltb m s.booleans g) (scan_bad (ok_boolean_at f s) s.booleans g)))
      (λ g.
      let l = scan_le (ok_boolean_at f s) 0 s.booleans in
      let e : m ≡ s.booleans = omega arith in
      let p = pad_index (eq-eqb m s.booleans e) h in
      let i = p.0 in
      located (omega arith) (rw (le-ltb m s.booleans g, e) p.1))
    where
      located : m < s.booleans + pad_of s → ok_boolean_or_pad_at f s m ≡ false → FirstBad f (table_of f s 5) (booleans_at s + m)
      located i bad =
          let l = scan_le (ok_boolean_at f s) 0 s.booleans in
          let z = k.size in
          record {
            index = m;
            position = omega arith;
            inside = i;
            lies = omega arith;
            bad = bad;
            before = λ j r.
                rw (lt-ltb j s.booleans (omega arith))
                (scan_before (ok_boolean_at f s) 0 s.booleans j (omega arith) r);
          }

  number_first : ok_numbers f s ≡ false → FirstBad f (table_of f s 6) (bad_number f s)
  unfolding ok_numbers bad_number
  number_first h = scanned f (table_of f s 6) h (λ i l. let z = k.size in omega arith)

  string_first : ok_strings f s ≡ false → FirstBad f (table_of f s 7) (bad_string f s)
  unfolding ok_strings bad_string
  string_first h = scanned f (table_of f s 7) h (λ i l. let z = k.size in omega arith)

-- ---- reading

-- what holds of each refusal
abbrev Refusing : {A : Type 0} → (ℕ → List ℕ → Type 0) → Answer A → Type 0
Refusing P (refused n v) = P n v
Refusing P (gives x) = Unit {0}

refusing_at : {A : Type 0} (P : ℕ → List ℕ → Type 0) (a : Answer A) (n : ℕ) (v : List ℕ) → a ≡ refused n v
    → Refusing P a → P n v
refusing_at P a n v e h = rw e at h

reading_values : (f : List ℕ) → Refusing (Values f) (reading f)
reading_values f =
    reading_lines f (Refusing (Values f)) (record {
      on1 = Values.none (omega arith) (omega arith) refl;
      on2 = Values.none (omega arith) (omega arith) refl;
      on3 = Values.none (omega arith) (omega arith) refl;
      on4 = λ k h. Values.position (bad_names f (sizes_of f)) (omega arith) (omega arith) refl (names_first f k h);
      on5 = λ k h. Values.position (bad_boolean f (sizes_of f)) (omega arith) (omega arith) refl (boolean_first f k h);
      on6 = λ k h. Values.position (bad_number f (sizes_of f)) (omega arith) (omega arith) refl (number_first f k h);
      on7 = λ k h. Values.position (bad_string f (sizes_of f)) (omega arith) (omega arith) refl (string_first f k h);
      accepted = λ _. tt;
    })

opening_values : (e : Edition) (f : List ℕ) → Refusing (Values f) (opening e f)
unfolding opening
opening_values e f =
    if_both (Refusing (Values f)) (not (ok_edition e)) (λ _. Values.none (omega arith) (omega arith) refl)
    (λ _. mapped (reading f) (reading_values f))
  where
    mapped : (a : Answer Sizes) → Refusing (Values f) a → Refusing (Values f) (map_answer (opening_of e) a)
    mapped (refused n v) h = h
    mapped (gives s) h = tt

-- ---- merging

module _ (e : Edition) (a b : List ℕ) (room : ℕ) (o : ok_edition e ≡ true) where
  fits : is_given (reading a) ≡ true → is_given (reading b) ≡ true
      → Refusing (MergedValues e a b) (fitting room (encode (merged e a b)))
  fits g h =
      if_both (Refusing (MergedValues e a b)) (not (leb (length (encode (merged e a b))) file_most))
      (λ _. MergedValues.written o g h (inl (refl, refl)))
      (λ _. if_both (Refusing (MergedValues e a b)) (not (leb (length (encode (merged e a b))) room))
      (λ _. MergedValues.written o g h (inr (refl, refl))) (λ _. tt))

  after_second : is_given (reading a) ≡ true
      → Refusing (MergedValues e a b) (and_then (of_file 2 (reading b)) (fitting room (encode (merged e a b))))
  after_second g = by_answer (reading b) refl (reading_values b)
    where
      by_answer : (x : Answer Sizes) → reading b ≡ x → Refusing (Values b) x
          → Refusing (MergedValues e a b) (and_then (of_file 2 x) (fitting room (encode (merged e a b))))
      by_answer (refused n w) q p = MergedValues.second w o g q refl p
      by_answer (gives s) q p = fits g (ap is_given q)

  after_first : Refusing (MergedValues e a b)
      (and_then (of_file 1 (reading a)) (and_then (of_file 2 (reading b)) (fitting room (encode (merged e a b)))))
  after_first = by_answer (reading a) refl (reading_values a)
    where
      by_answer : (x : Answer Sizes) → reading a ≡ x → Refusing (Values a) x
          → Refusing (MergedValues e a b)
          (and_then (of_file 1 x) (and_then (of_file 2 (reading b)) (fitting room (encode (merged e a b)))))
      by_answer (refused n w) q p = MergedValues.first w o q refl p
      by_answer (gives s) q p = after_second (ap is_given q)

merging_values : (e : Edition) (a b : List ℕ) (room : ℕ) → Refusing (MergedValues e a b) (merging e a b room)
unfolding merging
merging_values e a b room =
    if_both (Refusing (MergedValues e a b)) (not (ok_edition e)) (λ h. MergedValues.edition (not-true _ h) refl refl)
    (λ h. after_first e a b room (not-false _ h))

-- ---- a position is below the most bytes of a file

abbrev Fits : ℕ → List ℕ → Type 0
Fits n v = get_or v 0 0 < file_most

reading_fits : (f : List ℕ) → Refusing Fits (reading f)
reading_fits f =
    reading_lines f (Refusing Fits) (record {
      on1 = omega arith;
      on2 = omega arith;
      on3 = omega arith;
      on4 = λ k h. let l = (names_first f k h).lies in let m = k.most in omega arith;
      on5 = λ k h. let l = (boolean_first f k h).lies in let m = k.most in omega arith;
      on6 = λ k h. let l = (number_first f k h).lies in let m = k.most in omega arith;
      on7 = λ k h. let l = (string_first f k h).lies in let m = k.most in omega arith;
      accepted = λ _. tt;
    })

pub read_fits : (f : List ℕ) (n : ℕ) (v : List ℕ) → reading f ≡ refused n v → get_or v 0 0 < file_most
read_fits f n v q = refusing_at Fits (reading f) n v q (reading_fits f)

pub opened_fits : (e : Edition) (f : List ℕ) (n : ℕ) (v : List ℕ) → opening e f ≡ refused n v → get_or v 0 0 < file_most
unfolding opening
opened_fits e f n v q = refusing_at Fits (opening e f) n v q by_edition
  where
    mapped : (a : Answer Sizes) → Refusing Fits a → Refusing Fits (map_answer (opening_of e) a)
    mapped (refused n v) h = h
    mapped (gives s) h = tt

    by_edition : Refusing Fits (when not (ok_edition e) then refused 3 [] else map_answer (opening_of e) (reading f))
    by_edition = if_both (Refusing Fits) (not (ok_edition e)) (λ _. omega arith) (λ _. mapped (reading f) (reading_fits f))

pub merged_fits : (e : Edition) (a b : List ℕ) (room n : ℕ) (v : List ℕ) → merging e a b room ≡ refused n v → n ≤ 7
    → get_or v 1 0 < file_most
merged_fits e a b room n v q l = by_file (refusing_at (MergedValues e a b) (merging e a b room) n v q (merging_values e a b room))
  where
    by_file : MergedValues e a b n v → get_or v 1 0 < file_most
    by_file (MergedValues.edition o k z) = rw z (omega arith)
    by_file (MergedValues.first w o r z p) = rw z (read_fits a n w r)
    by_file (MergedValues.second w o g r z p) = rw z (read_fits b n w r)
    by_file (MergedValues.written o g h (inl z)) = absurd (let k = z.0 in let y : ⊥ = omega arith in y)
    by_file (MergedValues.written o g h (inr z)) = absurd (let k = z.0 in let y : ⊥ = omega arith in y)

pub positions : Positions
positions =
    record {
      reads = λ f n v q. refusing_at (Values f) (reading f) n v q (reading_values f);
      opens = λ e f n v q. refusing_at (Values f) (opening e f) n v q (opening_values e f);
      merges = λ e a b room n v q. refusing_at (MergedValues e a b) (merging e a b room) n v q (merging_values e a b room);
    }
