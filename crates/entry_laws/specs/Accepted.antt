-- What reading comes to, line by line, and what acceptance says of a file.
-- Assumes nothing.
use Rattle.std.specs.Prelude.{◌≡◌, refl, Bool, true, false, ◌&&◌, not, List, [], ◌∷◌, ℕ, ◌+◌, ◌-◌, ◌≤◌, ◌<◌, eqb, leb}
use Rattle.std.proofs.Common.{sym, ap, ◌∙◌, length-take, length-drop}
use native.Mathlib.Omega.{arith}
use Rattle.std.proofs.Math.Dec.{ltb}
use Rattle.std.proofs.Math.ListN.{length}
use borrow.Author.Tests.{ltb-true, leb-true, eqb-true, eq-eqb, le-leb, not-true, not-false}
use Rattle.base.specs.If.{when◌then◌else◌}
use Rattle.base.proofs.IfLaws.{and_left, and_right, if_both, true_false}
use Rattle.base.proofs.ScanLaws.{scan_ge}
use Rattle.word.specs.Word.{word}
use Rattle.word.specs.Nul.{NoNul, not_nul_at, nul_from}
use Rattle.edition.specs.declared.Place.{Place}
use Rattle.entry.specs.declared.Sizes.{Sizes}
use Rattle.entry.specs.declared.Offset.{Offset}
use Rattle.entry.specs.Limits.{magic, header_size, file_most, names_least, names_most, given_names_most, number_width}
use Rattle.entry.specs.Limits.{offset_width, short_width}
use Rattle.entry.specs.State.{State, absent, cancelled, present, map_state, half}
use Rattle.base.specs.Answer.{Answer, refused, gives, is_given}
use Rattle.entry.specs.Layout.{sizes_of, booleans_at, numbers_at, strings_at, table_at, size_of}
use Rattle.entry.specs.Reading.{bytes_of, offset, ok_counts, ok_names, ok_booleans, ok_pad, ok_numbers, ok_offset}
use Rattle.entry.specs.Reading.{ok_strings}
use Rattle.entry.specs.Reading.{bad_names, bad_boolean, bad_number, bad_string}
use Rattle.entry.specs.Reading.{reading, names_part, slot_in, number_in, offset_in, content_at, part_in, string_in}
use Rattle.entry_laws.specs.Sound.{NumberFits, ContentFree}
use Rattle.entry_laws.specs.Nul.{before_nul_free}
use Rattle.entry_laws.specs.Slots.{Passes, slots_pass}

-- the header passes
pub record Header (f : List ℕ) : Type 0 where
  pub least : header_size ≤ length f
  pub most : length f ≤ file_most
  pub magical : word short_width f 0 ≡ magic
  pub counts : ok_counts (sizes_of f) ≡ true
  pub size : length f ≡ size_of (sizes_of f)

pub record Accepted (f : List ℕ) : Type 0 where
  pub least : header_size ≤ length f
  pub most : length f ≤ file_most
  pub magical : word short_width f 0 ≡ magic
  pub counts : ok_counts (sizes_of f) ≡ true
  pub size : length f ≡ size_of (sizes_of f)
  pub names : ok_names f (sizes_of f) ≡ true
  pub booleans : ok_booleans f (sizes_of f) ≡ true
  pub pad : ok_pad f (sizes_of f) ≡ true
  pub numbers : ok_numbers f (sizes_of f) ≡ true
  pub strings : ok_strings f (sizes_of f) ≡ true

-- a property, for each line of `reading` by what is known there
pub record Lines (f : List ℕ) (P : Answer Sizes → Type 0) : Type 0 where
  pub on1 : P (refused 1 [])
  pub on2 : P (refused 2 [])
  pub on3 : P (refused 3 [])
  pub on4 : Header f → ok_names f (sizes_of f) ≡ false → P (refused 4 (bad_names f (sizes_of f) ∷ []))
  pub on5 : Header f → (ok_booleans f (sizes_of f) && ok_pad f (sizes_of f)) ≡ false
      → P (refused 5 (bad_boolean f (sizes_of f) ∷ []))
  pub on6 : Header f → ok_numbers f (sizes_of f) ≡ false → P (refused 6 (bad_number f (sizes_of f) ∷ []))
  pub on7 : Header f → ok_strings f (sizes_of f) ≡ false → P (refused 7 (bad_string f (sizes_of f) ∷ []))
  pub accepted : Accepted f → P (gives (sizes_of f))

-- what holds on every line holds of what reading answers
pub reading_lines : (f : List ℕ) (P : Answer Sizes → Type 0) → Lines f P → P (reading f)
unfolding reading
reading_lines f P l =
    let s : Sizes = sizes_of f in
    let lengths : Bool = leb header_size (length f) && leb (length f) file_most in
    let booleans : Bool = ok_booleans f s && ok_pad f s in
    if_both P (not lengths) (λ _. l.on1) (λ h₁.
    if_both P (not (eqb (word short_width f 0) magic)) (λ _. l.on2) (λ h₂.
    if_both P (not (ok_counts s)) (λ _. l.on3) (λ h₃.
    if_both P (not (eqb (length f) (size_of s))) (λ _. l.on1) (λ h₄.
    let fits = not-false lengths h₁ in
    let header : Header f
    = record {
      least = leb-true _ _ (and_left (leb header_size (length f)) _ fits);
      most = leb-true _ _ (and_right (leb header_size (length f)) _ fits);
      magical = eqb-true _ _ (not-false _ h₂);
      counts = not-false _ h₃;
      size = eqb-true _ _ (not-false _ h₄);
    } in
    if_both P (not (ok_names f s)) (λ t. l.on4 header (not-true _ t)) (λ h₅.
    if_both P (not booleans) (λ t. l.on5 header (not-true _ t)) (λ h₆.
    if_both P (not (ok_numbers f s)) (λ t. l.on6 header (not-true _ t)) (λ h₇.
    if_both P (not (ok_strings f s)) (λ t. l.on7 header (not-true _ t)) (λ h₈.
    l.accepted (record {
      least = header.least;
      most = header.most;
      magical = header.magical;
      counts = header.counts;
      size = header.size;
      names = not-false _ h₅;
      booleans = and_left (ok_booleans f s) _ (not-false booleans h₆);
      pad = and_right (ok_booleans f s) _ (not-false booleans h₆);
      numbers = not-false _ h₇;
      strings = not-false _ h₈;
    })))))))))

-- an answer that is given passed the test that would have refused it
pub test_passed : {A : Type 0} (t : Bool) (n : ℕ) (v : List ℕ) (a : Answer A) (x : A)
    → (when not t then refused n v else a) ≡ gives x → (t ≡ true) × (a ≡ gives x)
test_passed true n v a x e = (refl, e)
test_passed false n v a x e = absurd (let z : ◌≡◌ {A = ℕ} 0 1 = cc in (let y : ⊥ = omega arith in y))

pub accepted_facts : (f : List ℕ) (s : Sizes) → reading f ≡ gives s → Accepted f
accepted_facts f s =
    reading_lines f (λ a. a ≡ gives s → Accepted f) (record {
      on1 = λ e. true_false (sym (ap is_given e));
      on2 = λ e. true_false (sym (ap is_given e));
      on3 = λ e. true_false (sym (ap is_given e));
      on4 = λ _ _ e. true_false (sym (ap is_given e));
      on5 = λ _ _ e. true_false (sym (ap is_given e));
      on6 = λ _ _ e. true_false (sym (ap is_given e));
      on7 = λ _ _ e. true_false (sym (ap is_given e));
      accepted = λ k _. k;
    })

pub reading_accepted : (f : List ℕ) → Accepted f → reading f ≡ gives (sizes_of f)
unfolding reading
reading_accepted f a =
    rw (
      le-leb header_size (length f) a.least,
      le-leb (length f) file_most a.most,
      eq-eqb (word short_width f 0) magic a.magical,
      a.counts,
      eq-eqb (length f) (size_of (sizes_of f)) a.size,
      a.names,
      a.booleans,
      a.pad,
      a.numbers,
      a.strings,
    )

-- what is given is the header's sizes
pub accepted_sizes : (f : List ℕ) (s : Sizes) → reading f ≡ gives s → s ≡ sizes_of f
accepted_sizes f s e = let q : gives s ≡ gives (sizes_of f) = sym e ∙ reading_accepted f (accepted_facts f s e) in cc

-- ---- counts

pub counts_names_least : (s : Sizes) → ok_counts s ≡ true → names_least ≤ s.names
unfolding ok_counts
counts_names_least s h = leb-true _ _ (and_left (leb names_least s.names) _ h)

pub counts_names_most : (s : Sizes) → ok_counts s ≡ true → s.names ≤ names_most
unfolding ok_counts
counts_names_most s h =
    leb-true _ _ (and_left (leb s.names names_most) _ (and_right (leb names_least s.names) _ h))

-- ---- contents, numbers and names

content_free : (f : List ℕ) (s : Sizes) (o : Offset) → NoNul (bytes_of f (content_at f s o))
unfolding content_at
content_free f s o =
    let g : table_at s + o.0 ≤ nul_from f (table_at s + o.0) (size_of s)
    = scan_ge (not_nul_at f) (table_at s + o.0) (size_of s - (table_at s + o.0)) in
    before_nul_free f (table_at s + o.0) (size_of s) (nul_from f (table_at s + o.0) (size_of s) - (table_at s + o.0))
    (omega arith)

-- contents hold no NUL, whatever the file
pub string_free : (f : List ℕ) (s : Sizes) (p : Place) → ContentFree (string_in f s p)
unfolding string_in part_in offset_in
string_free f s p = by_slot (slot_in offset_width f (strings_at s) s.strings p)
  where
    by_slot : (t : State ℕ) → ContentFree (map_state (bytes_of f) (map_state (content_at f s) (map_state offset t)))
    by_slot absent = tt
    by_slot cancelled = tt
    by_slot (present c) = content_free f s (offset c)

module _ (f : List ℕ) (a : Accepted f) where
  pub number_fits_lem : (p : Place) → NumberFits (number_in f (sizes_of f) p)
  unfolding number_in ok_numbers
  number_fits_lem p =
      by_slot (slot_in number_width f (numbers_at (sizes_of f)) (sizes_of f).numbers p)
      (slots_pass number_width (λ c. ltb c (half number_width)) f (numbers_at (sizes_of f)) (sizes_of f).numbers
      a.numbers p)
    where
      by_slot : (t : State ℕ) → Passes (λ c. ltb c (half number_width)) t → NumberFits t
      by_slot absent h = tt
      by_slot cancelled h = tt
      by_slot (present n) h = let l : n < half number_width = ltb-true n (half number_width) h in omega arith

  -- an offset that a slot presents is good
  pub offset_fits : (p : Place)
      → Passes (λ c. ok_offset f (sizes_of f) (offset c))
      (slot_in offset_width f (strings_at (sizes_of f)) (sizes_of f).strings p)
  unfolding ok_strings
  offset_fits p =
      slots_pass offset_width (λ c. ok_offset f (sizes_of f) (offset c)) f (strings_at (sizes_of f)) (sizes_of
      f).strings
      a.strings p

  pub names_length : length (bytes_of f (names_part (sizes_of f))) ≡ (sizes_of f).names - 1
  unfolding names_part
  names_length =
      let n : names_least ≤ (sizes_of f).names = counts_names_least (sizes_of f) a.counts in
      let z : length f ≡ size_of (sizes_of f) = a.size in
      rw (length-take, length-drop) (omega arith)

  pub names_least_lem : 1 ≤ length (bytes_of f (names_part (sizes_of f)))
  names_least_lem =
      let n : names_least ≤ (sizes_of f).names = counts_names_least (sizes_of f) a.counts in
      rw names_length (omega arith)

  pub names_most_lem : length (bytes_of f (names_part (sizes_of f))) ≤ given_names_most
  names_most_lem =
      let n : (sizes_of f).names ≤ names_most = counts_names_most (sizes_of f) a.counts in
      rw names_length (omega arith)

  pub names_free_lem : NoNul (bytes_of f (names_part (sizes_of f)))
  unfolding names_part ok_names
  names_free_lem =
      let n : names_least ≤ (sizes_of f).names = counts_names_least (sizes_of f) a.counts in
      let z : nul_from f header_size (booleans_at (sizes_of f)) ≡ booleans_at (sizes_of f) - 1 = eqb-true _ _ a.names in
      before_nul_free f header_size (booleans_at (sizes_of f)) ((sizes_of f).names - 1) (omega arith)
