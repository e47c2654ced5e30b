-- The parts put one behind the other are the file.
-- Assumes nothing.
use mathlib.Core.Path.{◌≡◌, refl, sym, ap, ap₂, ◌∙◌, subst}
use mathlib.Core.List.{List, [], ◌∷◌, ◌++◌, map, append_assoc}
use Prim.Native.Nat.{ℕ, ◌+◌, ◌*◌, ◌≤◌}
use native.Mathlib.Omega.{arith}
use lib.ListN.{length, length-append}
use Rattle.base.specs.Tabulate.{tabulate}
use Rattle.base.proofs.TabulateLaws.{length_tabulate}
use Rattle.base.specs.Overwrite.{put_at}
use Rattle.base.proofs.OverwriteLaws.{put_run}
use Rattle.word.specs.Word.{words}
use Rattle.word.proofs.WordLaws.{length_words}
use Rattle.edition.specs.declared.Edition.{Edition}
use Rattle.entry.specs.declared.Sizes.{Sizes}
use Rattle.entry.specs.declared.Offset.{Offset}
use Rattle.entry.specs.Limits.{file_most, number_width, offset_width, short_width}
use Rattle.entry.specs.State.{State, boolean_code}
use Rattle.entry.specs.Layout.{pad_of, booleans_at, numbers_at, table_at, size_of}
use Rattle.entry.specs.Writing.{Handed, header, padding, number_code, offset_code, string_table, sizes_for, encode}
use Rattle.entry_laws.specs.Parts.{length_padding, length_encode, before_table, at_table}
use Rattle.put.specs.Table.{booleans_of, numbers_of, slots_of, HasLengths}
use Rattle.put.proofs.TableLaws.{table_total, offsets_total, length_codes, length_shorts}
use Rattle.entry.specs.Handed.{with_lent}
use Rattle.write_laws.specs.File.{sizes_handed, entry_with, head, slots, front, FrontFits, Sure}

-- ---- the written form by its parts, for strings of the kinds and lengths handed over

-- what stands before the string table, its sizes and its string slots apart
front_of : Sizes → List (State Offset) → Edition → Handed → List ℕ
front_of s os e h =
    ((((words short_width (header s) ++ (h.names ++ (0 ∷ []))) ++ map boolean_code (booleans_of h.boolean_kinds e.booleans)) ++ padding (pad_of s))
    ++ words number_width (map number_code (numbers_of h.number_kinds h.number_values e.numbers)))
    ++ words offset_width (map offset_code os)

module _ (e : Edition) (h : Handed) (g : ℕ → State (List ℕ)) (d : HasLengths h.string_kinds h.string_lengths g e.strings) where
  pub sizes_with_lem : sizes_for (entry_with e h g) ≡ sizes_handed e h
  unfolding sizes_for
  sizes_with_lem =
      let a : length (booleans_of h.boolean_kinds e.booleans) ≡ e.booleans = length_tabulate _ _ in
      let b : length (numbers_of h.number_kinds h.number_values e.numbers) ≡ e.numbers = length_tabulate _ _ in
      let c : length (tabulate g e.strings) ≡ e.strings = length_tabulate g e.strings in
      let t : length (string_table (tabulate g e.strings)) ≡ (sizes_handed e h).table = table_total h.string_kinds h.string_lengths g e.strings d in
      λ i. record { names = length h.names + 1; booleans = a i; numbers = b i; strings = c i; table = t i }

  front_with : before_table (entry_with e h g) ≡ front (sizes_handed e h) h
  unfolding head slots front_of
  front_with =
      ap₂ (λ (s : Sizes) (os : List (State Offset)). front_of s os e h) sizes_with_lem (offsets_total h.string_kinds h.string_lengths g e.strings d)
      ∙ append_assoc (head (sizes_handed e h) h) (words number_width (map number_code (numbers_of h.number_kinds h.number_values e.numbers))) (words offset_width (map offset_code (slots_of h.string_kinds h.string_lengths e.strings)))

  pub encode_with : encode (entry_with e h g) ≡ front (sizes_handed e h) h ++ string_table (tabulate g e.strings)
  encode_with = at_table (entry_with e h g) ∙ ap (λ (f : List ℕ). f ++ string_table (tabulate g e.strings)) front_with

  pub length_with : length (encode (entry_with e h g)) ≡ size_of (sizes_handed e h)
  length_with = length_encode (entry_with e h g) ∙ ap size_of sizes_with_lem

-- ---- lengths of the parts

module _ (s : Sizes) (h : Handed) (m : s.names ≡ length h.names + 1) where
  length_named : length (words short_width (header s) ++ (h.names ++ (0 ∷ []))) ≡ booleans_at s
  unfolding header
  length_named =
      let l : length (words short_width (header s)) ≡ 12 = length_words short_width (header s) in
      simp (length-append, l) (omega arith)

  length_unpadded : length ((words short_width (header s) ++ (h.names ++ (0 ∷ []))) ++ map boolean_code (booleans_of h.boolean_kinds s.booleans)) ≡ booleans_at s + s.booleans
  length_unpadded =
      rw (length-append (words short_width (header s) ++ (h.names ++ (0 ∷ []))) (map boolean_code (booleans_of h.boolean_kinds s.booleans)), length_named, length_codes)

  length_head : length (head s h) ≡ numbers_at s
  unfolding head
  length_head =
      let p : length (padding (pad_of s)) ≡ pad_of s = length_padding (s.names + s.booleans) in
      rw (length-append ((words short_width (header s) ++ (h.names ++ (0 ∷ []))) ++ map boolean_code (booleans_of h.boolean_kinds s.booleans)) (padding (pad_of s)), length_unpadded, p)

  length_all_slots : length (slots s h) ≡ number_width * s.numbers + offset_width * s.strings
  unfolding slots
  length_all_slots =
      rw (length-append (words number_width (map number_code (numbers_of h.number_kinds h.number_values s.numbers))) (words offset_width (map offset_code (slots_of h.string_kinds h.string_lengths s.strings))))
      (simp length_shorts)

  pub length_front : length (front s h) ≡ table_at s
  length_front =
      let l = length_head in
      let k = length_all_slots in
      rw (length-append (head s h) (slots s h)) (omega arith)

  -- ---- the parts put one behind the other: b₀ is the buffer at first, and each next one is it after a call

  pub head_put : (b₀ b₁ b₂ b₃ b₄ : List ℕ) {q₃ q₄ : ℕ} → size_of s ≤ length b₀ → q₃ ≡ booleans_at s → q₄ ≡ booleans_at s + s.booleans
      → b₁ ≡ put_at b₀ 0 (words short_width (header s)) → b₂ ≡ put_at b₁ 12 (h.names ++ (0 ∷ [])) → b₃ ≡ put_at b₂ q₃ (map boolean_code (booleans_of h.boolean_kinds s.booleans))
      → b₄ ≡ put_at b₃ q₄ (padding (pad_of s)) → b₄ ≡ put_at b₀ 0 (head s h)
  unfolding head header
  head_put b₀ b₁ b₂ b₃ b₄ r w₃ w₄ e₁ e₂ e₃ e₄ =
      let a : List ℕ = words short_width (header s) in
      let n : List ℕ = h.names ++ (0 ∷ []) in
      let g : List ℕ = map boolean_code (booleans_of h.boolean_kinds s.booleans) in
      let al : length a ≡ 12 = length_words short_width (header s) in
      let nl : length n ≡ length h.names + 1 = length-append h.names (0 ∷ []) in
      let gl : length g ≡ s.booleans = length_codes _ _ _ in
      let pl : length (padding (pad_of s)) ≡ pad_of s = length_padding (s.names + s.booleans) in
      let l₂ = length_named in
      let l₃ = length_unpadded in
      let f₂ : b₂ ≡ put_at b₀ 0 (a ++ n) = e₂ ∙ put_run b₀ b₁ 0 12 a n (a ++ n) e₁ (omega arith) refl (omega arith) in
      let f₃ : b₃ ≡ put_at b₀ 0 ((a ++ n) ++ g) = e₃ ∙ put_run b₀ b₂ 0 _ (a ++ n) g ((a ++ n) ++ g) f₂ (omega arith) refl (omega arith) in
      e₄ ∙ put_run b₀ b₃ 0 _ ((a ++ n) ++ g) (padding (pad_of s)) (((a ++ n) ++ g) ++ padding (pad_of s)) f₃ (omega arith) refl (omega arith)

  pub front_put : (b₀ b₁ b₂ : List ℕ) {q : ℕ} → size_of s ≤ length b₀ → q ≡ numbers_at s → b₁ ≡ put_at b₀ 0 (head s h) → b₂ ≡ put_at b₁ q (slots s h)
      → b₂ ≡ put_at b₀ 0 (front s h)
  front_put b₀ b₁ b₂ r w e₁ e₂ =
      let l = length_head in
      let k = length_all_slots in
      e₂ ∙ put_run b₀ b₁ 0 _ (head s h) (slots s h) (front s h) e₁ (omega arith) refl (omega arith)

pub slots_put : (s : Sizes) (h : Handed) (b₀ b₁ b₂ : List ℕ) (at : ℕ) → at + number_width * s.numbers + offset_width * s.strings ≤ length b₀
    → b₁ ≡ put_at b₀ at (words number_width (map number_code (numbers_of h.number_kinds h.number_values s.numbers)))
    → b₂ ≡ put_at b₁ (at + number_width * s.numbers) (words offset_width (map offset_code (slots_of h.string_kinds h.string_lengths s.strings)))
    → b₂ ≡ put_at b₀ at (slots s h)
unfolding slots
slots_put s h b₀ b₁ b₂ at r e₁ e₂ =
    let n : List ℕ = words number_width (map number_code (numbers_of h.number_kinds h.number_values s.numbers)) in
    let o : List ℕ = words offset_width (map offset_code (slots_of h.string_kinds h.string_lengths s.strings)) in
    let nl : length n ≡ number_width * s.numbers = length_shorts _ _ _ in
    let ol : length o ≡ offset_width * s.strings = length_shorts _ _ _ in
    e₂ ∙ put_run b₀ b₁ at (at + number_width * s.numbers) n o (n ++ o) e₁ (omega arith) refl (omega arith)

-- the front and the string table are the file
pub file_put : (e : Edition) (h : Handed) (g : ℕ → State (List ℕ)) → HasLengths h.string_kinds h.string_lengths g e.strings → (b₀ b₁ b₂ : List ℕ) {q : ℕ} {s : Sizes}
    → s ≡ sizes_handed e h → size_of (sizes_handed e h) ≤ length b₀ → q ≡ table_at s → b₁ ≡ put_at b₀ 0 (front s h) → b₂ ≡ put_at b₁ q (string_table (tabulate g e.strings))
    → b₂ ≡ put_at b₀ 0 (encode (entry_with e h g))
file_put e h g d b₀ b₁ b₂ {q} {s} u r w e₁ e₂ =
    let z : Sizes = sizes_handed e h in
    let w' : q ≡ table_at z = w ∙ ap table_at u in
    let f₁ : b₁ ≡ put_at b₀ 0 (front z h) = e₁ ∙ ap (λ (t : Sizes). put_at b₀ 0 (front t h)) u in
    let l = length_front z h refl in
    let t : length (string_table (tabulate g e.strings)) ≡ z.table = table_total h.string_kinds h.string_lengths g e.strings d in
    e₂ ∙ put_run b₀ b₁ 0 q (front z h) (string_table (tabulate g e.strings)) (encode (entry_with e h g)) f₁ (omega arith) (encode_with e h g d) (omega arith)

-- where all is sure, the front fits
pub front_fits : (b : List ℕ) (s : Sizes) (e : Edition) (h : Handed) (first second : List ℕ) → Sure b s e h first second
    → FrontFits b s (with_lent h [])
front_fits b s e h first second f =
    let k = f.given in
    subst (λ (z : Sizes). size_of z ≤ file_most → size_of z ≤ length b → FrontFits b z (with_lent h [])) (sym f.sized)
    (λ m r. record {
      named = refl;
      booleans = k.booleans;
      number_kinds = k.number_kinds;
      number_values = k.number_values;
      string_kinds = k.string_kinds;
      string_lengths = k.string_lengths;
      table = refl;
      most = m;
      room = r;
    })
    f.most f.room
