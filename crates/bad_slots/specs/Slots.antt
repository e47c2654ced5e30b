-- What stands at the position that a file's refusal gives, and that it is the first bad one (document 02, 2026-05).
-- Assumes nothing.
use Rattle.std.specs.Prelude.{◌≡◌, Bool, ◌&&◌, List, [], ◌∷◌, ℕ, ◌+◌, ◌-◌, ◌/◌, ◌<◌, ◌≤◌, ltb, leb, length, get_or}
use Rattle.std.specs.Prelude.{Option, Some, None}
use Rattle.std.proofs.Math.Path.{refl}
use Rattle.std.proofs.Common.{sym, ap, subst, ◌∙◌, arith}
use Rattle.std.proofs.Math.Bool.{true, false}
use borrow.Author.Tests.{lt-ltb, le-ltb, le-leb}
use Rattle.base.specs.If.{when◌then◌else◌}
use Rattle.base.specs.Answer.{refused}
use Rattle.base.proofs.IfLaws.{true_false}
use Rattle.word.specs.Word.{word}
use Rattle.edition.specs.declared.Kind.TheVariants as K
use Rattle.edition.specs.Edition.{place}
use Rattle.entry.specs.declared.Sizes.{Sizes}
use Rattle.entry.specs.declared.FileRefusal.{FileRefusal}
use Rattle.entry.specs.declared.FileRefusal.TheVariants as R
use Rattle.entry.specs.Limits.{header_size, number_width, offset_width}
use Rattle.entry.specs.State.{ok_slot}
use Rattle.entry.specs.Layout.{sizes_of, booleans_at, numbers_at, strings_at, table_at, size_of}
use Rattle.entry.specs.Reading.{nul_from, offset, ok_offset, reading}
use Rattle.file_positions.specs.Positions.{Table, table_of, FirstBad, Values}
use Rattle.file_positions.proofs.Positions.{positions}
use Rattle.bad_slots.specs.declared.BadSlot.{BadSlot}
use Rattle.bad_slots.specs.declared.BadSlot.TheVariants as B

-- the byte behind the booleans is the pad
abbrev pub boolean_or_pad : Sizes → ℕ → BadSlot
boolean_or_pad s i = when ltb i s.booleans then B.Slot K.Boolean (place i) else B.Pad

abbrev pub bad_slot_of : Sizes → FileRefusal → Option BadSlot
bad_slot_of s R.Length = None
bad_slot_of s R.Magic = None
bad_slot_of s R.Counts = None
bad_slot_of s (R.Names at) = None
bad_slot_of s (R.Boolean at) = Some (boolean_or_pad s (at - booleans_at s))
bad_slot_of s (R.Number at) = Some (B.Slot K.Number (place ((at - numbers_at s) / number_width)))
bad_slot_of s (R.Slot at) = Some (B.Slot K.String (place ((at - strings_at s) / offset_width)))

-- by the sizes in the file's header; none of a file that is too short for one
abbrev pub bad_slot_at : List ℕ → FileRefusal → Option BadSlot
bad_slot_at f r = when ltb (length f) header_size then None else bad_slot_of (sizes_of f) r

-- a slot of the file that holds an offset below the table size
unfoldable pub holds_offset : List ℕ → ℕ → Bool
holds_offset f at =
    leb header_size (length f)
    && (leb (at + offset_width) (length f) && ltb (word offset_width f at) (sizes_of f).table)

-- ---- of a file that reading refuses it is the first bad one of its table

module _ (f : List ℕ) (at : ℕ) where
  abbrev s : Sizes
  s = sizes_of f

  pub first_bad : (n : ℕ) → 4 ≤ n → reading f ≡ refused n (at ∷ []) → FirstBad f (table_of f s n) at
  first_bad n l q = by_values (positions.reads f n (at ∷ []) q)
    where
      by_values : Values f n (at ∷ []) → FirstBad f (table_of f s n) at
      by_values (Values.none a b z) = absurd (let y : ⊥ = omega arith in y)
      by_values (Values.position p a b z k) =
          subst (FirstBad f (table_of f s n)) (sym (ap (λ (x : List ℕ). get_or x 0 0) z)) k

  -- the header is there
  long : {t : Table} → FirstBad f t at → header_size ≤ t.start → ltb (length f) header_size ≡ false
  long b h = let p = b.position in let l = b.lies in le-ltb (length f) header_size (omega arith)

  module _ (q : reading f ≡ refused 5 (at ∷ [])) where
    -- its index in the table of the booleans and the pad
    abbrev five : FirstBad f (table_of f s 5) at
    five = first_bad 5 (omega arith) q

    pub boolean_slot : five.index < s.booleans
        → bad_slot_at f (R.Boolean at) ≡ Some (B.Slot K.Boolean (place five.index))
    boolean_slot h =
        let p = five.position in
        let e : at - booleans_at s ≡ five.index = omega arith in
        rw (long five (omega arith), e, lt-ltb five.index s.booleans h)

    pub pad_slot : s.booleans ≤ five.index → bad_slot_at f (R.Boolean at) ≡ Some B.Pad
    pad_slot h =
        let p = five.position in
        let e : at - booleans_at s ≡ five.index = omega arith in
        rw (long five (omega arith), e, le-ltb five.index s.booleans h)

  pub number_slot : (q : reading f ≡ refused 6 (at ∷ []))
      → bad_slot_at f (R.Number at) ≡ Some (B.Slot K.Number (place (first_bad 6 (omega arith) q).index))
  number_slot q =
      let b = first_bad 6 (omega arith) q in
      let p = b.position in
      let e : (at - numbers_at s) / number_width ≡ b.index = omega arith in
      rw (long b (omega arith), e)

  module _ (q : reading f ≡ refused 7 (at ∷ [])) where
    abbrev seven : FirstBad f (table_of f s 7) at
    seven = first_bad 7 (omega arith) q

    pub string_slot : bad_slot_at f (R.Slot at) ≡ Some (B.Slot K.String (place seven.index))
    string_slot =
        let p = seven.position in
        let e : (at - strings_at s) / offset_width ≡ seven.index = omega arith in
        rw (long seven (omega arith), e)

    -- it is no good offset
    bad_offset : ok_offset f s (offset (word offset_width f at)) ≡ false
    unfolding ok_slot
    bad_offset =
        by_test (ok_offset f s (offset (word offset_width f at))) refl (rw (sym seven.position) at seven.bad)
      where
        by_test : (t : Bool) → ok_offset f s (offset (word offset_width f at)) ≡ t
            → ok_slot offset_width (λ c. ok_offset f s (offset c)) (word offset_width f at) ≡ false → t ≡ false
        by_test true e h = true_false (rw e at h)
        by_test false e h = refl

    -- what the slot holds
    abbrev code : ℕ
    code = word offset_width f at

    held : holds_offset f at ≡ ltb code s.table
    unfolding holds_offset
    held =
        let p = seven.position in
        let l = seven.lies in
        rw (le-leb header_size (length f) (omega arith), le-leb (at + offset_width) (length f) l)

    -- where it holds no offset into the table, it points past it
    pub past_table : holds_offset f at ≡ false → ltb code s.table ≡ false
    past_table h = sym held ∙ h

    -- where it does, no NUL stands at or after that
    pub unclosed : holds_offset f at ≡ true → ltb (nul_from f (table_at s + code) (size_of s)) (size_of s) ≡ false
    unfolding ok_offset
    unclosed h = rw (sym held ∙ h) at bad_offset
