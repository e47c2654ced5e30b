-- Demands 2 and 3 for merged files; specs/MergeDemands.antt has what a merge must meet and the statements for readers.
-- Assumes nothing.
use Rattle.std.specs.Prelude.{◌≡◌, refl, Bool, true, false, not, List, [], ◌∷◌, ◌⊎◌, ℕ, ◌≤◌, leb, length}
use Rattle.std.proofs.Common.{ap, ◌∙◌, inl, inr, arith, le-leb, ltb-true}
use Rattle.base.specs.If.{when◌then◌else◌}
use Rattle.edition.specs.declared.Edition.{Edition}
use Rattle.edition.specs.Edition.{place}
use Rattle.entry.specs.Limits.{file_most}
use Rattle.entry.specs.State.{absent}
use Rattle.base.specs.Answer.{refused, gives, number_of}
use Rattle.entry.specs.Reading.{reading}
use Rattle.entry.specs.Writing.{encode}
use Rattle.entry.specs.Merging.{merged_boolean, merged_number, merged_string, merged, of_file}
use Rattle.entry.specs.Merging.{merging}
use Rattle.entry_laws.specs.Sound.{WrittenIn}
use Rattle.entry_laws.specs.Demands.{ReadsAsWritten}
use Rattle.entry_laws.proofs.Demands.{reads_as_written}
use Rattle.entry_laws.specs.Merge.{given_and_then, given_accepted, of_file_given, merged_edition}
use Rattle.entry_laws.specs.Merge.{edition_no_more, same_below, merged_size}
use Rattle.entry_laws.proofs.Merge.{merged_sound}
use Rattle.entry_laws.specs.MergeDemands.{MergeMeets, merged_only_if, MergedSeen, OwnMerge}

-- the answer of a merge that meets this, by the room
by_room : (e : Edition) (a b : List ℕ) (room : ℕ) → MergeMeets e a b
    → merging e a b room
    ≡ (when not (leb (length (encode (merged e a b))) room) then refused 8 (length (encode (merged e a b)) ∷ [])
    else gives (encode (merged e a b)))
unfolding merging
by_room e a b room m =
    rw (
      m.edition,
      given_and_then (of_file 1 (reading a)) _ (of_file_given 1 (reading a) ∙ m.first),
      given_and_then (of_file 2 (reading b)) _ (of_file_given 2 (reading b) ∙ m.second),
      le-leb (length (encode (merged e a b))) file_most m.size,
    )

-- "A file is written exactly when .."
pub merged_if : (e : Edition) (a b : List ℕ) (room : ℕ) → MergeMeets e a b → length (encode (merged e a b)) ≤ room
    → merging e a b room ≡ gives (encode (merged e a b))
merged_if e a b room m h = by_room e a b room m ∙ rw (le-leb (length (encode (merged e a b))) room h)

-- a merged file is written in its edition and holds what merging gives; so `reads_as_written` and `same_answers` of
-- Demands.antt hold of it
pub merged_holds : (e : Edition) (a b : List ℕ) (room : ℕ) (f : List ℕ) → merging e a b room ≡ gives f
    → WrittenIn e (merged e a b) f
merged_holds e a b room f w =
    let p = merged_only_if e a b room f w in
    let m : MergeMeets e a b = p.0 in
    record {
      sound = merged_sound e a b m.edition (given_accepted a m.first) (given_accepted b m.second) m.size;
      edition = merged_edition e a b;
      file = p.1.1;
    }

pub merged_seen : MergedSeen
unfolding merged
merged_seen e r a b room f k w =
    let m : MergeMeets e a b = (merged_only_if e a b room f w).0 in
    let s : ReadsAsWritten r (merged e a b) f
    = reads_as_written e (merged e a b) f (merged_holds e a b room f w) r (edition_no_more r e k m.edition) in
    record {
      opens = s.opens;
      names = s.names;
      booleans = λ p t.
          s.booleans p t
          ∙ ap gives (same_below (λ i. merged_boolean a b (place i)) r.booleans e.booleans p.0 absent
          k.booleans (ltb-true _ _ t));
      numbers = λ p t.
          s.numbers p t
          ∙ ap gives (same_below (λ i. merged_number a b (place i)) r.numbers e.numbers p.0 absent
          k.numbers (ltb-true _ _ t));
      strings = λ p t.
          s.strings p t
          ∙ ap gives (same_below (λ i. merged_string a b (place i)) r.strings e.strings p.0 absent
          k.strings (ltb-true _ _ t));
    }

pub own_merge : OwnMerge
own_merge e r a b room own f k w =
    let m : MergeMeets e a b = (merged_only_if e a b room f w).0 in
    let l = merged_size e r a b k in
    let z = m.size in
    let n : MergeMeets r a b
    = record {
      edition = edition_no_more r e k m.edition;
      first = m.first;
      second = m.second;
      size = omega arith;
    } in
    rw (by_room r a b own n) (by_test (leb (length (encode (merged r a b))) own) (encode (merged r a b)))
  where
    by_test : (t : Bool) (x : List ℕ) → (number_of (when not t then refused 8 (length x ∷ []) else gives x) ≡ 0)
        ⊎ (number_of (when not t then refused 8 (length x ∷ []) else gives x) ≡ 8)
    by_test true x = inl refl
    by_test false x = inr refl
