-- Laws of the walk: entering a description, and the walk from one that is entered to the next.
-- Assumes nothing.
use mathlib.Core.Path.{◌≡◌, sym, ap, ◌∙◌}
use mathlib.Core.List.{List, []}
use Prim.Native.Nat.{ℕ, ◌+◌, ◌<◌}
use native.Mathlib.Omega.{arith}
use Rattle.base.specs.Answer.{Answer, gives, map_answer}
use Rattle.base.proofs.TabulateLaws.{length_tabulate}
use Rattle.edition.specs.declared.Edition.{Edition}
use Rattle.entry.specs.Reading.{Entry, edition_of}
use Rattle.entry.specs.Writing.{Handed, boolean_handed, number_handed}
use Rattle.uses.specs.Fast.{fast}
use Rattle.text.specs.declared.TextRefused.{TextRefused}
use Rattle.text.specs.Describing.{Fields, sayings_from, Description, described}
use Rattle.text.specs.Building.{description_at, uses_of, own_of}
use Rattle.building_laws.specs.Over.{described_over}
use Rattle.compile_laws.specs.Held.{text_string, text_entry, Holds}
use Rattle.compile_laws.specs.Listed.{text_descriptions}
use Rattle.std.specs.Prelude.{Bool, Result, Ok, Err}
use Rattle.each_field.specs.Each.{KeepsAll}
use Rattle.walk_fields.specs.Walks.{FieldsCome, Walks}
use Rattle.use_turns.specs.declared.Frames.{Frames}
use Rattle.use_turns.specs.Frames.{UseArrays, use_arrays, Framed, resume_at, started}
use Rattle.use_turns.proofs.FrameLaws.{framed_start, resume_start}
use Rattle.use_walk.specs.Walks.{FieldsFrom, Arrays, put_own, WalksUses}
use Rattle.use_walk.specs.Own.{PutsOwn}
use Rattle.use_turns.specs.Turned.{Stops, Enters, Ends}
use Rattle.use_walk.proofs.GraphLaws.{holds_uses, graph_listed}

-- ---- entering a description

text_edition : (e : Edition) (h : Handed) → edition_of (text_entry e h) ≡ e
text_edition e h =
    λ i. record {
      booleans = length_tabulate (boolean_handed h) e.booleans i;
      numbers = length_tabulate (number_handed h) e.numbers i;
      strings = length_tabulate (text_string h) e.strings i;
    }

-- what right fields come to is kept
fields_kept : (e : Edition) (before after : List ℕ → Handed) (a : Answer Fields) (f : Fields)
    (r : Result Bool TextRefused) → a ≡ gives f → FieldsCome e before after a r → KeepsAll e before after f
fields_kept e before after a f (Ok alone) q c = let z : c.0 ≡ f = cc in λ n. c.1.1.0 n ∙ rw z
fields_kept e before after a f (Err r) q c =
    absurd (let z : ◌≡◌ {A = ℕ} 0 1 = cc in (let y : ⊥ = omega arith in y))

pub put_own_lem : (e : Edition) (d c : ℕ) (before after : List ℕ → Handed) (r : Result Bool TextRefused)
    → FieldsFrom e (before []).lent c (description_at (text_descriptions e (before []).lent) d)
    → Walks e (c + 1) before after r → PutsOwn e d before after
unfolding own_of
put_own_lem e d c before after r f w =
    let own : Description = description_at (text_descriptions e (before []).lent) d in
    record {
      holds = w.holds;
      entry =
          λ n. fields_kept e before after (sayings_from e (before []).lent (c + 1)) f.fields r f.read w.come n
          ∙ (ap (described (text_entry e (before n))) f.sayings
          ∙ described_over e own.names (text_entry e (before n)) own.sayings (text_edition e (before n)));
    }

-- ---- the walk

-- from the wanted description the walk has come to the frames, and each description that was entered is put
pub record Walking (e : Edition) (u : UseArrays) (wanted : ℕ) (before now : List ℕ → Handed) (o : Frames)
    : Type 0 where
  pub holds : Holds e (now [])
  pub framed : Framed u o
  pub answer : (n : List ℕ)
      → map_answer (λ r. r.state)
      (resume_at (put_own e (text_descriptions e (before []).lent)) u o (text_entry e (now n)))
      ≡ fast (put_own e (text_descriptions e (before []).lent)) (uses_of (text_descriptions e (before []).lent))
      (text_entry e (before n)) wanted

pub walking_start : {e : Edition} {commas starts places targets : List ℕ} {count : ℕ} (wanted : ℕ)
    (before now : List ℕ → Handed) → Arrays e (before []).lent commas starts places targets count → wanted < count
    → PutsOwn e wanted before now
    → Walking e (use_arrays starts places targets count) wanted before now
    (started (use_arrays starts places targets count) wanted)
walking_start {e} {starts} {places} {targets} {count} wanted before now arrays l puts =
    let u : UseArrays = use_arrays starts places targets count in
    let ds : List Description = text_descriptions e (before []).lent in
    record {
      holds = puts.holds;
      framed = framed_start u wanted (holds_uses arrays (omega arith)) l;
      answer = λ n.
          ap (λ s. map_answer (λ r. r.state) (resume_at (put_own e ds) u (started u wanted) s)) (puts.entry n)
          ∙ (resume_start (put_own e ds) u (text_entry e (before n)) wanted
          ∙ ap (λ g. fast (put_own e ds) g (text_entry e (before n)) wanted) (graph_listed arrays (omega arith)));
    }

module _ {e : Edition} {u : UseArrays} {wanted : ℕ} {before now : List ℕ → Handed} {o : Frames}
    (walking : Walking e u wanted before now o) where
  abbrev put : Entry → ℕ → Entry
  put = put_own e (text_descriptions e (before []).lent)

  pub walking_entered : {now' : List ℕ → Handed} {o' : Frames} (t : ℕ) → Enters u o o' t
      → PutsOwn e t now now' → (now []).lent ≡ (before []).lent → Walking e u wanted before now' o'
  walking_entered {now'} {o'} t w puts lent =
      record {
        holds = puts.holds;
        framed = (w put).framed;
        answer =
            λ n. ap (λ s. map_answer (λ r. r.state) (resume_at put u o' s))
            (puts.entry n ∙ ap (λ t'. put_own e (text_descriptions e t') (text_entry e (now n)) t) lent)
            ∙ (ap (map_answer (λ r. r.state)) (sym ((w put).same (text_entry e (now n)))) ∙ walking.answer n);
      }

  pub walking_done : Ends u o → WalksUses e wanted before now (Ok tt)
  walking_done w = record { holds = walking.holds; entry = λ n. sym (w put (text_entry e (now n))) ∙ walking.answer n }

  pub walking_refused : (r : TextRefused) → Stops u o r → WalksUses e wanted before now (Err r)
  walking_refused r w =
      record {
        holds = walking.holds;
        entry = λ n. sym (ap (map_answer (λ r. r.state)) (w put (text_entry e (now n)))) ∙ walking.answer n;
      }
