-- Laws of the walk over the fields: what the fields read so far say, what the arrays hold of it, and what the rest of
-- the text makes of it.
-- Assumes nothing.
use mathlib.Core.Path.{◌≡◌, refl, sym, ap, ◌∙◌}
use mathlib.Core.List.{List, [], ◌∷◌, ◌++◌}
use Prim.Native.Nat.{ℕ, ◌+◌}
use native.Mathlib.Omega.{arith}
use Rattle.std.specs.Prelude.{Some, None, Ok, Err}
use Rattle.edition.specs.declared.Edition.{Edition}
use Rattle.entry.specs.Reading.{Entry}
use Rattle.entry.specs.Writing.{Handed}
use Rattle.text.specs.declared.Line.TheVariants.{End, Column, Indented}
use Rattle.text.specs.declared.TextRefusal.{TextRefusal}
use Rattle.text.specs.declared.Said.{Said}
use Rattle.text.specs.declared.Said.TheVariants as S
use Rattle.text.specs.declared.Judged.{Judged}
use Rattle.text.specs.Lines.{next_at}
use Rattle.text.specs.Describing.{Saying, nothing, boolean, number, string, uses, with_saying, described}
use Rattle.text.specs.Describing.{Judging, judging, SayingAt, FieldsRead, fields_to, sayings_read, sayings_from}
use Rattle.text.specs.Building.{UseAt, with_use, uses_in}
use Rattle.text.specs.Refusals.{text_number}
use Rattle.text_laws.specs.SayingsLaws.{read_end, read_column, read_bad, read_field}
use Rattle.judge.specs.Judged.{saying_said, says_judged}
use Rattle.compile_laws.specs.Held.{text_entry, Holds, Keeps}
use Rattle.each_field.specs.Each.{said_at, uses_said, Kept}

-- ---- one more field behind others

described_more : (x : Entry) (ss : List SayingAt) (s : SayingAt)
    → described x (ss ++ (s ∷ [])) ≡ with_saying (described x ss) s.saying
unfolding described
described_more x [] s = refl
described_more x (r ∷ ss) s = described_more (with_saying x r.saying) ss s

no_use : (t : List ℕ) (p : ℕ) (s : Said) → uses_said s ≡ 0 → uses_in (said_at t p s) ≡ []
unfolding uses_in
no_use t p S.Nothing q = refl
no_use t p (S.Boolean r k) q = refl
no_use t p (S.Number r k v) q = refl
no_use t p (S.String r k i n) q = refl
no_use t p (S.Use i n) q = absurd (let z : ⊥ = omega arith in z)

with_none : (p : ℕ) (s : Saying) (us vs : List UseAt) → (us ≡ [] → vs ≡ []) → with_use p s us ≡ []
    → with_use p s vs ≡ []
with_none p nothing us vs h q = h q
with_none p (boolean r v) us vs h q = h q
with_none p (number r v) us vs h q = h q
with_none p (string r v) us vs h q = h q
with_none p (uses n) us vs h q = cc

uses_more : (ss : List SayingAt) (s : SayingAt) → uses_in ss ≡ [] → uses_in (s ∷ []) ≡ [] → uses_in (ss ++ (s ∷ [])) ≡ []
unfolding uses_in
uses_more [] s q w = w
uses_more (r ∷ ss) s q w =
    with_none r.place r.saying (uses_in ss) (uses_in (ss ++ (s ∷ []))) (λ e. uses_more ss s e w) q

-- ---- the walk

-- the sayings are those of the fields from at to i: the arrays hold what they say, and a count of 0 says that none is a
-- use
pub record Walking (e : Edition) (at i count : ℕ) (before now : List ℕ → Handed) : Type 0 where
  pub holds : Holds e (now [])
  pub sayings : List SayingAt
  pub read : sayings_from e (before []).lent at
      ≡ sayings_read e (before []).lent (record { at = i; sayings = sayings })
  pub entry : (n : List ℕ) → text_entry e (now n) ≡ described (text_entry e (before n)) sayings
  pub unused : count ≡ 0 → uses_in sayings ≡ []

pub walk_start : (e : Edition) (at count : ℕ) (before : List ℕ → Handed) → Holds e (before [])
    → Walking e at at count before before
unfolding described uses_in
walk_start e at count before h =
    record { holds = h; sayings = []; read = refl; entry = λ n. refl; unused = λ q. refl }

module _ (e : Edition) (at i count : ℕ) (before now : List ℕ → Handed) (w : Walking e at i count before now) where
  abbrev t : List ℕ
  t = (before []).lent

  abbrev read_to : FieldsRead
  read_to = record { at = i; sayings = w.sayings }

  pub walk_end : next_at t i ≡ End → Kept e at before now (Ok (record { uses = count; next = None }))
  walk_end q =
      record {
        holds = w.holds;
        come = (fields_to w.sayings End, (w.read ∙ read_end e t read_to q, (w.entry, (refl, w.unused))));
      }

  pub walk_column : (p : ℕ) → next_at t i ≡ Column p → Kept e at before now (Ok (record { uses = count; next = Some p }))
  walk_column p q =
      record {
        holds = w.holds;
        come = (fields_to w.sayings (Column p), (w.read ∙ read_column e t read_to p q, (w.entry, (refl, w.unused))));
      }

  pub walk_refused : (p : ℕ) (why : TextRefusal) → next_at t i ≡ Indented p → says_judged t p (Err why) ≡ judging e t p
      → Kept e at before now (Err (record { why = why; at = p }))
  walk_refused p why q r =
      record { holds = w.holds; come = w.read ∙ read_bad e t read_to p (text_number why) (p ∷ []) q (sym r) }

  pub walk_go : (p : ℕ) (j : Judged) (after : List ℕ → Handed) (more : ℕ) → next_at t i ≡ Indented p
      → says_judged t p (Ok j) ≡ judging e t p → (now []).lent ≡ t → Keeps e now after j.said
      → more ≡ count + uses_said j.said
      → Walking e at j.next more before after
  walk_go p j after more q r l k o =
      let s : Said = j.said in
      let saying : Judging = record { saying = saying_said t s; next = j.next } in
      let last : SayingAt = record { place = p; saying = saying_said t s } in
      record {
        holds = k.holds;
        sayings = w.sayings ++ (last ∷ []);
        read = w.read ∙ read_field e t read_to p saying q (sym r);
        entry = λ n. k.entry n
            ∙ ap (λ (b : List ℕ). with_saying (text_entry e (now n)) (saying_said b s)) l
            ∙ ap (λ (x : Entry). with_saying x (saying_said t s)) (w.entry n)
            ∙ sym (described_more (text_entry e (before n)) w.sayings last);
        unused = λ z. uses_more w.sayings last (w.unused (omega arith)) (no_use t p s (omega arith));
      }
