-- Laws of judging fields: the place of a use is kept, and the fields read so far say what was kept.
-- Assumes nothing.
use mathlib.Core.Path.{◌≡◌, refl, sym, ap, ◌∙◌, subst}
use mathlib.Core.List.{List, [], ◌∷◌, ◌++◌, map}
use Prim.Native.Nat.{ℕ, ◌+◌, ◌*◌, ◌≤◌, ◌<◌}
use native.Mathlib.Omega.{arith}
use lib.ListN.{length, set, length-append}
use Rattle.std.specs.Prelude.{Option, Some, None, Ok, Err}
use Rattle.base.specs.Answer.{gives}
use Rattle.base.specs.Overwrite.{put_at}
use Rattle.base.proofs.OverwriteLaws.{put_nil, put_set, put_run, length_put}
use Rattle.base.proofs.TabulateLaws.{map_append}
use Rattle.edition.specs.declared.Edition.{Edition}
use Rattle.edition.specs.declared.Place.{Place}
use Rattle.text.specs.declared.Line.TheVariants.{End, Column, Indented}
use Rattle.text.specs.declared.Said.{Said}
use Rattle.text.specs.declared.Said.TheVariants as S
use Rattle.text.specs.declared.TextRefusal.{TextRefusal}
use Rattle.text.specs.declared.Judged.{Judged}
use Rattle.text.specs.Bytes.{text_most}
use Rattle.text.specs.Strings.{read_at, read_bytes}
use Rattle.text.specs.Lines.{next_at}
use Rattle.text.specs.Describing.{Saying, nothing, boolean, number, string, uses, Judging, judging}
use Rattle.text.specs.Describing.{SayingAt, FieldsRead, sayings_read, sayings_from}
use Rattle.text.specs.Building.{UseAt, with_use, uses_in}
use Rattle.text.specs.Refusals.{text_number}
use Rattle.text_laws.specs.LineLaws.{LineAfter, next_after}
use Rattle.text_laws.specs.FieldLaws.{field_after}
use Rattle.text_laws.specs.JudgingLaws.{judged_field}
use Rattle.text_laws.specs.SayingsLaws.{read_end, read_column, read_bad, read_field}
use Rattle.text_laws.specs.UseLaws.{use_field}
use Rattle.judge.specs.Judged.{saying_said, says_judged}
use Rattle.compile_laws.specs.Listed.{use_places, uses_room}
use Rattle.each_field.specs.Each.{said_at, uses_said, KeepsUses, Recorded}

-- ---- one field

pub use_fits : (s : Said) (before room : ℕ) {i n : ℕ} → s ≡ S.Use i n → before + uses_said s ≤ room → before < room
use_fits s before room e h = let u : uses_said s ≡ 1 = ap uses_said e in omega arith

module _ (b : List ℕ) (before p : ℕ) (s : Said) where
  abbrev PutsPlace : List ℕ → Type 0
  PutsPlace after = (t : List ℕ) → after ≡ put_at b before (use_places (said_at t p s))

  places_of : (t : List ℕ) (x : Said) → s ≡ x → use_places (said_at t p s) ≡ use_places (said_at t p x)
  places_of t x e = ap (λ (x : Said). use_places (said_at t p x)) e

  as_it_was : (t : List ℕ) → use_places (said_at t p s) ≡ [] → b ≡ put_at b before (use_places (said_at t p s))
  as_it_was t q = sym (ap (put_at b before) q ∙ put_nil b before)

  pub puts_nothing : s ≡ S.Nothing → PutsPlace b
  unfolding uses_in
  puts_nothing e t = as_it_was t (places_of t S.Nothing e)

  pub puts_boolean : {q : Place} {k : ℕ} → s ≡ S.Boolean q k → PutsPlace b
  unfolding uses_in
  puts_boolean {q} {k} e t = as_it_was t (places_of t (S.Boolean q k) e)

  pub puts_number : {q : Place} {k v : ℕ} → s ≡ S.Number q k v → PutsPlace b
  unfolding uses_in
  puts_number {q} {k} {v} e t = as_it_was t (places_of t (S.Number q k v) e)

  pub puts_string : {q : Place} {k i n : ℕ} → s ≡ S.String q k i n → PutsPlace b
  unfolding uses_in
  puts_string {q} {k} {i} {n} e t = as_it_was t (places_of t (S.String q k i n) e)

  pub puts_use : {i n : ℕ} → s ≡ S.Use i n → before + uses_said s ≤ length b → PutsPlace (set b before p)
  unfolding uses_in
  puts_use {i} {n} e h t =
      put_set b before p (use_fits s before (length b) e h) ∙ ap (put_at b before) (sym (places_of t (S.Use i n) e))

-- ---- the uses among fields

with_append : (p : ℕ) (s : Saying) (us vs : List UseAt) → with_use p s (us ++ vs) ≡ with_use p s us ++ vs
with_append p nothing us vs = refl
with_append p (boolean q s) us vs = refl
with_append p (number q s) us vs = refl
with_append p (string q s) us vs = refl
with_append p (uses n) us vs = refl

uses_append : (ss rs : List SayingAt) → uses_in (ss ++ rs) ≡ uses_in ss ++ uses_in rs
unfolding uses_in
uses_append [] rs = refl
uses_append (s ∷ ss) rs =
    ap (with_use s.place s.saying) (uses_append ss rs) ∙ with_append s.place s.saying (uses_in ss) (uses_in rs)

places_append : (ss rs : List SayingAt) → use_places (ss ++ rs) ≡ use_places ss ++ use_places rs
places_append ss rs =
    ap (map (λ (u : UseAt). u.place)) (uses_append ss rs) ∙ map_append (λ (u : UseAt). u.place) (uses_in ss) (uses_in rs)

said_count : (t : List ℕ) (p : ℕ) (s : Said) → length (use_places (said_at t p s)) ≡ uses_said s
unfolding uses_in
said_count t p S.Nothing = refl
said_count t p (S.Boolean q k) = refl
said_count t p (S.Number q k v) = refl
said_count t p (S.String q k i n) = refl
said_count t p (S.Use i n) = refl

-- a field that is read: it lies in the text, and a use has five bytes at least
pub record FieldRead (t : List ℕ) (i p : ℕ) (s : Said) (next : ℕ) : Type 0 where
  pub after : i ≤ p
  pub long : p + uses_said s * 5 ≤ next
  pub forward : p < next
  pub within : next ≤ length t

module _ (e : Edition) (t : List ℕ) (i p : ℕ) (q : next_at t i ≡ Indented p) where
  -- a field stands in the text
  pub field_place : (i ≤ p) × (p < length t)
  field_place = subst (LineAfter t i) q (next_after t i)

  module _ (j : Judged) (r : says_judged t p (Ok j) ≡ judging e t p) where
    abbrev s : Said
    s = j.said

    abbrev next : ℕ
    next = j.next

    abbrev saying : Judging
    saying = record { saying = saying_said t s; next = next }

    pub field_judged : judging e t p ≡ gives saying
    field_judged = sym r

    pub field_read : FieldRead t i p s next
    field_read =
        let f = judged_field e t p saying field_judged in
        let a = field_after t p f.dropped f.name f.past f.form next f.field in
        let a₁ = a.name in
        let a₂ = a.some in
        let a₃ = a.form in
        record {
          after = field_place.0;
          long = by_said s refl (omega arith);
          forward = omega arith;
          within = a.ends;
        }
      where
        by_said : (x : Said) → s ≡ x → p ≤ next → p + uses_said x * 5 ≤ next
        by_said S.Nothing v l = omega arith
        by_said (S.Boolean b k) v l = omega arith
        by_said (S.Number b k w) v l = omega arith
        by_said (S.String b k m n) v l = omega arith
        by_said (S.Use m n) v l =
            let h = (use_field e t p saying (read_bytes (read_at t m)) field_judged (ap (saying_said t) v)).long in
            omega arith

-- ---- the fields up to the place i, and the places of their uses

none_some : {A : Type 0} {p : ℕ} → ◌≡◌ {A = Option ℕ} None (Some p) → A
none_some z = cc

some_is : {p k : ℕ} → ◌≡◌ {A = Option ℕ} (Some p) (Some k) → p ≡ k
some_is z = cc

pub record Checking (e : Edition) (t : List ℕ) (at : ℕ) (before : List ℕ) (earlier i : ℕ) (now : List ℕ) (count : ℕ) : Type 0 where
  pub sayings : List SayingAt
  pub read : sayings_from e t at ≡ sayings_read e t (record { at = i; sayings = sayings })
  pub kept : KeepsUses before earlier now count sayings
  pub few : count * 5 ≤ i
  pub within : i ≤ length t

pub check_start : (e : Edition) (t : List ℕ) (at : ℕ) (before : List ℕ) (earlier : ℕ) → earlier * 5 ≤ at → at ≤ length t
    → Checking e t at before earlier at before earlier
unfolding uses_in
check_start e t at before earlier f l =
    record {
      sayings = [];
      read = refl;
      kept = record { places = sym (put_nil before earlier); counted = omega arith };
      few = f;
      within = l;
    }

module _ (e : Edition) (t : List ℕ) (at : ℕ) (before : List ℕ) (earlier i : ℕ) (now : List ℕ) (count : ℕ)
    (short : length t ≤ text_most) (wide : uses_room ≤ length before)
    (w : Checking e t at before earlier i now count) where
  abbrev read_to : FieldsRead
  read_to = record { at = i; sayings = w.sayings }

  room : count ≤ uses_room
  room = let f = w.few in let l = w.within in omega arith

  pub check_length : length now ≡ length before
  check_length =
      let c = w.kept.counted in
      let r = room in
      ap length w.kept.places ∙ length_put before earlier (use_places w.sayings) (omega arith)

  pub check_end : next_at t i ≡ End → Recorded e t at before earlier now (Ok (record { uses = count; next = None }))
  check_end q = (
    record {
      sayings = w.sayings;
      read = w.read ∙ read_end e t read_to q;
      places = w.kept.places;
      counted = w.kept.counted;
      room = room;
    },
    λ p z. none_some z,
  )

  pub check_column : (p : ℕ) → next_at t i ≡ Column p → Recorded e t at before earlier now (Ok (record { uses = count; next = Some p }))
  check_column p q =
      let l = subst (LineAfter t i) q (next_after t i) in
      let f = w.few in (
        record {
          sayings = w.sayings;
          read = w.read ∙ read_column e t read_to p q;
          places = w.kept.places;
          counted = w.kept.counted;
          room = room;
        },
        λ k z. let y : p ≡ k = some_is z in (omega arith, omega arith),
      )

  module _ (p : ℕ) (q : next_at t i ≡ Indented p) where
    pub check_refused : (why : TextRefusal) → says_judged t p (Err why) ≡ judging e t p
        → Recorded e t at before earlier now (Err (record { why = why; at = p }))
    check_refused why r = w.read ∙ read_bad e t read_to p (text_number why) (p ∷ []) q (sym r)

    module _ (j : Judged) (r : says_judged t p (Ok j) ≡ judging e t p) where
      -- what keeping the field's use asks for
      pub check_fits : (count + uses_said j.said ≤ length now) × (p < text_most)
      check_fits =
          let f = field_read e t i p q j r in
          let f₁ = f.after in
          let f₂ = f.long in
          let f₃ = f.forward in
          let f₄ = f.within in
          let n = w.few in
          let l = check_length in
          (omega arith, omega arith)

      pub check_go : (after : List ℕ) (more : ℕ) → after ≡ put_at now count (use_places (said_at t p j.said))
          → more ≡ count + uses_said j.said
          → Checking e t at before earlier j.next after more
      check_go after more k d =
          let f = field_read e t i p q j r in
          let f₁ = f.after in
          let f₂ = f.long in
          let n = w.few in
          let one : List SayingAt = said_at t p j.said in
          let a : use_places (w.sayings ++ one) ≡ use_places w.sayings ++ use_places one =
          places_append w.sayings one in
          let c = w.kept.counted in
          let m = said_count t p j.said in
          let l = check_fits.0 in
          let l' = check_length in
          let g : length (use_places (w.sayings ++ one)) ≡ length (use_places w.sayings) + length (use_places one) =
          ap length a ∙ length-append (use_places w.sayings) (use_places one) in
          record {
            sayings = w.sayings ++ one;
            read = w.read ∙ read_field e t read_to p (saying e t i p q j r) q (field_judged e t i p q j r);
            kept =
                record {
                  places =
                      k ∙ put_run before now earlier count (use_places w.sayings) (use_places one)
                      (use_places (w.sayings ++ one)) w.kept.places c a (omega arith);
                  counted = omega arith;
                };
            few = omega arith;
            within = f.within;
          }
