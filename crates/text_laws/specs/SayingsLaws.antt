-- The fields of a text one after the other: reading them ends; what it gives, by the line at each place; the sayings
-- that it gives are those of the fields at their places.
-- Assumes nothing.
use Rattle.std.specs.Prelude.{◌≡◌, refl, List, [], ℕ, ◌-◌, ◌<◌, length}
use Rattle.std.proofs.Common.{sym, ◌∙◌, subst, arith}
use Rattle.std.proofs.Math.Path.{ap}
use Rattle.base.specs.Loop.{Turn, go, stop}
use Rattle.base.proofs.LoopLaws.{loop_go, loop_stop, loop_ind}
use Rattle.base.specs.Tabulate.{Each}
use Rattle.base.proofs.TabulateLaws.{each_append}
use Rattle.base.specs.Answer.{Answer, refused, gives}
use Rattle.edition.specs.declared.Edition.{Edition}
use Rattle.text.specs.declared.Line.{Line}
use Rattle.text.specs.declared.Line.TheVariants.{End, Column, Indented}
use Rattle.text.specs.Lines.{next_at}
use Rattle.text.specs.Describing.{Judging, judging, SayingAt, FieldsRead}
use Rattle.text.specs.Describing.{with_field, field_turn, line_turn, sayings_turn}
use Rattle.text.specs.Describing.{Fields, fields_to, sayings_read, sayings_from}
use Rattle.text_laws.specs.LineLaws.{LineAfter, next_after}
use Rattle.text_laws.specs.FieldLaws.{field_after}
use Rattle.text_laws.specs.JudgingLaws.{refused_gives, given_is, judged_field}

-- a turn that stops does not go on
clash {ℓ} : {A : Type ℓ} {S R : Type 0} {s : S} {r : R} → ◌≡◌ {A = Turn S R} (stop r) (go s) → A
clash e = absurd (let z : ◌≡◌ {A = ℕ} 0 1 = cc in (let y : ⊥ = omega arith in y))

stop_is : {S R : Type 0} {r s : R} → ◌≡◌ {A = Turn S R} (stop r) (stop s) → r ≡ s
stop_is e = cc

go_is : {S R : Type 0} {r s : S} → ◌≡◌ {A = Turn S R} (go r) (go s) → r ≡ s
go_is e = cc

module _ (e : Edition) (t : List ℕ) where
  -- ---- one turn, by the line at its place

  turn_line : (r : FieldsRead) (l : Line) → next_at t r.at ≡ l → sayings_turn e t r ≡ line_turn e t r.sayings l
  unfolding sayings_turn
  turn_line r l q = ap (line_turn e t r.sayings) q

  turn_field : (r : FieldsRead) (p : ℕ) (a : Answer Judging) → next_at t r.at ≡ Indented p → judging e t p ≡ a
      → sayings_turn e t r ≡ field_turn r.sayings p a
  turn_field r p a q w = turn_line r (Indented p) q ∙ ap (field_turn r.sayings p) w

  falls : (r r' : FieldsRead) → sayings_turn e t r ≡ go r' → length t - r'.at < length t - r.at
  falls r r' u = by_line (next_at t r.at) refl
    where
      by_answer : (p : ℕ) → next_at t r.at ≡ Indented p → (a : Answer Judging) → judging e t p ≡ a
          → length t - r'.at < length t - r.at
      by_answer p q (refused n v) w = clash (sym (turn_field r p (refused n v) q w) ∙ u)
      by_answer p q (gives j) w =
          let k : j.next ≡ r'.at = ap (λ (x : FieldsRead). x.at) (go_is (sym (turn_field r p (gives j) q w) ∙ u)) in
          let b = subst (LineAfter t r.at) q (next_after t r.at) in
          let f = judged_field e t p j w in
          let l = field_after t p f.dropped f.name f.past f.form j.next f.field in
          let m₁ = l.name in
          let m₂ = l.some in
          let m₃ = l.form in
          omega arith

      by_line : (l : Line) → next_at t r.at ≡ l → length t - r'.at < length t - r.at
      by_line End q = clash (sym (turn_line r End q) ∙ u)
      by_line (Column p) q = clash (sym (turn_line r (Column p) q) ∙ u)
      by_line (Indented p) q = by_answer p q (judging e t p) refl

  -- ---- reading, by the line at its place

  module _ (r : FieldsRead) where
    pub read_end : next_at t r.at ≡ End → sayings_read e t r ≡ gives (fields_to r.sayings End)
    unfolding sayings_read
    read_end q =
        loop_stop _ (sayings_turn e t) falls (refused 0 []) r (gives (fields_to r.sayings End)) (turn_line r End q)

    pub read_column : (p : ℕ) → next_at t r.at ≡ Column p
        → sayings_read e t r ≡ gives (fields_to r.sayings (Column p))
    unfolding sayings_read
    read_column p q =
        loop_stop _ (sayings_turn e t) falls (refused 0 []) r (gives (fields_to r.sayings (Column p)))
        (turn_line r (Column p) q)

    pub read_bad : (p n : ℕ) (v : List ℕ) → next_at t r.at ≡ Indented p → judging e t p ≡ refused n v
        → sayings_read e t r ≡ refused n v
    unfolding sayings_read
    read_bad p n v q w =
        loop_stop _ (sayings_turn e t) falls (refused 0 []) r (refused n v) (turn_field r p (refused n v) q w)

    pub read_field : (p : ℕ) (j : Judging) → next_at t r.at ≡ Indented p → judging e t p ≡ gives j
        → sayings_read e t r ≡ sayings_read e t (with_field r.sayings p j)
    unfolding sayings_read
    read_field p j q w =
        loop_go _ (sayings_turn e t) falls (refused 0 []) r (with_field r.sayings p j) (turn_field r p (gives j) q w)

  -- what holds where the fields end or one is bad, and before a field if after it, holds of reading
  module _ (Q : FieldsRead → Answer Fields → Type 0)
      (at_end : (r : FieldsRead) → next_at t r.at ≡ End → Q r (gives (fields_to r.sayings End)))
      (at-column : (r : FieldsRead) (p : ℕ) → next_at t r.at ≡ Column p
      → Q r (gives (fields_to r.sayings (Column p))))
      (at-bad : (r : FieldsRead) (p n : ℕ) (v : List ℕ) → next_at t r.at ≡ Indented p → judging e t p ≡ refused n v
      → Q r (refused n v))
      (at_field : (r : FieldsRead) (p : ℕ) (j : Judging) (a : Answer Fields) → next_at t r.at ≡ Indented p
      → judging e t p ≡ gives j → Q (with_field r.sayings p j) a → Q r a) where
    at_stop : (r : FieldsRead) (a : Answer Fields) → sayings_turn e t r ≡ stop a → Q r a
    at_stop r a u = by_line (next_at t r.at) refl
      where
        by_answer : (p : ℕ) → next_at t r.at ≡ Indented p → (b : Answer Judging) → judging e t p ≡ b → Q r a
        by_answer p q (refused n v) w =
            subst (Q r) (stop_is (sym (turn_field r p (refused n v) q w) ∙ u)) (at-bad r p n v q w)
        by_answer p q (gives j) w = clash (sym u ∙ turn_field r p (gives j) q w)

        by_line : (l : Line) → next_at t r.at ≡ l → Q r a
        by_line End q = subst (Q r) (stop_is (sym (turn_line r End q) ∙ u)) (at_end r q)
        by_line (Column p) q = subst (Q r) (stop_is (sym (turn_line r (Column p) q) ∙ u)) (at-column r p q)
        by_line (Indented p) q = by_answer p q (judging e t p) refl

    at_go : (r r' : FieldsRead) (a : Answer Fields) → sayings_turn e t r ≡ go r' → Q r' a → Q r a
    at_go r r' a u h = by_line (next_at t r.at) refl
      where
        by_answer : (p : ℕ) → next_at t r.at ≡ Indented p → (b : Answer Judging) → judging e t p ≡ b → Q r a
        by_answer p q (refused n v) w = clash (sym (turn_field r p (refused n v) q w) ∙ u)
        by_answer p q (gives j) w =
            at_field r p j a q w (subst (λ (z : FieldsRead). Q z a) (go_is (sym u ∙ turn_field r p (gives j) q w)) h)

        by_line : (l : Line) → next_at t r.at ≡ l → Q r a
        by_line End q = clash (sym (turn_line r End q) ∙ u)
        by_line (Column p) q = clash (sym (turn_line r (Column p) q) ∙ u)
        by_line (Indented p) q = by_answer p q (judging e t p) refl

    pub sayings_ind : (r : FieldsRead) → Q r (sayings_read e t r)
    unfolding sayings_read
    sayings_ind r = loop_ind _ (sayings_turn e t) falls (refused 0 []) Q at_stop at_go r

-- ---- each saying is that of the field at its place, which is in the text

pub record SaidIn (e : Edition) (t : List ℕ) (s : SayingAt) : Type 0 where
  pub within : s.place < length t
  pub next : ℕ
  pub judged : judging e t s.place ≡ gives (record { saying = s.saying; next = next })

pub sayings_said : (e : Edition) (t : List ℕ) (i : ℕ) (f : Fields) → sayings_from e t i ≡ gives f
    → Each (SaidIn e t) f.sayings
sayings_said e t i f u =
    sayings_ind e t
    (λ r a. (f : Fields) → Each (SaidIn e t) r.sayings → a ≡ gives f → Each (SaidIn e t) f.sayings)
    (λ r q f h w. subst (λ (g : Fields). Each (SaidIn e t) g.sayings) (given_is w) h)
    (λ r p q f h w. subst (λ (g : Fields). Each (SaidIn e t) g.sayings) (given_is w) h)
    (λ r p n v q k f h w. refused_gives w)
    (λ r p j a q k rest f h w.
    rest f
    (each_append (SaidIn e t) r.sayings _ h
    (record { within = (subst (LineAfter t r.at) q (next_after t r.at)).1; next = j.next; judged = k }, tt))
    w)
    (record { at = i; sayings = [] }) f tt u
