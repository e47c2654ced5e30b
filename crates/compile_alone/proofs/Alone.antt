-- Laws of compiling a text that may have one description without uses.
-- Assumes nothing.
use mathlib.Core.Path.{◌≡◌, refl, sym, ap, ◌∙◌, subst}
use mathlib.Core.Bool.{true}
use mathlib.Core.List.{List, [], ◌∷◌}
use Prim.Native.Nat.{ℕ, ◌+◌}
use lib.ListN.{length}
use Rattle.std.specs.Prelude.{Ok, Err}
use Rattle.base.specs.Answer.{Answer, refused, Leaves}
use Rattle.edition.specs.declared.Edition.{Edition}
use Rattle.entry.specs.Reading.{Entry}
use Rattle.entry.specs.Writing.{Handed}
use Rattle.text.specs.declared.Line.TheVariants.{End, Column, Indented}
use Rattle.text.specs.declared.TextRefusal.{TextRefusal}
use Rattle.text.specs.declared.TextRefusal.TheVariants as R
use Rattle.text.specs.declared.TextRefused.{TextRefused}
use Rattle.text.specs.Lines.{line_at}
use Rattle.text.specs.Heading.{names_to, header_at}
use Rattle.text.specs.Describing.{Fields, described, bare}
use Rattle.text.specs.Building.{Wanted, first, named, building_text}
use Rattle.text.specs.Refusals.{text_number, text_refused}
use Rattle.text.specs.Compiling.{fitted, fitting_named}
use Rattle.building_laws.specs.Alone.{HasWanted, alone_none, alone_indented, alone_bad, alone_refused}
use Rattle.building_laws.specs.Alone.{alone_gives}
use Rattle.walk_fields.specs.Walks.{Walks}
use Rattle.compile_laws.specs.Held.{text_entry}
use Rattle.wanted.specs.Wanted.{wants}
use Rattle.compile_laws.proofs.ClearedLaws.{cleared, cleared_entry}

pub wants_has : (w : Wanted) (names : List ℕ) → wants w names ≡ true → HasWanted w names
unfolding wants
wants_has first names q = tt
wants_has (named n) names q = q

-- a refusal leaves the buffer as it was
bad : (n : ℕ) (v : List ℕ) (a : Answer Entry) → a ≡ refused n v → (b : List ℕ)
    → Leaves (fitted (length b) a) b b (refused n v)
bad n v a q b =
    subst (λ (x : Answer Entry). Leaves (fitted (length b) x) b b (refused n v)) (sym q) (refl, refl)

module _ (e : Edition) (t : List ℕ) (w : Wanted) (b : List ℕ) where
  -- the refusal of the text's first header, or of what stands in its place
  abbrev Refuses : TextRefusal → Type 0
  Refuses why = Leaves (fitted (length b) (building_text e t w)) b b (refused (text_number why) (0 ∷ []))

  pub no_line : line_at t 0 ≡ End → Refuses R.Malformed
  no_line q = bad 10 (0 ∷ []) _ (alone_none e t w q) b

  pub indented_line : (i : ℕ) → line_at t 0 ≡ Indented i → Refuses R.Malformed
  indented_line i q = bad 10 (0 ∷ []) _ (alone_indented e t w i q) b

  pub header_bad : (i : ℕ) → line_at t 0 ≡ Column i → (why : TextRefusal) → header_at t i ≡ Err why → Refuses why
  header_bad i q why h = bad (text_number why) (0 ∷ []) _ (alone_bad e t w i q why h) b

-- ---- the fields behind the header

module _ (e : Edition) (t : List ℕ) (i c : ℕ) (q : line_at t 0 ≡ Column i) (h : header_at t i ≡ Ok c)
    (after : List ℕ → Handed) where
  abbrev names : List ℕ
  names = names_to t i c

  pub fields_alone : Walks e (c + 1) (cleared e t) after (Ok true) → (w : Wanted) → HasWanted w names → (b d : List ℕ)
      (says : Answer ℕ)
      → Leaves (fitting_named (length b) (text_entry e (after names))) b d says
      → Leaves (fitted (length b) (building_text e t w)) b d says
  fields_alone k w o b d says l =
      let a = k.come in
      let f : Fields = a.0 in
      let z = a.1.1.1 refl in
      let x : text_entry e (after names) ≡ described (bare e names) f.sayings =
      a.1.1.0 names ∙ ap (λ (y : Entry). described y f.sayings) (cleared_entry e t names) in
      subst (λ (z : Answer (List ℕ)). Leaves z b d says)
      (ap (fitting_named (length b)) x
      ∙ sym (alone_gives e t w i q c h f a.1.0 z.0 z.1 o (length b))) l

  pub fields_bad : (r : TextRefused) → Walks e (c + 1) (cleared e t) after (Err r) → (w : Wanted) (b : List ℕ)
      → Leaves (fitted (length b) (building_text e t w)) b b (text_refused r)
  fields_bad r k w b =
      bad (text_number r.why) (r.at ∷ []) _ (alone_refused e t w i q c h _ _ k.come) b
