-- The descriptions of a text in two editions: those that one reads, a larger one reads too.
-- Assumes nothing.
use Rattle.std.specs.Prelude.{◌≡◌, refl, List, ◌∷◌, Result, Ok, Err}
use Rattle.std.proofs.Common.{ap, ◌∙◌, subst}
use Prim.Native.Nat.{ℕ, zero, suc, ◌+◌}
use Rattle.base.specs.Answer.{Answer, refused, gives, map_answer}
use Rattle.base.specs.Tabulate.{Each}
use Rattle.edition.specs.declared.Edition.{Edition}
use Rattle.edition.specs.Edition.{NoMore}
use Rattle.text.specs.declared.TextRefusal.{TextRefusal}
use Rattle.text.specs.declared.Line.{Line}
use Rattle.text.specs.declared.Line.TheVariants.{End, Column, Indented}
use Rattle.text.specs.Lines.{line_at}
use Rattle.text.specs.Heading.{names_to, header_at}
use Rattle.text.specs.Describing.{Fields, sayings_from, Description, descriptions_most, description, one_too_many}
use Rattle.text.specs.Describing.{behind_fields, with_later, headed, descriptions_at, begun, describing}
use Rattle.text_laws.specs.JudgingLaws.{refused_gives, given_is}
use Rattle.text_editions.specs.Alike.{Known}
use Rattle.text_editions.specs.Fields.{sayings_known, sayings_larger}

-- what a description's fields say is about places that the edition knows
abbrev pub KnownIn : Edition → Description → Type 0
KnownIn e d = Each (λ s. Known e s.saying) d.sayings

-- the descriptions that the first answer gives, all known in e, the second gives too
abbrev GivesToo : Edition → Answer (List Description) → Answer (List Description) → Type 0
GivesToo e a b = (ds : List Description) → a ≡ gives ds → (b ≡ gives ds) × Each (KnownIn e) ds

module _ (e E : Edition) (m : NoMore e E) (t : List ℕ) where
  module _ (f g : ℕ → Answer (List Description)) (h : (j : ℕ) → GivesToo e (f j) (g j)) where
    behind_too : (l : Line) → GivesToo e (behind_fields f l) (behind_fields g l)
    behind_too End ds w = (w, subst (Each (KnownIn e)) (given_is w) tt)
    behind_too (Column j) ds w = h j ds w
    behind_too (Indented j) ds w = (w, subst (Each (KnownIn e)) (given_is w) tt)

    fields_too : (p : ℕ) (n : List ℕ) (i : ℕ) (a : Answer Fields) → sayings_from e t i ≡ a
        → GivesToo e (with_later f p n a) (with_later g p n (sayings_from E t i))
    fields_too p n i (refused k v) q ds w = refused_gives w
    fields_too p n i (gives x) q ds w = by-later (behind_fields f x.behind) refl w
      where
        by-later : (a : Answer (List Description)) → behind_fields f x.behind ≡ a
            → map_answer (λ (ds : List Description). description p n x.sayings ∷ ds) a ≡ gives ds
            → (with_later g p n (sayings_from E t i) ≡ gives ds) × Each (KnownIn e) ds
        by-later (refused k v) u z = refused_gives z
        by-later (gives es) u z =
            let b = behind_too x.behind es u in (
              ap (with_later g p n) (sayings_larger e E m t i x q)
                  ∙ ap (map_answer (λ (ds : List Description). description p n x.sayings ∷ ds)) b.0
                  ∙ z,
              subst (Each (KnownIn e)) (given_is z) (sayings_known e t i x q, b.1),
            )

    headed_too : (p i : ℕ) (c : Result ℕ TextRefusal) → GivesToo e (headed e t f p i c) (headed E t g p i c)
    headed_too p i (Ok c) ds w = fields_too p (names_to t i c) (c + 1) (sayings_from e t (c + 1)) refl ds w
    headed_too p i (Err r) ds w = refused_gives w

  none_too : (p : ℕ) (c : Result ℕ TextRefusal) → GivesToo e (one_too_many p c) (one_too_many p c)
  none_too p (Ok c) ds w = refused_gives w
  none_too p (Err r) ds w = refused_gives w

  descriptions_too : (more p i : ℕ) → GivesToo e (descriptions_at e t more p i) (descriptions_at E t more p i)
  unfolding descriptions_at
  descriptions_too zero p i = none_too p (header_at t i)
  descriptions_too (suc more) p i =
      headed_too (λ (j : ℕ). descriptions_at e t more j j) (λ (j : ℕ). descriptions_at E t more j j)
      (λ j. descriptions_too more j j) p i (header_at t i)

  describing_too : GivesToo e (describing e t) (describing E t)
  unfolding describing
  describing_too = by_line (line_at t 0)
    where
      by_line : (l : Line) → GivesToo e (begun e t l) (begun E t l)
      by_line End ds w = refused_gives w
      by_line (Column i) ds w = descriptions_too descriptions_most 0 i ds w
      by_line (Indented i) ds w = refused_gives w

  pub describing_larger : (ds : List Description) → describing e t ≡ gives ds → describing E t ≡ gives ds
  describing_larger ds w = (describing_too ds w).0

  pub describing_known : (ds : List Description) → describing e t ≡ gives ds → Each (KnownIn e) ds
  describing_known ds w = (describing_too ds w).1
