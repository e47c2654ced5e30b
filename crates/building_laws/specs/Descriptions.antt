-- The descriptions of a text: each of them stands in the text, and there is one at least.
-- Assumes nothing.
use Rattle.std.specs.Prelude.{◌≡◌, List, [], ◌∷◌, length, Result, Ok, Err}
use Rattle.std.proofs.Math.Path.{refl}
use Rattle.std.proofs.Common.{subst, arith}
use Prim.Native.Nat.{ℕ, zero, suc, ◌+◌, ◌≤◌, ◌<◌}
use Rattle.base.specs.Tabulate.{Each}
use Rattle.base.specs.Answer.{Answer, refused, gives, map_answer}
use Rattle.edition.specs.declared.Edition.{Edition}
use Rattle.text.specs.declared.TextRefusal.{TextRefusal}
use Rattle.text.specs.declared.Line.{Line}
use Rattle.text.specs.declared.Line.TheVariants.{End, Column, Indented}
use Rattle.text.specs.Lines.{line_at}
use Rattle.text.specs.Heading.{names_to, header_at}
use Rattle.text.specs.Describing.{Fields, sayings_from, Description, description, descriptions_most, one_too_many}
use Rattle.text.specs.Describing.{behind_fields, with_later, headed, descriptions_at, begun, describing}
use Rattle.text_laws.specs.JudgingLaws.{refused_gives, given_is}

-- a description is a right header of the text and what the fields behind it say
pub record StandsIn (e : Edition) (t : List ℕ) (d : Description) : Type 0 where
  -- the header's first byte and its comma
  pub at : ℕ
  pub comma : ℕ
  pub header : header_at t at ≡ Ok comma
  pub names : d.names ≡ names_to t at comma
  pub fields : Fields
  pub read : sayings_from e t (comma + 1) ≡ gives fields
  pub sayings : d.sayings ≡ fields.sayings
  pub place : d.place ≤ at

-- the descriptions stand in the text, and there is one at least
abbrev AllStand : Edition → List ℕ → List Description → Type 0
AllStand e t ds = Each (StandsIn e t) ds × (0 < length ds)

module _ (e : Edition) (t : List ℕ) where
  -- one more, in front of those that stand in the text
  with_stand : (p i c : ℕ) (f : Fields) → p ≤ i → header_at t i ≡ Ok c → sayings_from e t (c + 1) ≡ gives f
      → (a : Answer (List Description)) → ((ds : List Description) → a ≡ gives ds → Each (StandsIn e t) ds)
      → (ds : List Description)
      → map_answer (λ (ds : List Description). description p (names_to t i c) f.sayings ∷ ds) a ≡ gives ds
      → AllStand e t ds
  with_stand p i c f l q r (refused n v) rest ds w = refused_gives w
  with_stand p i c f l q r (gives xs) rest ds w =
      subst (AllStand e t) (given_is w) (
        (
          record {
            at = i;
            comma = c;
            header = q;
            names = refl;
            fields = f;
            read = r;
            sayings = refl;
            place = l;
          },
          rest xs refl,
        ),
        omega arith,
      )

  descriptions_at_lem : (more p i : ℕ) → p ≤ i → (ds : List Description) → descriptions_at e t more p i ≡ gives ds
      → AllStand e t ds
  unfolding descriptions_at
  descriptions_at_lem zero p i l ds w = by_header (header_at t i) w
    where
      by_header : (h : Result ℕ TextRefusal) → one_too_many p h ≡ gives ds → AllStand e t ds
      by_header (Ok c) u = refused_gives u
      by_header (Err r) u = refused_gives u
  descriptions_at_lem (suc more) p i l ds w =
      by_header (header_at t i) refl w (λ j xs u. (descriptions_at_lem more j j (omega arith) xs u).0)
    where
      later : ℕ → Answer (List Description)
      later j = descriptions_at e t more j j

      Later : Type 0
      Later = (j : ℕ) (xs : List Description) → later j ≡ gives xs → Each (StandsIn e t) xs

      none : (xs : List Description) → ◌≡◌ {A = Answer (List Description)} (gives []) (gives xs)
          → Each (StandsIn e t) xs
      none xs u = subst (Each (StandsIn e t)) (given_is u) tt

      behind : (b : Line) → Later → (xs : List Description) → behind_fields later b ≡ gives xs → Each (StandsIn e t) xs
      behind End rest xs u = none xs u
      behind (Column j) rest xs u = rest j xs u
      behind (Indented j) rest xs u = none xs u

      by_fields : (c : ℕ) → header_at t i ≡ Ok c → (a : Answer Fields) → sayings_from e t (c + 1) ≡ a
          → with_later later p (names_to t i c) a ≡ gives ds → Later → AllStand e t ds
      by_fields c q (refused n v) r u rest = refused_gives u
      by_fields c q (gives f) r u rest =
          with_stand p i c f l q r (behind_fields later f.behind) (behind f.behind rest) ds u

      by_header : (h : Result ℕ TextRefusal) → header_at t i ≡ h → headed e t later p i h ≡ gives ds → Later
          → AllStand e t ds
      by_header (Ok c) q u rest = by_fields c q (sayings_from e t (c + 1)) refl u rest
      by_header (Err r) q u rest = refused_gives u

  describing_all : (ds : List Description) → describing e t ≡ gives ds → AllStand e t ds
  unfolding describing
  describing_all ds w = by_line (line_at t 0) w
    where
      by_line : (l : Line) → begun e t l ≡ gives ds → AllStand e t ds
      by_line End u = refused_gives u
      by_line (Column i) u = descriptions_at_lem descriptions_most 0 i (omega arith) ds u
      by_line (Indented i) u = refused_gives u

  pub describing_stand : (ds : List Description) → describing e t ≡ gives ds → Each (StandsIn e t) ds
  describing_stand ds w = (describing_all ds w).0

  pub describing_some : (ds : List Description) → describing e t ≡ gives ds → 0 < length ds
  describing_some ds w = (describing_all ds w).1
