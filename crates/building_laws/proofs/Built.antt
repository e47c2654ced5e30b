-- The names of what is built are the wanted description's; its states and names have a written form.
-- Assumes nothing.
use Rattle.std.specs.Prelude.{◌≡◌, refl, Bool, true, false, leb, length}
use Rattle.std.proofs.Common.{sym, ◌∙◌, subst, leb-true}
use mathlib.Core.List.{List, [], ◌∷◌}
use Prim.Native.Nat.{ℕ, ◌≤◌}
use Rattle.base.specs.If.{when◌then◌else◌}
use Rattle.base.specs.Tabulate.{Each}
use Rattle.base.proofs.TabulateLaws.{each_at}
use Rattle.base.specs.Answer.{refused, gives}
use Rattle.word.specs.Nul.{NoNul}
use Rattle.edition.specs.declared.Edition.{Edition}
use Rattle.entry.specs.Limits.{given_names_most}
use Rattle.entry.specs.Reading.{Entry}
use Rattle.text.specs.Heading.{names_to}
use Rattle.text.specs.Describing.{bare, Description, description}
use Rattle.text.specs.Building.{description_at, uses_of}
use Rattle.text.specs.Building.{own_of, outcome, totals, Wanted}
use Rattle.text.specs.Building.{building_text}
use Rattle.text_laws.specs.JudgingLaws.{refused_gives}
use Rattle.text_laws.specs.HeadingLaws.{names_free_lem, names_some, header_right}
use Rattle.building_laws.specs.Over.{described_names}
use Rattle.building_laws.specs.Descriptions.{StandsIn, describing_stand, describing_some}
use Rattle.building_laws.specs.Built.{text_built, wanted_below, built_names, outcome_sound, BuiltSound}

totals_each : (ds : List Description) → totals ds ≡ gives tt
    → Each (λ (d : Description). length d.names ≤ given_names_most) ds
unfolding totals
totals_each [] q = tt
totals_each (d ∷ ds) q = by_test (leb (length d.names) given_names_most) refl q (totals_each ds)
  where
    by_test : (b : Bool) → leb (length d.names) given_names_most ≡ b
        → (when b then totals ds else refused 13 (d.place ∷ [])) ≡ gives tt
        → (totals ds ≡ gives tt → Each (λ (x : Description). length x.names ≤ given_names_most) ds)
        → (length d.names ≤ given_names_most) × Each (λ (x : Description). length x.names ≤ given_names_most) ds
    by_test true r u rest = (leb-true _ _ r, rest u)
    by_test false r u rest = refused_gives u

pub outcome_names : (e : Edition) (ds : List Description) (d : ℕ) (x : Entry) → outcome e ds d ≡ gives x
    → x.names ≡ (description_at ds d).names
unfolding own_of
outcome_names e ds d x q =
    built_names e (own_of e ds) (uses_of ds) d x q
    ∙ described_names (bare e (description_at ds d).names) (description_at ds d).sayings

pub built_sound : (e : Edition) (t : List ℕ) (w : Wanted) (x : Entry) → building_text e t w ≡ gives x → BuiltSound e x
built_sound e t w x h =
    let b = text_built e t w x h in
    let ds = b.descriptions in
    let s = describing_stand e t ds b.described in
    let l = wanted_below ds w b.wanted (describing_some e t ds b.described) b.found in
    let d = each_at (StandsIn e t) ds b.wanted (description 0 [] []) s l in
    let k = outcome_names e ds b.wanted x b.comes in
    let n : x.names ≡ names_to t d.at d.comma = k ∙ d.names in
    let r = (header_right t d.at d.comma d.header).names in
    record {
      states = outcome_sound e t ds b.wanted x s b.comes;
      named = subst (λ (m : List ℕ). 1 ≤ length m) (sym n) (names_some (names_to t d.at d.comma) r);
      names_most =
          subst (λ (m : List ℕ). length m ≤ given_names_most) (sym k)
          (each_at (λ (y : Description). length y.names ≤ given_names_most) ds b.wanted (description 0 [] [])
          (totals_each ds b.total) l);
      names_free = subst NoNul (sym n) (names_free_lem (names_to t d.at d.comma) r);
    }
