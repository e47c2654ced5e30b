-- A text of one description, without `use`, gives what document 01's lines give.
-- Assumes nothing.
use Rattle.std.specs.Prelude.{◌≡◌, Bool, true, false, not, ℕ, ◌+◌, leb, length, Result, Ok, Err}
use Rattle.std.proofs.Math.Path.{refl, ap}
use Rattle.std.proofs.Common.{sym, ◌∙◌}
use mathlib.Core.List.{List, [], ◌∷◌, map}
use Rattle.base.specs.If.{when◌then◌else◌}
use Rattle.base.specs.Answer.{Answer, refused, gives, map_answer, and_then}
use Rattle.edition.specs.declared.Edition.{Edition}
use Rattle.edition.specs.Edition.{ok_edition}
use Rattle.entry.specs.Limits.{given_names_most}
use Rattle.entry.specs.Reading.{Entry}
use Rattle.entry.specs.Writing.{encode, fitting}
use Rattle.uses.specs.Walk.{uses_most, bind, with_uses, brought}
use Rattle.text.specs.declared.TextRefusal.{TextRefusal}
use Rattle.text.specs.declared.Line.{Line}
use Rattle.text.specs.declared.Line.TheVariants.{End, Column, Indented}
use Rattle.text.specs.Bytes.{text_most}
use Rattle.text.specs.Lines.{line_at}
use Rattle.text.specs.Heading.{names_to, header_at}
use Rattle.text.specs.Describing.{SayingAt, Fields, sayings_from, described, bare, described_from, Description}
use Rattle.text.specs.Describing.{description, behind_fields, with_later, headed, descriptions_at, begun, describing}
use Rattle.text.specs.Building.{has_name, having_from, having, UseAt, uses_in, found_as}
use Rattle.text.specs.Building.{uses_of, over_in, own_of, outcome}
use Rattle.text.specs.Building.{totals, Wanted, first, named, wanted_in, building, building_text}
use Rattle.text.specs.Compiling.{fitted, compiling, fitting_named, text_number}
use Rattle.building_laws.specs.Over.{described_names}

-- ---- document 01

-- "then names total above 127 (13), 9, 8"
abbrev pub fitted_named : ℕ → Answer Entry → Answer (List ℕ)
fitted_named room (refused n v) = refused n v
fitted_named room (gives x) = fitting_named room x

-- the header that starts at i, then the fields behind it
abbrev pub headed01 : Edition → List ℕ → ℕ → Result ℕ TextRefusal → Answer Entry
headed01 e t i (Ok c) = described_from e t (c + 1) (bare e (names_to t i c))
headed01 e t i (Err r) = refused (text_number r) (0 ∷ [])

abbrev pub begun01 : Edition → List ℕ → Line → Answer Entry
begun01 e t End = refused 10 (0 ∷ [])
begun01 e t (Column i) = headed01 e t i (header_at t i)
begun01 e t (Indented i) = refused 10 (0 ∷ [])

-- "an edition too large is 3, before all else"; "Text: 1 first; then the first bad field, by 10 .. 11, 13; then names
-- total above 127 (13), 9, 8"
unfoldable pub document01 : Edition → List ℕ → ℕ → Answer (List ℕ)
document01 e t room =
    when not (ok_edition e) then refused 3 []
    else when not (leb (length t) text_most) then refused 1 []
    else fitted_named room (begun01 e t (line_at t 0))

-- ---- such a text

-- the fields behind its header, where all of them are right, end the text, and none of them is a `use`
pub record Alone (e : Edition) (t : List ℕ) : Type 0 where
  pub last : (i c : ℕ) (f : Fields) → line_at t 0 ≡ Column i → header_at t i ≡ Ok c
      → sayings_from e t (c + 1) ≡ gives f → f.behind ≡ End
  pub unused : (i c : ℕ) (f : Fields) → line_at t 0 ≡ Column i → header_at t i ≡ Ok c
      → sayings_from e t (c + 1) ≡ gives f → uses_in f.sayings ≡ []

-- the header's names have the wanted name
abbrev pub HasWanted : Wanted → List ℕ → Type 0
HasWanted first names = Unit {0}
HasWanted (named n) names = has_name n names ≡ true

-- ---- one description without uses

module _ (e : Edition) (names : List ℕ) (ss : List SayingAt) where
  abbrev only : List Description
  only = description 0 names ss ∷ []

  only_outcome : uses_in ss ≡ [] → outcome e only 0 ≡ gives (described (bare e names) ss)
  unfolding uses_of own_of with_uses
  only_outcome u =
      ap (λ (us : List UseAt).
      with_uses (over_in e) (brought (over_in e) (own_of e only) (uses_of only) uses_most (0 ∷ []))
      (own_of e only 0) (map (λ (x : UseAt). found_as x.place (having x.name only)) us)) u

  only_wanted : (w : Wanted) → HasWanted w names → wanted_in only w ≡ gives 0
  unfolding having_from
  only_wanted first h = refl
  only_wanted (named n) h = rw h

  -- its total is judged, then 9 and 8
  only_built : (w : Wanted) (room : ℕ) → uses_in ss ≡ [] → HasWanted w names
      → fitted room (building e w only) ≡ fitting_named room (described (bare e names) ss)
  unfolding building totals fitting_named
  only_built w room u h =
      ap (λ (a : Answer ℕ). fitted room (and_then (totals only) (bind a (outcome e only)))) (only_wanted w h)
      ∙ (ap (λ (a : Answer Entry). fitted room (and_then (totals only) a)) (only_outcome u)
      ∙ by_total)
    where
      x : Entry
      x = described (bare e names) ss

      by_test : (b : Bool)
          → fitted room (and_then {A = Unit {0}} (when b then gives tt else refused 13 (0 ∷ [])) (gives x))
          ≡ (when not b then refused 13 (0 ∷ []) else fitting room (encode x))
      by_test true = refl
      by_test false = refl

      by_total : fitted room (and_then (totals only) (gives x))
          ≡ (when not (leb (length x.names) given_names_most) then refused 13 (0 ∷ []) else fitting room (encode x))
      by_total =
          by_test (leb (length names) given_names_most)
          ∙ ap (λ (n : List ℕ). when not (leb (length n) given_names_most) then refused 13 (0 ∷ [])
          else fitting room (encode x)) (sym (described_names (bare e names) ss))

-- ---- the text, by its parts; w is whatever is wanted

module _ (e : Edition) (t : List ℕ) (w : Wanted) where
  from_line : (l : Line) → line_at t 0 ≡ l → building_text e t w ≡ bind (begun e t l) (building e w)
  unfolding building_text describing
  from_line l q = ap (λ (k : Line). bind (begun e t k) (building e w)) q

  pub alone_none : line_at t 0 ≡ End → building_text e t w ≡ refused 10 (0 ∷ [])
  alone_none q = from_line End q

  pub alone_indented : (i : ℕ) → line_at t 0 ≡ Indented i → building_text e t w ≡ refused 10 (0 ∷ [])
  alone_indented i q = from_line (Indented i) q

  module _ (i : ℕ) (q : line_at t 0 ≡ Column i) where
    -- the descriptions behind the first
    abbrev later : ℕ → Answer (List Description)
    later j = descriptions_at e t 63 j j

    from_header : (h : Result ℕ TextRefusal) → header_at t i ≡ h
        → building_text e t w ≡ bind (headed e t later 0 i h) (building e w)
    unfolding descriptions_at
    from_header h r =
        from_line (Column i) q ∙ ap (λ (k : Result ℕ TextRefusal). bind (headed e t later 0 i k) (building e w)) r

    pub alone_bad : (why : TextRefusal) → header_at t i ≡ Err why
        → building_text e t w ≡ refused (text_number why) (0 ∷ [])
    alone_bad why r = from_header (Err why) r

    module _ (c : ℕ) (r : header_at t i ≡ Ok c) where
      from_fields : (a : Answer Fields) → sayings_from e t (c + 1) ≡ a
          → building_text e t w ≡ bind (with_later later 0 (names_to t i c) a) (building e w)
      from_fields a s =
          from_header (Ok c) r
          ∙ ap (λ (k : Answer Fields). bind (with_later later 0 (names_to t i c) k) (building e w)) s

      pub alone_refused : (n : ℕ) (v : List ℕ) → sayings_from e t (c + 1) ≡ refused n v
          → building_text e t w ≡ refused n v
      alone_refused n v s = from_fields (refused n v) s

      -- where nothing stands behind the fields, they are the text's only description
      alone_only : (f : Fields) → sayings_from e t (c + 1) ≡ gives f → f.behind ≡ End
          → building_text e t w ≡ building e w (only e (names_to t i c) f.sayings)
      alone_only f s k =
          from_fields (gives f) s
          ∙ ap (λ (l : Line). bind
          (map_answer (λ (ds : List Description). description 0 (names_to t i c) f.sayings ∷ ds)
          (behind_fields later l))
          (building e w)) k

      pub alone_gives : (f : Fields) → sayings_from e t (c + 1) ≡ gives f → f.behind ≡ End → uses_in f.sayings ≡ []
          → HasWanted w (names_to t i c) → (room : ℕ)
          → fitted room (building_text e t w) ≡ fitting_named room (described (bare e (names_to t i c)) f.sayings)
      alone_gives f s k u h room =
          ap (fitted room) (alone_only f s k) ∙ only_built e (names_to t i c) f.sayings w room u h

-- ---- in one piece

pub alone_compiles : (e : Edition) (t : List ℕ) (room : ℕ) → Alone e t
    → compiling e t first room ≡ document01 e t room
unfolding compiling document01
alone_compiles e t room m =
    ap (λ (a : Answer (List ℕ)). when not (ok_edition e) then refused 3 []
    else when not (leb (length t) text_most) then refused 1 [] else a) (by_line (line_at t 0) refl)
  where
    by_fields : (i c : ℕ) → line_at t 0 ≡ Column i → header_at t i ≡ Ok c → (a : Answer Fields)
        → sayings_from e t (c + 1) ≡ a
        → fitted room (building_text e t first)
        ≡ fitted_named room (map_answer (λ (f : Fields). described (bare e (names_to t i c)) f.sayings) a)
    by_fields i c q r (refused n v) s = ap (fitted room) (alone_refused e t first i q c r n v s)
    by_fields i c q r (gives f) s =
        alone_gives e t first i q c r f s (m.last i c f q r s) (m.unused i c f q r s) tt room

    by_header : (i : ℕ) → line_at t 0 ≡ Column i → (h : Result ℕ TextRefusal) → header_at t i ≡ h
        → fitted room (building_text e t first) ≡ fitted_named room (headed01 e t i h)
    by_header i q (Ok c) r = by_fields i c q r (sayings_from e t (c + 1)) refl
    by_header i q (Err why) r = ap (fitted room) (alone_bad e t first i q why r)

    by_line : (l : Line) → line_at t 0 ≡ l → fitted room (building_text e t first) ≡ fitted_named room (begun01 e t l)
    by_line End q = ap (fitted room) (alone_none e t first q)
    by_line (Column i) q = by_header i q (header_at t i) refl
    by_line (Indented i) q = ap (fitted room) (alone_indented e t first i q)
