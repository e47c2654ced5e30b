-- The refusals of a text are 10, 11, 13, 18, 19 and 20, and the places that they give are no further than its end:
-- of a field, of a description, of a text and of the call.
-- Assumes nothing.
use Rattle.std.specs.Prelude.{◌≡◌, Bool, not, ◌⊎◌, eqb, leb, take, drop, Option, Some, None, Result, Ok, Err}
use Rattle.std.proofs.Math.Path.{refl}
use Rattle.std.proofs.Common.{sym, subst, inl, inr, leb-true, eqb-true}
use Rattle.std.proofs.Math.Bool.{true, false}
use mathlib.Core.List.{List, [], ◌∷◌, map}
use Prim.Native.Nat.{ℕ, zero, suc, ◌+◌, ◌-◌, ◌≤◌, ◌<◌}
use native.Mathlib.Omega.{arith}
use Rattle.std.proofs.Math.ListN.{length}
use Rattle.std.proofs.lemmas.Bool.{eqb-false}
use Rattle.base.specs.If.{when◌then◌else◌}
use Rattle.base.specs.Tabulate.{Each}
use Rattle.base.specs.Answer.{Answer, refused, gives, map_answer, and_then}
use Rattle.edition.specs.declared.Edition.{Edition}
use Rattle.edition.specs.Edition.{ok_edition}
use Rattle.entry.specs.Limits.{file_most, given_names_most, content_most}
use Rattle.entry.specs.State.{present}
use Rattle.entry.specs.Reading.{Entry}
use Rattle.entry.specs.Writing.{encode}
use Rattle.names.specs.declared.Found.{Found}
use Rattle.names.specs.declared.Found.TheVariants as N
use Rattle.names.specs.Names.{ascii}
use Rattle.names.specs.Lookup.{same_bytes, looking_up}
use Rattle.uses.specs.Walk.{Use, bind}
use Rattle.uses.specs.Related.{place_of}
use Rattle.uses.proofs.Related.{built_refusals}
use Rattle.text.specs.declared.FieldForm.{FieldForm}
use Rattle.text.specs.declared.FieldForm.TheVariants as F
use Rattle.text.specs.declared.Field.{Field}
use Rattle.text.specs.declared.TextRefusal.{TextRefusal}
use Rattle.text.specs.declared.TextRefusal.TheVariants.{Malformed, Limit}
use Rattle.text.specs.declared.Line.{Line}
use Rattle.text.specs.declared.Line.TheVariants.{End, Column, Indented}
use Rattle.text.specs.Bytes.{text_most}
use Rattle.text.specs.Strings.{read_at, read_bytes}
use Rattle.text.specs.Lines.{line_at, next_at}
use Rattle.text.specs.Fields.{field_at}
use Rattle.text.specs.Heading.{names_to, header_at}
use Rattle.text.specs.Describing.{Saying, nothing, boolean, number, string, uses, boolean_by, number_by, string_by}
use Rattle.text.specs.Describing.{saying_of, use_by, named_saying, judging_of, judging, SayingAt, FieldsRead, Fields}
use Rattle.text.specs.Describing.{sayings_from, Description, descriptions_most, one_too_many, behind_fields}
use Rattle.text.specs.Describing.{with_later, headed, descriptions_at, begun, describing}
use Rattle.text.specs.Building.{Having, nobody, numbered, having, UseAt, with_use, uses_in, found_as, description_at}
use Rattle.text.specs.Building.{uses_of, over_in, own_of, outcome, totals, Wanted, first, named, wanted_as, wanted_in}
use Rattle.text.specs.Building.{building, building_text}
use Rattle.text.specs.Compiling.{fitted, compiling, text_number}
use Rattle.text_laws.specs.LineLaws.{LineAfter, next_after}
use Rattle.text_laws.specs.HeadingLaws.{header_right, header_refusal}
use Rattle.text_laws.specs.SayingsLaws.{SaidIn, sayings_ind, sayings_said}
use Rattle.building_laws.specs.Descriptions.{StandsIn, describing_stand}
use Rattle.building_laws.specs.Values.{FieldNumber, UseNumber, TextNumber, text_not_12, BadAt, At, PlaceWithin, Within, BehindIn, FieldsIn, Bounded, CompilingNumber, Judged}

use_number : (n : ℕ) → 18 ≤ n → n ≤ 20 → UseNumber n
use_number n l m = by_18 (eqb n 18) refl
  where
    by_19 : (n ≡ 18 → ⊥) → (b : Bool) → eqb n 19 ≡ b → (n ≡ 19) ⊎ (n ≡ 20)
    by_19 h true q = inl (eqb-true n 19 q)
    by_19 h false q = let k = eqb-false n 19 q in inr (omega arith)

    by_18 : (b : Bool) → eqb n 18 ≡ b → UseNumber n
    by_18 true q = inl (eqb-true n 18 q)
    by_18 false q = inr (by_19 (eqb-false n 18 q) (eqb n 19) refl)

at_10 : (p : ℕ) → BadAt p 10 (p ∷ [])
at_10 p = (inl refl, refl)

at_11 : (p : ℕ) → BadAt p 11 (p ∷ [])
at_11 p = (inr (inl refl), refl)

at_13 : (p : ℕ) → BadAt p 13 (p ∷ [])
at_13 p = (inr (inr refl), refl)

map_at : {A B : Type 0} (g : A → B) (p : ℕ) (a : Answer A) → At p a → At p (map_answer g a)
map_at g p (refused n v) h = h
map_at g p (gives x) h = tt

boolean_at : (p : ℕ) (f : FieldForm) → At p (boolean_by p f)
boolean_at p F.Boolean = tt
boolean_at p F.Cancelled = tt
boolean_at p (F.Number v) = at_11 p
boolean_at p F.LargeNumber = at_11 p
boolean_at p (F.String i n) = at_11 p

number_at : (p : ℕ) (f : FieldForm) → At p (number_by p f)
number_at p F.Boolean = at_11 p
number_at p F.Cancelled = tt
number_at p (F.Number v) = tt
number_at p F.LargeNumber = at_13 p
number_at p (F.String i n) = at_11 p

-- a string of n bytes
length_at : {A : Type 0} (p n : ℕ) (x : A) → At p (when leb n content_most then gives x else refused 13 (p ∷ []))
length_at {A = A} p n x = by_test (leb n content_most)
  where
    by_test : (b : Bool) → At p (when b then gives x else refused 13 (p ∷ []))
    by_test true = tt
    by_test false = at_13 p

string_at_lem : (t : List ℕ) (p : ℕ) (f : FieldForm) → At p (string_by t p f)
string_at_lem t p F.Boolean = at_11 p
string_at_lem t p F.Cancelled = tt
string_at_lem t p (F.Number v) = at_11 p
string_at_lem t p F.LargeNumber = at_11 p
string_at_lem t p (F.String i n) = length_at p n (present (read_bytes (read_at t i)))

found_at : (t : List ℕ) (p : ℕ) (f : FieldForm) (c : Option Found) → At p (saying_of t p f c)
unfolding saying_of
found_at t p f (Some (N.Boolean q)) = map_at _ p (boolean_by p f) (boolean_at p f)
found_at t p f (Some (N.Number q)) = map_at _ p (number_by p f) (number_at p f)
found_at t p f (Some (N.String q)) = map_at _ p (string_by t p f) (string_at_lem t p f)
found_at t p f None = at_11 p

use_at_lem : (t : List ℕ) (p : ℕ) (f : FieldForm) → At p (use_by t p f)
use_at_lem t p F.Boolean = at_11 p
use_at_lem t p F.Cancelled = at_11 p
use_at_lem t p (F.Number v) = at_11 p
use_at_lem t p F.LargeNumber = at_11 p
use_at_lem t p (F.String i n) = length_at p n (uses (read_bytes (read_at t i)))

named_at_lem : (e : Edition) (t : List ℕ) (p : ℕ) (name : List ℕ) (f : FieldForm) → At p (named_saying e t p name f)
unfolding named_saying
named_at_lem e t p name f = by_use (same_bytes name (ascii "use"))
  where
    by_use : (b : Bool) → At p (when b then use_by t p f else saying_of t p f (looking_up e name))
    by_use true = use_at_lem t p f
    by_use false = found_at t p f (looking_up e name)

judging_at : (e : Edition) (t : List ℕ) (p : ℕ) → At p (judging e t p)
unfolding judging
judging_at e t p = by_field (field_at t p)
  where
    by_dropped : (dropped : Bool) (name : List ℕ) (f : FieldForm)
        → At p (when dropped then gives nothing else named_saying e t p name f)
    by_dropped true name f = tt
    by_dropped false name f = named_at_lem e t p name f

    by_field : (f : Option Field) → At p (judging_of e t p f)
    by_field (Some f) =
        map_at _ p
        (when f.dropped then gives nothing else named_saying e t p (take (f.end - f.name) (drop f.name t)) f.form)
        (by_dropped f.dropped _ f.form)
    by_field None = at_10 p

map_within : {A B : Type 0} (N : ℕ → Type 0) (g : A → B) (m : ℕ) (a : Answer A) → Within N m a
    → Within N m (map_answer g a)
map_within N g m (refused n v) h = h
map_within N g m (gives x) h = tt

module _ (e : Edition) (t : List ℕ) where
  fields_in : (i : ℕ) → FieldsIn t (sayings_from e t i)
  fields_in i =
      sayings_ind e t
      (λ r a. FieldsIn t a)
      (λ r q. tt)
      (λ r p q. (next_in r (Column p) q).1)
      (λ r p n v q w. in_text p n v (next_in r (Indented p) q).1 (subst (At p) w (judging_at e t p)))
      (λ r p j a q w h. h)
      (record { at = i; sayings = [] })
    where
      next_in : (r : FieldsRead) (l : Line) → next_at t r.at ≡ l → LineAfter t r.at l
      next_in r l q = subst (LineAfter t r.at) q (next_after t r.at)

      in_text : (p n : ℕ) (v : List ℕ) → p < length t → BadAt p n v → PlaceWithin FieldNumber (length t) n v
      in_text p n v l b = subst (PlaceWithin FieldNumber (length t) n) (sym b.1) (b.0, (omega arith, refl))

  -- at a header whose place is in the text
  module _ (p : ℕ) (l : p ≤ length t) where
    in_10 : PlaceWithin FieldNumber (length t) 10 (p ∷ [])
    in_10 = (inl refl, (l, refl))

    in_13 : PlaceWithin FieldNumber (length t) 13 (p ∷ [])
    in_13 = (inr (inr refl), (l, refl))

    -- a header's refusal
    in_header : (i : ℕ) (r : TextRefusal) → header_at t i ≡ Err r
        → PlaceWithin FieldNumber (length t) (text_number r) (p ∷ [])
    in_header i r q = by_refusal (header_refusal t i r q)
      where
        by_refusal : (r ≡ Malformed) ⊎ (r ≡ Limit) → PlaceWithin FieldNumber (length t) (text_number r) (p ∷ [])
        by_refusal (inl h) =
            subst (λ (x : TextRefusal). PlaceWithin FieldNumber (length t) (text_number x) (p ∷ [])) (sym h) in_10
        by_refusal (inr h) =
            subst (λ (x : TextRefusal). PlaceWithin FieldNumber (length t) (text_number x) (p ∷ [])) (sym h) in_13

  descriptions_within : (more p i : ℕ) → p ≤ length t → Within FieldNumber (length t) (descriptions_at e t more p i)
  unfolding descriptions_at
  descriptions_within zero p i l = by_header (header_at t i) refl
    where
      by_header : (h : Result ℕ TextRefusal) → header_at t i ≡ h → Within FieldNumber (length t) (one_too_many p h)
      by_header (Ok c) q = in_13 p l
      by_header (Err r) q = in_header p l i r q
  descriptions_within (suc more) p i l =
      by_header (header_at t i) refl (λ j k. descriptions_within more j j (omega arith))
    where
      later : ℕ → Answer (List Description)
      later j = descriptions_at e t more j j

      Later : Type 0
      Later = (j : ℕ) → j < length t → Within FieldNumber (length t) (later j)

      behind : (b : Line) → BehindIn t b → Later → Within FieldNumber (length t) (behind_fields later b)
      behind End k rest = tt
      behind (Column j) k rest = rest j k
      behind (Indented j) k rest = tt

      by_fields : (n : List ℕ) (a : Answer Fields) → FieldsIn t a → Later
          → Within FieldNumber (length t) (with_later later p n a)
      by_fields n (refused m v) k rest = k
      by_fields n (gives f) k rest =
          map_within FieldNumber _ (length t) (behind_fields later f.behind) (behind f.behind k rest)

      by_header : (h : Result ℕ TextRefusal) → header_at t i ≡ h → Later
          → Within FieldNumber (length t) (headed e t later p i h)
      by_header (Ok c) q rest = by_fields (names_to t i c) (sayings_from e t (c + 1)) (fields_in (c + 1)) rest
      by_header (Err r) q rest = in_header p l i r q

  pub describing_within : Within FieldNumber (length t) (describing e t)
  unfolding describing
  describing_within = by_line (line_at t 0)
    where
      by_line : (l : Line) → Within FieldNumber (length t) (begun e t l)
      by_line End = in_10 0 (omega arith)
      by_line (Column i) = descriptions_within descriptions_most 0 i (omega arith)
      by_line (Indented i) = in_10 0 (omega arith)

  -- ---- the refusals of what is wanted and used

  module _ (ds : List Description) where
    found_place : (p : ℕ) (h : Having) → place_of (found_as p h) ≡ p
    found_place p nobody = refl
    found_place p (numbered d) = refl

    -- the place of a use is in the text
    abbrev InText : Use → Type 0
    InText u = place_of u ≤ length t

    abbrev looked_up : List UseAt → List Use
    looked_up us = map (λ (u : UseAt). found_as u.place (having u.name ds)) us

    uses_in_lem : (ss : List SayingAt) → Each (SaidIn e t) ss → Each InText (looked_up (uses_in ss))
    unfolding uses_in
    uses_in_lem [] h = tt
    uses_in_lem (s ∷ ss) h = by_saying s.saying (uses_in_lem ss h.1)
      where
        by_saying : (x : Saying) → Each InText (looked_up (uses_in ss))
            → Each InText (looked_up (with_use s.place x (uses_in ss)))
        by_saying nothing rest = rest
        by_saying (boolean q z) rest = rest
        by_saying (number q z) rest = rest
        by_saying (string q z) rest = rest
        by_saying (uses n) rest =
            let p = h.0.within in
            let q = found_place s.place (having n ds) in
            (omega arith, rest)

    stands_uses : (d : Description) → StandsIn e t d → Each InText (looked_up (uses_in d.sayings))
    stands_uses d s =
        subst (λ (ss : List SayingAt). Each InText (looked_up (uses_in ss))) (sym s.sayings)
        (uses_in_lem s.fields.sayings (sayings_said e t (s.comma + 1) s.fields s.read))

    graph_in : (xs : List Description) → Each (StandsIn e t) xs → (d : ℕ)
        → Each InText (looked_up (uses_in (description_at xs d).sayings))
    unfolding uses_in
    graph_in [] h d = tt
    graph_in (x ∷ xs) h zero = stands_uses x h.0
    graph_in (x ∷ xs) h (suc d) = graph_in xs h.1 d

    outcome_within : Each (StandsIn e t) ds → (d : ℕ) → Within UseNumber (length t) (outcome e ds d)
    unfolding uses_of
    outcome_within h d = by_answer (outcome e ds d) refl
      where
        by_answer : (a : Answer Entry) → outcome e ds d ≡ a → Within UseNumber (length t) a
        by_answer (refused n v) q =
            let r =
            built_refusals (over_in e) (own_of e ds) (λ (p : ℕ). p ≤ length t) (uses_of ds) (graph_in ds h) d n v q in
            (use_number n r.0 r.1, (r.2, r.3))
        by_answer (gives x) q = tt

    totals_within : (xs : List Description) → Each (StandsIn e t) xs → Within FieldNumber (length t) (totals xs)
    unfolding totals
    totals_within [] h = tt
    totals_within (x ∷ xs) h = by_test (leb (length x.names) given_names_most) (totals_within xs h.1)
      where
        by_test : (b : Bool) → Within FieldNumber (length t) (totals xs)
            → Within FieldNumber (length t) (when b then totals xs else refused 13 (x.place ∷ []))
        by_test true rest = rest
        by_test false rest =
            let s = h.0 in
            let r = header_right t s.at s.comma s.header in
            let l = s.place in
            let l₁ = r.place in
            let l₂ = r.within in
            in_13 x.place (omega arith)

    by_total : (b : Answer Entry) → Each (StandsIn e t) ds → Within TextNumber (length t) b
        → Within TextNumber (length t) (and_then (totals ds) b)
    by_total b h k = by_answer (totals ds) (totals_within ds h)
      where
        by_answer : (a : Answer Unit) → Within FieldNumber (length t) a → Within TextNumber (length t) (and_then a b)
        by_answer (refused n v) r = (inl r.0, r.1)
        by_answer (gives x) r = k

    wanted_within : (w : Wanted) → Within UseNumber (length t) (wanted_in ds w)
    wanted_within first = tt
    wanted_within (named n) = by_having (having n ds)
      where
        by_having : (h : Having) → Within UseNumber (length t) (wanted_as h)
        by_having nobody = (inl refl, (omega arith, refl))
        by_having (numbered d) = tt

    building_within : (w : Wanted) → Each (StandsIn e t) ds → Within TextNumber (length t) (building e w ds)
    unfolding building
    building_within w h =
        by_total (bind (wanted_in ds w) (outcome e ds)) h (by_wanted (wanted_in ds w) (wanted_within w))
      where
        use-within : (a : Answer Entry) → Within UseNumber (length t) a → Within TextNumber (length t) a
        use-within (refused n v) r = (inr r.0, r.1)
        use-within (gives x) r = tt

        by_wanted : (a : Answer ℕ) → Within UseNumber (length t) a
            → Within TextNumber (length t) (bind a (outcome e ds))
        by_wanted (refused n v) r = (inr r.0, r.1)
        by_wanted (gives d) r = use-within (outcome e ds d) (outcome_within h d)

  pub text_within : (w : Wanted) → Within TextNumber (length t) (building_text e t w)
  unfolding building_text
  text_within w = by_text (describing e t) refl describing_within
    where
      by_text : (a : Answer (List Description)) → describing e t ≡ a → Within FieldNumber (length t) a
          → Within TextNumber (length t) (bind a (building e w))
      by_text (refused n v) q r = (inl r.0, r.1)
      by_text (gives ds) q r = building_within ds w (describing_stand e t ds q)

compiling_judged : (e : Edition) (t : List ℕ) (w : Wanted) (room : ℕ) → Judged (compiling e t w room)
unfolding compiling
compiling_judged e t w room = by_edition (ok_edition e)
  where
    by_room : (x : Entry) → length (encode x) ≤ file_most → (b : Bool)
        → Judged (when not b then refused 8 (length (encode x) ∷ []) else gives (encode x))
    by_room x l true = l
    by_room x l false = (inr (inr (inr refl)), omega arith)

    by_size : (x : Entry) (b : Bool) → leb (length (encode x)) file_most ≡ b
        → Judged (when not b then refused 9 []
        else when not (leb (length (encode x)) room) then refused 8 (length (encode x) ∷ []) else gives (encode x))
    by_size x true q = by_room x (leb-true _ _ q) (leb (length (encode x)) room)
    by_size x false q = (inr (inr (inl refl)), omega arith)

    by_entry : length t ≤ text_most → (a : Answer Entry) → Within TextNumber (length t) a → Judged (fitted room a)
    by_entry l (refused n v) h = let k = h.1.0 in (inr (inl h.0), omega arith)
    by_entry l (gives x) h = by_size x (leb (length (encode x)) file_most) refl

    by_length : (b : Bool) → leb (length t) text_most ≡ b
        → Judged (when not b then refused 1 [] else fitted room (building_text e t w))
    by_length true q = by_entry (leb-true _ _ q) (building_text e t w) (text_within e t w)
    by_length false q = (inl (inr refl), omega arith)

    by_edition : (b : Bool) → Judged (when not b then refused 3 []
        else when not (leb (length t) text_most) then refused 1 [] else fitted room (building_text e t w))
    by_edition true = by_length (leb (length t) text_most) refl
    by_edition false = (inl (inl refl), omega arith)

pub compiling_bounded : (e : Edition) (t : List ℕ) (w : Wanted) (room : ℕ)
    → Bounded (map_answer length (compiling e t w room))
compiling_bounded e t w room = by_answer (compiling e t w room) (compiling_judged e t w room)
  where
    by_answer : (a : Answer (List ℕ)) → Judged a → Bounded (map_answer length a)
    by_answer (refused n v) h = h.1
    by_answer (gives f) h = h

pub compiling_numbers : (e : Edition) (t : List ℕ) (w : Wanted) (room n : ℕ) (v : List ℕ)
    → compiling e t w room ≡ refused n v → CompilingNumber n
compiling_numbers e t w room n v q = (subst Judged q (compiling_judged e t w room)).0

-- "12, which is no longer given"
pub compiling_not_12 : (e : Edition) (t : List ℕ) (w : Wanted) (room : ℕ) (v : List ℕ)
    → compiling e t w room ≡ refused 12 v → ⊥
compiling_not_12 e t w room v q = by_number (compiling_numbers e t w room 12 v q)
  where
    by_number : CompilingNumber 12 → ⊥
    by_number (inl (inl z)) = omega arith
    by_number (inl (inr z)) = omega arith
    by_number (inr (inl z)) = text_not_12 z
    by_number (inr (inr (inl z))) = omega arith
    by_number (inr (inr (inr z))) = omega arith
