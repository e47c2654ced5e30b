-- Laws of reading a text's descriptions: the arrays hold those that are read, and one description more.
-- Assumes nothing.
use mathlib.Core.Path.{◌≡◌, refl, sym, ap, ◌∙◌, subst}
use mathlib.Core.List.{List, [], ◌∷◌, ◌++◌, append_assoc}
use Prim.Native.Nat.{ℕ, zero, suc, ◌+◌, ◌-◌, ◌*◌, ◌≤◌, ◌<◌}
use native.Mathlib.Omega.{arith}
use lib.ListN.{length, get_or, set, take, drop, length-append, length-set, length-drop, take-append-drop}
use lib.ListN.{get_or-append}
use lib.Seq.{get_or_at, get_or-set_same, get_or-set_other, length-take-le, take_at, drop_at, take-append-le, drop-append-le}
use Rattle.std.specs.Prelude.{Option, Some, None, Result, Ok, Err}
use Rattle.base.specs.Answer.{Answer, refused, gives, map_answer}
use Rattle.base.specs.Overwrite.{put_at}
use Rattle.base.proofs.IfLaws.{below_or}
use Rattle.base.proofs.OverwriteLaws.{length_put}
use Rattle.edition.specs.declared.Edition.{Edition}
use Rattle.text.specs.declared.Line.{Line}
use Rattle.text.specs.declared.Line.TheVariants.{End, Column, Indented}
use Rattle.text.specs.declared.TextRefusal.{TextRefusal}
use Rattle.text.specs.declared.TextRefused.{TextRefused}
use Rattle.text.specs.Lines.{line_at}
use Rattle.text.specs.Heading.{names_to, header_at}
use Rattle.text.specs.Describing.{SayingAt, fields_to, sayings_from, Description, description, descriptions_most}
use Rattle.text.specs.Describing.{one_too_many, behind_fields, with_later, headed, descriptions_at, begun, describing}
use Rattle.text.specs.Building.{description_at}
use Rattle.text.specs.Refusals.{text_number}
use Rattle.text_laws.specs.LineLaws.{LineAfter, lines_after}
use Rattle.compile_laws.specs.Listed.{descriptions_of, text_descriptions, StandsFrom, head_place, Listed, uses_room}
use Rattle.compile_laws.specs.Listed.{use_places, UsesListed}
use Rattle.each_field.specs.Each.{line_behind, Passes}
use Rattle.descriptions.specs.declared.Described.{Described}
use Rattle.descriptions.specs.Reads.{Describes, Rooms, TextReads}

-- ---- places of headers

pub head_first : (d i : ℕ) → d ≡ 0 → 0 ≡ head_place d i
unfolding head_place
head_first zero i h = refl
head_first (suc d) i h = absurd (let z : ⊥ = omega arith in z)

pub head_later : (d i : ℕ) → (d ≡ 0 → ⊥) → i ≡ head_place d i
unfolding head_place
head_later zero i h = absurd (h refl)
head_later (suc d) i h = refl

-- ---- arrays with a part put at a place

module _ {A : Type 0} (b : List A) (at : ℕ) (xs : List A) (h : at ≤ length b) where
  -- what stands before the part stays
  put_keeps : (m n : ℕ) → m + n ≤ at → take n (drop m (put_at b at xs)) ≡ take n (drop m b)
  unfolding put_at
  put_keeps m n l =
      front (xs ++ drop (at + length xs) b)
      ∙ sym (front (drop at b))
      ∙ ap (λ (ys : List A). take n (drop m ys)) (take-append-drop at b)
    where
      front : (ys : List A) → take n (drop m (take at b ++ ys)) ≡ take n (drop m (take at b))
      front ys =
          let a : length (take at b) ≡ at = length-take-le at b h in
          let k : m ≤ length (take at b) = omega arith in
          ap (take n) (drop-append-le m (take at b) ys k)
          ∙ take-append-le n (drop m (take at b)) ys (let d = length-drop m (take at b) in omega arith)

  -- and the part is there
  put_there : (n : ℕ) → n ≡ length xs → take n (drop at (put_at b at xs)) ≡ xs
  unfolding put_at
  put_there n e =
      ap (take n) (drop_at (take at b) (xs ++ drop (at + length xs) b) at (length-take-le at b h))
      ∙ take_at xs (drop (at + length xs) b) n (sym e)

-- ---- one description

-- descriptions, and behind them those that are given
abbrev followed : List Description → Answer (List Description) → Answer (List Description)
followed xs a = map_answer (λ (ds : List Description). xs ++ ds) a

followed_twice : (xs ys : List Description) (a : Answer (List Description))
    → followed xs (followed ys a) ≡ followed (xs ++ ys) a
followed_twice xs ys (refused n v) = refl
followed_twice xs ys (gives ds) = ap gives (sym (append_assoc xs ys ds))

followed_none : (a : Answer (List Description)) → followed [] a ≡ a
followed_none (refused n v) = refl
followed_none (gives ds) = refl

module _ (e : Edition) (t : List ℕ) where
  -- where a description is right, it stands in front of those behind it
  pub described_one : (more p i c : ℕ) (ss : List SayingAt) (l : Line) → header_at t i ≡ Ok c
      → sayings_from e t (c + 1) ≡ gives (fields_to ss l)
      → descriptions_at e t (suc more) p i
      ≡ followed (description p (names_to t i c) ss ∷ []) (behind_fields (λ (j : ℕ). descriptions_at e t more j j) l)
  unfolding descriptions_at
  described_one more p i c ss l h q =
      let later : ℕ → Answer (List Description) = λ j. descriptions_at e t more j j in
      ap (headed e t later p i) h ∙ ap (with_later later p (names_to t i c)) q

  -- where its header or one of its fields is bad, so is any text that has it there
  module _ (i p : ℕ) (later : ℕ → Answer (List Description)) where
    pub refused_header : (why : TextRefusal) → header_at t i ≡ Err why
        → headed e t later p i (header_at t i) ≡ refused (text_number why) (p ∷ [])
    refused_header why h = ap (headed e t later p i) h

    pub refused_field : (c n : ℕ) (v : List ℕ) → header_at t i ≡ Ok c → sayings_from e t (c + 1) ≡ refused n v
        → headed e t later p i (header_at t i) ≡ refused n v
    refused_field c n v h r = ap (headed e t later p i) h ∙ ap (with_later later p (names_to t i c)) r

-- ---- a text whose first line is no header

module _ (e : Edition) (t : List ℕ) where
  pub begun_end : line_at t 0 ≡ End → describing e t ≡ refused 10 (0 ∷ [])
  unfolding describing
  begun_end q = ap (begun e t) q

  pub begun_indented : {p : ℕ} → line_at t 0 ≡ Indented p → describing e t ≡ refused 10 (0 ∷ [])
  unfolding describing
  begun_indented q = ap (begun e t) q

-- ---- the descriptions read so far

-- the arrays hold the first d descriptions, and the others are those from the line in column 1 at `at` on
pub record ReadTo (e : Edition) (t heads commas starts places : List ℕ) (d at uses : ℕ) : Type 0 where
  pub done : List Description
  pub rest : describing e t ≡ followed done (descriptions_at e t (descriptions_most - d) (head_place d at) at)
  pub counted : length done ≡ d
  pub few : d ≤ descriptions_most
  pub within : at < length t
  pub spare : uses * 5 ≤ at
  pub many_heads : descriptions_most ≤ length heads
  pub many_commas : descriptions_most ≤ length commas
  pub many_starts : descriptions_most < length starts
  pub many_places : uses_room ≤ length places
  pub stands : (k : ℕ) → k < d → StandsFrom e t (get_or heads k 0) (get_or commas k 0) (description_at done k)
  pub head_places : (k : ℕ) → k < d → (description_at done k).place ≡ head_place k (get_or heads k 0)
  pub started : get_or starts d 0 ≡ uses
  pub below : (k : ℕ) → k ≤ d → get_or starts k 0 ≤ uses
  pub listed : UsesListed starts places d done

pub read_start : (e : Edition) (t heads commas starts places : List ℕ) (first : ℕ) → line_at t 0 ≡ Column first
    → Rooms t heads commas starts places → ReadTo e t heads commas starts places 0 first 0
unfolding describing head_place
read_start e t heads commas starts places first q r =
    record {
      done = [];
      rest = ap (begun e t) q ∙ sym (followed_none (descriptions_at e t descriptions_most 0 first));
      counted = refl;
      few = omega arith;
      within = (subst (LineAfter t 0) q (lines_after t 0)).1;
      spare = omega arith;
      many_heads = r.many_heads;
      many_commas = r.many_commas;
      many_starts = r.many_starts;
      many_places = r.many_places;
      stands = λ k l. absurd (let z : ⊥ = omega arith in z);
      head_places = λ k l. absurd (let z : ⊥ = omega arith in z);
      started = r.unset 0;
      below = λ k l. let z = r.unset k in omega arith;
      listed =
          record {
            many_starts = let m = r.many_starts in omega arith;
            ordered = λ k l. absurd (let z : ⊥ = omega arith in z);
            inside = λ k l. absurd (let z : ⊥ = omega arith in z);
            rest = λ k l. r.unset k;
            in_order = λ k l. absurd (let z : ⊥ = omega arith in z);
          };
    }

-- ---- no more, a refusal, and one description more

module _ (e : Edition) (t heads commas starts places : List ℕ) (d at uses : ℕ)
    (w : ReadTo e t heads commas starts places d at uses) where
  -- a header behind the 64th description
  pub read_full : d ≡ descriptions_most → (why : TextRefusal)
      → ((p : ℕ) → one_too_many p (header_at t at) ≡ refused (text_number why) (p ∷ []))
      → TextReads e t heads commas starts places (Err (record { why = why; at = at }))
  unfolding descriptions_at
  read_full q why h =
      let z : descriptions_most - d ≡ 0 = omega arith in
      let p : at ≡ head_place d at = head_later d at (λ r. omega arith) in
      w.rest
      ∙ ap (λ (m : ℕ). followed w.done (descriptions_at e t m (head_place d at) at)) z
      ∙ ap (followed w.done) (h (head_place d at))
      ∙ ap (λ (m : ℕ). refused (text_number why) (m ∷ [])) (sym p)

  module _ (b : d < descriptions_most) where
    -- what listing a description asks for
    pub read_lists : (d < length heads) × ((d < length commas) × (d + 1 < length starts))
    read_lists =
        let m₁ = w.many_heads in
        let m₂ = w.many_commas in
        let m₃ = w.many_starts in
        omega arith

    abbrev more : ℕ
    more = descriptions_most - (d + 1)

    rest_is : describing e t ≡ followed w.done (descriptions_at e t (suc more) (head_place d at) at)
    rest_is =
        let m : descriptions_most - d ≡ suc more = omega arith in
        w.rest ∙ ap (λ (m : ℕ). followed w.done (descriptions_at e t m (head_place d at) at)) m

    module _ (after : List ℕ) (c count : ℕ) (l : Line) (h : header_at t at ≡ Ok c)
        (p : Passes e t (c + 1) places uses after count l) where
      abbrev one : Description
      one = description (head_place d at) (names_to t at c) p.sayings

      abbrev all : List Description
      all = w.done ++ (one ∷ [])

      abbrev heads' : List ℕ
      heads' = set heads d at

      abbrev commas' : List ℕ
      commas' = set commas d c

      abbrev starts' : List ℕ
      starts' = set starts (d + 1) count

      all_counted : length all ≡ d + 1
      all_counted = let n = length-append w.done (one ∷ []) in let m = w.counted in omega arith

      -- each of those before stays, and the new one is the last
      old_one : (k : ℕ) → k < d → description_at all k ≡ description_at w.done k
      old_one k m = let n = w.counted in get_or-append w.done (one ∷ []) (description 0 [] []) k (omega arith)

      new_one : description_at all d ≡ one
      new_one = get_or_at w.done one [] (description 0 [] []) d w.counted

      old_at : (xs : List ℕ) (i v k : ℕ) → k < i → get_or (set xs i v) k 0 ≡ get_or xs k 0
      old_at xs i v k m = get_or-set_other xs i k v 0 (λ q. omega arith)

      head_at : get_or heads' d 0 ≡ at
      head_at = let m = w.many_heads in get_or-set_same heads d at 0 (omega arith)

      comma_at : get_or commas' d 0 ≡ c
      comma_at = let m = w.many_commas in get_or-set_same commas d c 0 (omega arith)

      start_at : get_or starts' (d + 1) 0 ≡ count
      start_at = let m = w.many_starts in get_or-set_same starts (d + 1) count 0 (omega arith)

      stands' : (k : ℕ) → k < d + 1 → StandsFrom e t (get_or heads' k 0) (get_or commas' k 0) (description_at all k)
      stands' k m =
          below_or k d
          (λ o. rw (old_at heads d at k o, old_at commas d c k o, old_one k o) (w.stands k o))
          (λ o. let q : k ≡ d = omega arith in
          rw (q, head_at, comma_at, new_one)
          (record { header = h; names = refl; fields = fields_to p.sayings l; read = p.read; sayings = refl }))

      head_places' : (k : ℕ) → k < d + 1 → (description_at all k).place ≡ head_place k (get_or heads' k 0)
      head_places' k m =
          below_or k d
          (λ o. rw (old_at heads d at k o, old_one k o) (w.head_places k o))
          (λ o. let q : k ≡ d = omega arith in rw (q, head_at, new_one))

      -- the uses before stay, and those of the new one stand behind them
      after_length : length after ≡ length places
      after_length =
          let n = p.counted in
          let r = p.room in
          let m = w.many_places in
          ap length p.places ∙ length_put places uses (use_places p.sayings) (omega arith)

      uses_in_lem : uses ≤ length places
      uses_in_lem = let n = p.counted in let r = p.room in let m = w.many_places in omega arith

      below' : (k : ℕ) → k ≤ d + 1 → get_or starts' k 0 ≤ count
      below' k m =
          below_or k (d + 1)
          (λ o. let n = p.counted in let s = old_at starts (d + 1) count k o in let v = w.below k (omega arith) in
          omega arith)
          (λ o. let q : k ≡ d + 1 = omega arith in rw (q, start_at) (omega arith))

      in_order_lem : (k : ℕ) → k < d + 1
          → use_places (description_at all k).sayings
          ≡ take (get_or starts' (k + 1) 0 - get_or starts' k 0) (drop (get_or starts' k 0) after)
      in_order_lem k m =
          below_or k d
          (λ o. let v = w.below (k + 1) (omega arith) in
          let u = w.listed.ordered k o in
          let n : ℕ = get_or starts (k + 1) 0 - get_or starts k 0 in
          rw (
            old_one k o,
            old_at starts (d + 1) count (k + 1) (omega arith),
            old_at starts (d + 1) count k (omega arith),
            p.places,
            put_keeps places uses (use_places p.sayings) uses_in_lem (get_or starts k 0) n (omega arith),
          ) (w.listed.in_order k o))
          (λ o. let q : k ≡ d = omega arith in
          let n = p.counted in
          rw (q, new_one, start_at, old_at starts (d + 1) count d (omega arith), w.started, p.places)
          (sym (put_there places uses (use_places p.sayings) uses_in_lem (count - uses) (omega arith))))

      listed' : UsesListed starts' after (d + 1) all
      listed' =
          record {
            many_starts = let m = w.many_starts in rw (length-set starts (d + 1) count) (omega arith);
            ordered = λ k m. below_or k d
                (λ o. let a = old_at starts (d + 1) count (k + 1) (omega arith) in
                rw (a, old_at starts (d + 1) count k (omega arith)) (w.listed.ordered k o))
                (λ o. let q : k ≡ d = omega arith in let n = p.counted in let s = w.started in
                rw (q, start_at, old_at starts (d + 1) count d (omega arith)) (omega arith));
            inside = λ k m. let v = below' (k + 1) (omega arith) in let r = p.room in let n = after_length in
                let s = w.many_places in omega arith;
            rest = λ k m. get_or-set_other starts (d + 1) k count 0 (λ q. omega arith) ∙ w.listed.rest k (omega arith);
            in_order = in_order_lem;
          }

      -- the text's descriptions, by the line behind the new one's fields
      abbrev by_line : Line → Answer (List Description)
      by_line x = followed w.done (followed (one ∷ []) (behind_fields (λ (j : ℕ). descriptions_at e t more j j) x))

      described_as : (x : Line) → l ≡ x → describing e t ≡ by_line x
      described_as x q =
          rest_is
          ∙ ap (followed w.done) (described_one e t more (head_place d at) at c p.sayings l h p.read)
          ∙ ap by_line q

      last_read : l ≡ End → TextReads e t heads' commas' starts' after (Ok (d + 1))
      last_read q =
          let r : describing e t ≡ gives all = described_as End q in
          let s : all ≡ text_descriptions e t = sym (ap descriptions_of r) in (
            r ∙ ap gives s,
            (
              subst (Listed e t heads' commas' (d + 1)) s
                  (record {
                    counted = all_counted;
                    some = omega arith;
                    few = omega arith;
                    many_heads = let m = w.many_heads in rw (length-set heads d at) (omega arith);
                    many_commas = let m = w.many_commas in rw (length-set commas d c) (omega arith);
                    stands = stands';
                    places = head_places';
                  }),
              subst (UsesListed starts' after (d + 1)) s listed',
            ),
          )

      one_read : (next : ℕ) → l ≡ Column next → next < length t → count * 5 ≤ next
          → ReadTo e t heads' commas' starts' after (d + 1) next count
      one_read next q o s =
          record {
            done = all;
            rest =
                described_as (Column next) q
                ∙ followed_twice w.done (one ∷ []) (descriptions_at e t more next next)
                ∙ ap (λ (i : ℕ). followed all (descriptions_at e t more i next))
                (head_later (d + 1) next (λ z. omega arith));
            counted = all_counted;
            few = omega arith;
            within = o;
            spare = s;
            many_heads = rw (length-set heads d at) w.many_heads;
            many_commas = rw (length-set commas d c) w.many_commas;
            many_starts = rw (length-set starts (d + 1) count) w.many_starts;
            many_places = rw after_length w.many_places;
            stands = stands';
            head_places = head_places';
            started = start_at;
            below = below';
            listed = listed';
          }

    -- by what the description at the place comes to, whose header's refusals give q; the arrays are those after it
    module _ (after : List ℕ) (q : ℕ) (f : q ≡ head_place d at) where
      described_by : (r : Result Described TextRefused) → Describes e t at q places uses after r
          → Describes e t at (head_place d at) places uses after r
      described_by r x = subst (λ (z : ℕ). Describes e t at z places uses after r) f x

      pub read_refused : (r : TextRefused) → Describes e t at q places uses after (Err r)
          → TextReads e t heads commas starts after (Err r)
      unfolding descriptions_at
      read_refused r x =
          rest_is ∙ ap (followed w.done) (described_by (Err r) x (λ (j : ℕ). descriptions_at e t more j j))

      module _ (r : Described) (x : Describes e t at q places uses after (Ok r)) (heads₁ commas₁ starts₁ : List ℕ)
          (h₁ : heads₁ ≡ set heads d at)
          (h₂ : commas₁ ≡ set commas d r.comma)
          (h₃ : starts₁ ≡ set starts (d + 1) r.passed.uses) where
        behind_as : (n : Option ℕ) → r.passed.next ≡ n
            → Passes e t (r.comma + 1) places uses after r.passed.uses (line_behind n)
        behind_as n u =
            subst (λ (m : Option ℕ). Passes e t (r.comma + 1) places uses after r.passed.uses (line_behind m)) u x.1.0

        pub read-last : r.passed.next ≡ None → TextReads e t heads₁ commas₁ starts₁ after (Ok (d + 1))
        read-last u =
            rw (h₁, h₂, h₃) (last_read after r.comma r.passed.uses End x.0 (behind_as None u) refl)

        pub read_more : (next : ℕ) → r.passed.next ≡ Some next
            → ReadTo e t heads₁ commas₁ starts₁ after (d + 1) next r.passed.uses
        read_more next u =
            let y = x.1.1 next u in
            rw (h₁, h₂, h₃)
            (one_read after r.comma r.passed.uses (Column next) x.0 (behind_as (Some next) u) next refl y.0 y.1)
