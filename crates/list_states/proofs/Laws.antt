-- The turns of the loops that fill the arrays, and the answers of listing in their order.
-- Assumes nothing.
use mathlib.Core.Path.{◌≡◌, refl, sym, ap, ◌∙◌, subst}
use mathlib.Core.Bool.{Bool, true, false, ◌&&◌, not}
use mathlib.Core.List.{List, [], ◌∷◌, ◌++◌}
use Prim.Native.Nat.{ℕ, ◌+◌, ◌≤◌, ◌<◌}
use native.Mathlib.Omega.{arith}
use lib.Dec.{leb}
use lib.ListN.{length, set}
use borrow.Author.Tests.{le-leb, lt-leb, leb-true}
use Rattle.std.specs.Prelude.{Err}
use Rattle.base.specs.If.{when◌then◌else◌}
use Rattle.base.proofs.IfLaws.{true_false, and_left, and_right}
use Rattle.base.specs.Tabulate.{tabulate}
use Rattle.base.proofs.TabulateLaws.{length_tabulate, tabulate_more}
use Rattle.base.specs.Overwrite.{put_at}
use Rattle.base.proofs.OverwriteLaws.{put_nil, put_store}
use Rattle.base.specs.Answer.{Answer, refused, gives, is_given}
use Rattle.edition.specs.declared.Edition.{Edition}
use Rattle.edition.specs.Edition.{ok_edition}
use Rattle.entry.specs.declared.Tables.{Tables}
use Rattle.entry.specs.declared.Opening.{Opening}
use Rattle.entry.specs.declared.Part.{Part}
use Rattle.entry.specs.State.{State, absent, cancelled, present}
use Rattle.entry.specs.Asking.{opening, part_given}
use Rattle.entry_laws.specs.Accepted.{test_passed}
use Rattle.entry_laws.specs.Merge.{edition_counts}
use Rattle.opened_file.specs.Opened.{OpenedAs}
use Rattle.list_states.specs.declared.ListRefusal.{ListRefusal}
use Rattle.list_states.specs.declared.ListRefusal.TheVariants as L
use Rattle.list_states.specs.Listing.{Arrays, arrays, Rooms, rooms_of, kind_given, present_or, states_of, room_for, listing, arrays_after, Lists, says_listed}
use Rattle.list_states.specs.Filled.{CountsFit}

-- ---- a loop that fills an array by place

-- nothing stored
pub filled_none : (g : ℕ → ℕ) (b : List ℕ) → b ≡ put_at b 0 (tabulate g 0)
unfolding tabulate
filled_none g b = sym (put_nil b 0)

-- one more place
pub filled_more : (g : ℕ → ℕ) (b₀ b : List ℕ) (i v : ℕ) → i < length b₀ → b ≡ put_at b₀ 0 (tabulate g i) → v ≡ g i
    → set b i v ≡ put_at b₀ 0 (tabulate g (i + 1))
filled_more g b₀ b i v h e q =
    let n = length_tabulate g i in
    put_store b₀ b 0 i v (tabulate g i) (tabulate g (i + 1)) e (omega arith)
    (tabulate_more g i ∙ ap (λ (x : ℕ). tabulate g i ++ (x ∷ [])) (sym q)) h

-- every place
pub filled_all : (g : ℕ → ℕ) (b₀ b : List ℕ) (i n : ℕ) → i ≡ n → b ≡ put_at b₀ 0 (tabulate g i)
    → b ≡ put_at b₀ 0 (tabulate g n)
filled_all g b₀ b i n q e = subst (λ (m : ℕ). b ≡ put_at b₀ 0 (tabulate g m)) q e

pub kind_small : {A : Type 0} (a : Answer (State A)) → kind_given a ≤ 2
kind_small (refused n v) = omega arith
kind_small (gives absent) = omega arith
kind_small (gives cancelled) = omega arith
kind_small (gives (present x)) = omega arith

-- the part of a state that presents one, and the empty part otherwise
pub part_or : (a : Answer (State Part)) → present_or (record { start = 0; length = 0 }) a ≡ part_given a
part_or (refused n v) = refl
part_or (gives absent) = refl
part_or (gives cancelled) = refl
part_or (gives (present p)) = refl

-- ---- the arrays' rooms, in the order of refusal

module _ (e : Edition) (r : Rooms) where
  pub short_booleans : r.boolean_kinds < e.booleans → refused 8 (e.booleans ∷ []) ≡ room_for e r
  unfolding room_for
  short_booleans h = rw (lt-leb e.booleans r.boolean_kinds h)

  module _ (a : e.booleans ≤ r.boolean_kinds) where
    pub short_number_kinds : r.number_kinds < e.numbers → refused 8 (e.numbers ∷ []) ≡ room_for e r
    unfolding room_for
    short_number_kinds h = rw (le-leb e.booleans r.boolean_kinds a, lt-leb e.numbers r.number_kinds h)

    module _ (b : e.numbers ≤ r.number_kinds) where
      pub short_number_values : r.number_values < e.numbers → refused 8 (e.numbers ∷ []) ≡ room_for e r
      unfolding room_for
      short_number_values h =
          rw (
            le-leb e.booleans r.boolean_kinds a,
            le-leb e.numbers r.number_kinds b,
            lt-leb e.numbers r.number_values h,
          )

      module _ (c : e.numbers ≤ r.number_values) where
        pub short-string-kinds : r.string_kinds < e.strings → refused 8 (e.strings ∷ []) ≡ room_for e r
        unfolding room_for
        short-string-kinds h =
            rw (
              le-leb e.booleans r.boolean_kinds a,
              le-leb e.numbers r.number_kinds b,
              le-leb e.numbers r.number_values c,
              lt-leb e.strings r.string_kinds h,
            )

        module _ (d : e.strings ≤ r.string_kinds) where
          pub short-string-starts : r.string_starts < e.strings → refused 8 (e.strings ∷ []) ≡ room_for e r
          unfolding room_for
          short-string-starts h =
              rw (
                le-leb e.booleans r.boolean_kinds a,
                le-leb e.numbers r.number_kinds b,
                le-leb e.numbers r.number_values c,
                le-leb e.strings r.string_kinds d,
                lt-leb e.strings r.string_starts h,
              )

          module _ (s : e.strings ≤ r.string_starts) where
            pub short-string-lengths : r.string_lengths < e.strings → refused 8 (e.strings ∷ []) ≡ room_for e r
            unfolding room_for
            short-string-lengths h =
                rw (
                  le-leb e.booleans r.boolean_kinds a,
                  le-leb e.numbers r.number_kinds b,
                  le-leb e.numbers r.number_values c,
                  le-leb e.strings r.string_kinds d,
                  le-leb e.strings r.string_starts s,
                  lt-leb e.strings r.string_lengths h,
                )

            pub room_enough : e.strings ≤ r.string_lengths → gives tt ≡ room_for e r
            unfolding room_for
            room_enough h =
                rw (
                  le-leb e.booleans r.boolean_kinds a,
                  le-leb e.numbers r.number_kinds b,
                  le-leb e.numbers r.number_values c,
                  le-leb e.strings r.string_kinds d,
                  le-leb e.strings r.string_starts s,
                  le-leb e.strings r.string_lengths h,
                )

-- a test that gives was passed
passed : (t : Bool) (n : ℕ) (v : List ℕ) (rest : Answer (Unit {0})) → gives tt ≡ (when not t then refused n v else rest)
    → (t ≡ true) × (gives tt ≡ rest)
passed true n v rest q = (refl, q)
passed false n v rest q = true_false (ap is_given q)

-- where there is room, every array is long enough
pub record Lent (e : Edition) (a : Arrays) : Type 0 where
  pub boolean_kinds : e.booleans ≤ length a.boolean_kinds
  pub number_kinds : e.numbers ≤ length a.number_kinds
  pub number_values : e.numbers ≤ length a.number_values
  pub string_kinds : e.strings ≤ length a.string_kinds
  pub string_starts : e.strings ≤ length a.string_starts
  pub string_lengths : e.strings ≤ length a.string_lengths

pub rooms_lent : (e : Edition) (a : Arrays) → gives tt ≡ room_for e (rooms_of a) → Lent e a
unfolding room_for
rooms_lent e a q =
    let x = passed (leb e.booleans (length a.boolean_kinds)) 8 (e.booleans ∷ []) _ q in
    let y = passed (leb e.numbers (length a.number_kinds) && leb e.numbers (length a.number_values)) 8
    (e.numbers ∷ []) _ x.1 in
    let z = passed (leb e.strings (length a.string_kinds) && (leb e.strings (length a.string_starts)
    && leb e.strings (length a.string_lengths))) 8 (e.strings ∷ []) _ y.1 in
    let w = and_right (leb e.strings (length a.string_kinds)) _ z.0 in
    record {
      boolean_kinds = leb-true _ _ x.0;
      number_kinds = leb-true _ _ (and_left (leb e.numbers (length a.number_kinds)) _ y.0);
      number_values = leb-true _ _ (and_right (leb e.numbers (length a.number_kinds)) _ y.0);
      string_kinds = leb-true _ _ (and_left (leb e.strings (length a.string_kinds)) _ z.0);
      string_starts = leb-true _ _ (and_left (leb e.strings (length a.string_starts)) _ w);
      string_lengths = leb-true _ _ (and_right (leb e.strings (length a.string_starts)) _ w);
    }

-- ---- the answers

-- arrays from their lists
pub same_arrays : {a b c d s l a' b' c' d' s' l' : List ℕ} → a ≡ a' → b ≡ b' → c ≡ c' → d ≡ d' → s ≡ s' → l ≡ l'
    → arrays a b c d s l ≡ arrays a' b' c' d' s' l'
same_arrays p q r u v w = λ i. arrays (p i) (q i) (r i) (u i) (v i) (w i)

-- opening's refusal
pub list_refused : (e : Edition) (f : List ℕ) (a : Arrays) (n : ℕ) (v : List ℕ) → refused n v ≡ opening e f
    → Lists e f a a (refused n v)
unfolding listing
list_refused e f a n v q = record { answer = rw (← q); lent = rw (← q) }

-- opening gave these tables
pub as_opened : {e : Edition} {f : List ℕ} {o : Opening} → gives o ≡ opening e f → OpenedAs e f o.tables
as_opened {e} {f} {o} q = record { beyond = o.beyond; given = q }

module _ {e : Edition} {f : List ℕ} {t : Tables} (o : OpenedAs e f t) where
  -- an opened file's edition passes, so that its counts are bounded
  pub opened_counts : CountsFit e
  unfolding opening
  opened_counts =
      let c = edition_counts e (test_passed (ok_edition e) 3 [] _ _ (sym o.given)).0 in
      let b = c.0 in
      let n = c.1.0 in
      let s = c.1.1 in
      (omega arith, (omega arith, s))

  -- an array is too short
  pub list_short : (a : Arrays) (w : ListRefusal) → says_listed (Err w) ≡ room_for e (rooms_of a)
      → Lists e f a a (says_listed (Err w))
  unfolding listing
  list_short a w = by_cases w
    where
      refused_room : (n : ℕ) (v : List ℕ) → refused n v ≡ room_for e (rooms_of a) → Lists e f a a (refused n v)
      refused_room n v q = record { answer = rw (← o.given, ← q); lent = rw (← o.given, ← q) }

      by_cases : (r : ListRefusal) → says_listed (Err r) ≡ room_for e (rooms_of a) → Lists e f a a (says_listed (Err r))
      by_cases (L.File r) q = refused_room _ _ q
      by_cases (L.Room n) q = refused_room _ _ q

  -- the states stand in the arrays
  pub list_states : (a c : Arrays) → gives tt ≡ room_for e (rooms_of a) → c ≡ arrays_after a (gives (states_of e f))
      → Lists e f a c (gives tt)
  unfolding listing
  list_states a c q w = record { answer = rw (← o.given, ← q); lent = rw (← o.given, ← q) w }
