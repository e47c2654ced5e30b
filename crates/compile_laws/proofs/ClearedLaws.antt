-- The arrays of the compiler at first: all states are absent.
-- Assumes nothing.
use mathlib.Core.Path.{◌≡◌, refl, ap, ◌∙◌}
use mathlib.Core.Bool.{true}
use mathlib.Core.List.{List, [], ◌∷◌}
use Prim.Native.Nat.{ℕ, zero, suc}
use native.Mathlib.Omega.{arith}
use lib.ListN.{get_or, replicate}
use Rattle.base.specs.Tabulate.{tabulate}
use Rattle.base.proofs.TabulateLaws.{tabulate_ext}
use Rattle.edition.specs.declared.Edition.{Edition}
use Rattle.edition.specs.Edition.{ok_edition}
use Rattle.entry.specs.State.{State, absent}
use Rattle.entry.specs.Writing.{Handed, state_of}
use Rattle.entry.specs.Handed.{handed}
use Rattle.text.specs.Strings.{read_at, read_bytes}
use Rattle.text.specs.Describing.{bare}
use Rattle.compile_laws.specs.Held.{text_entry, Holds}
use Rattle.entry_laws.specs.Merge.{edition_counts}

abbrev pub zeros : ℕ → List ℕ
zeros n = replicate n 0

pub zero_at : (n i : ℕ) → get_or (zeros n) i 0 ≡ 0
zero_at zero i = refl
zero_at (suc n) zero = refl
zero_at (suc n) (suc i) = zero_at n i

all_absent : {A : Type 0} (c : ℕ → A) (kinds : List ℕ) (n : ℕ) → ((i : ℕ) → get_or kinds i 0 ≡ 0)
    → tabulate (λ i. state_of (get_or kinds i 0) (c i)) n ≡ replicate n absent
unfolding tabulate state_of
all_absent c kinds zero z = refl
all_absent {A} c kinds (suc n) z =
    tabulate_ext (λ i. state_of (get_or kinds i 0) (c i)) none (suc n) (λ i l. rw (z i))
    ∙ same (suc n)
  where
    none : ℕ → State A
    none i = absent

    same : (m : ℕ) → tabulate none m ≡ replicate m absent
    same zero = refl
    same (suc m) = ap (λ l. absent ∷ l) (same m)

module _ (e : Edition) (t : List ℕ) where
  abbrev pub cleared : List ℕ → Handed
  cleared n = handed n (zeros 64) (zeros 64) (zeros 64) (zeros 512) (zeros 512) (zeros 512) t

  pub cleared_entry : (n : List ℕ) → text_entry e (cleared n) ≡ bare e n
  cleared_entry n =
      let b = all_absent (λ i. tt) (zeros 64) e.booleans (zero_at 64) in
      let m = all_absent (λ i. get_or (zeros 64) i 0) (zeros 64) e.numbers (zero_at 64) in
      let s = all_absent (λ i. read_bytes (read_at t (get_or (zeros 512) i 0))) (zeros 512) e.strings (zero_at 512) in
      λ i. record { names = n; booleans = b i; numbers = m i; strings = s i }

  pub cleared_holds : ok_edition e ≡ true → Holds e (cleared [])
  cleared_holds o =
      let f = edition_counts e o in
      record {
        given =
            record {
              booleans = f.0;
              number_kinds = f.1.0;
              number_values = f.1.0;
              string_kinds = f.1.1;
              string_starts = f.1.1;
              string_lengths = f.1.1;
            };
        strings = λ i l k. let z = zero_at 512 i in absurd (let y : ⊥ = omega arith in y);
      }

-- what holds without names holds under every name
pub holds_named : (e : Edition) (n bk nk nv sk ss sl t : List ℕ) → Holds e (handed [] bk nk nv sk ss sl t)
    → Holds e (handed n bk nk nv sk ss sl t)
holds_named e n bk nk nv sk ss sl t h =
    let g = h.given in
    record {
      given =
          record {
            booleans = g.booleans;
            number_kinds = g.number_kinds;
            number_values = g.number_values;
            string_kinds = g.string_kinds;
            string_starts = g.string_starts;
            string_lengths = g.string_lengths;
          };
      strings = h.strings;
    }
