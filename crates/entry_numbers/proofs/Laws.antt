-- The slots beyond the edition are those that opening gives; parts that are given lie in the file.
-- Assumes nothing.
use mathlib.Core.Path.{◌≡◌, refl, sym, ap, ◌∙◌, subst}
use mathlib.Core.Bool.{true}
use mathlib.Core.List.{List, []}
use Prim.Native.Nat.{ℕ, ◌+◌, ◌≤◌}
use native.Mathlib.Omega.{arith}
use lib.ListN.{length}
use Rattle.edition.specs.declared.Edition.{Edition}
use Rattle.edition.specs.declared.Place.{Place}
use Rattle.edition.specs.Edition.{ok_edition}
use Rattle.entry.specs.declared.Tables.{Tables}
use Rattle.entry.specs.declared.Beyond.{Beyond}
use Rattle.std.specs.Prelude.{Option, Some, None, Result, Ok, Err}
use Rattle.entry.specs.declared.Part.{Part}
use Rattle.entry.specs.declared.FileRefusal.{FileRefusal}
use Rattle.entry.specs.declared.Opening.{Opening}
use Rattle.entry.specs.declared.State as S
use Rattle.std.specs.Result.{result_ok}
use Rattle.base.specs.Answer.{Answer, refused, gives, map_answer, is_given}
use Rattle.entry.specs.Layout.{sizes_of, beyond_of}
use Rattle.entry.specs.Reading.{reading}
use Rattle.entry.specs.Asking.{opening_of, opening, asking, part_given, names_given}
use Rattle.entry.specs.Says.{says_asked, says_file, says_state}
use Rattle.entry_laws.specs.Accepted.{test_passed, reading_accepted}
use Rattle.entry_laws.specs.Asked.{asking_gives}
use Rattle.opened_file.proofs.Laws.{opened_accepted, names_inside, string_inside}
use Rattle.entry_numbers.specs.declared.EntryNumbers.{EntryNumbers}
use Rattle.entry_numbers.specs.Entries.{OpenedAs, asked, entry_names, entry_string}
use Rattle.entry_numbers.proofs.EntryLaws.{asked_given}

pub beyond_given : (e : Edition) (f : List ℕ) (t : Tables) (b : Beyond) → gives (record { tables = t; beyond = b }) ≡ opening e f → gives b ≡ asking e f true (beyond_of e (sizes_of f))
unfolding opening
beyond_given e f t b g =
    let x : Opening = record { tables = t; beyond = b } in
    let o : is_given (opening e f) ≡ true = ap is_given (sym g) in
    let p : map_answer (opening_of e) (reading f) ≡ gives x = (test_passed (ok_edition e) 3 [] (map_answer (opening_of e) (reading f)) x (sym g)).1 in
    let q : gives (opening_of e (sizes_of f)) ≡ gives x = ap (map_answer (opening_of e)) (sym (reading_accepted f (opened_accepted e f o))) ∙ p in
    let z : opening_of e (sizes_of f) ≡ x = cc in
    sym (asking_gives e f true (beyond_of e (sizes_of f)) b o refl (ap (λ (y : Opening). y.beyond) z))

-- what opening gives, where it is accepted
pub given_by : (e : Edition) (f : List ℕ) (r : Result Opening FileRefusal) → says_file r ≡ opening e f → (o : Opening)
    → Some o ≡ result_ok r → gives o ≡ opening e f
given_by e f (Ok x) q o s = let m : o ≡ x = cc in ap gives m ∙ q
given_by e f (Err y) q o s = absurd (cc)

-- ---- what is asked of an entry that has the numbers which opening gives, and of any other

module _ {A : Type 0} (f : List ℕ) (n : EntryNumbers) (x : Answer A) where
  pub asked_opened : (r : Result Opening FileRefusal) → OpenedAs f n (Some r) → asked f n x ≡ x
  unfolding asked
  asked_opened r h = rw h.1

  pub asked_other : OpenedAs f n None → asked f n x ≡ refused 17 []
  unfolding asked
  asked_other h = rw h

-- ---- parts that are given lie in the file, and so does the empty one

pub inside_same : {p q : Part} {n : ℕ} → p ≡ q → p.start + p.length ≤ n → q.start + q.length ≤ n
inside_same {n = n} h = subst (λ (r : Part). r.start + r.length ≤ n) h

pub names_within : (f : List ℕ) (n : EntryNumbers) (x : Option Part) → says_asked x ≡ entry_names f n
    → (names_given (says_asked x)).start + (names_given (says_asked x)).length ≤ length f
names_within f n (Some q) g = names_inside n.edition f q (asked_given f n _ q g)
names_within f n None g = omega arith

pub string_within : (f : List ℕ) (n : EntryNumbers) (p : Place) (x : Option (S.State Part)) → says_state x ≡ entry_string f n p
    → (part_given (says_state x)).start + (part_given (says_state x)).length ≤ length f
string_within f n p (Some S.TheVariants.Absent) g = omega arith
string_within f n p (Some S.TheVariants.Cancelled) g = omega arith
string_within f n p (Some (S.TheVariants.Present q)) g = string_inside n.edition f p q (asked_given f n _ _ g)
string_within f n p None g = omega arith
