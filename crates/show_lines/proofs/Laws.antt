-- Laws that the proofs cite: the length of a part, the counts of an edition, the list that has the k-th capability.
-- Assumes nothing.
use mathlib.Core.Path.{◌≡◌, sym}
use mathlib.Core.List.{List, []}
use Prim.Native.Nat.{ℕ, ◌+◌, ◌-◌, ◌≤◌, ◌<◌}
use native.Mathlib.Omega.{arith}
use lib.ListN.{length, length-take, length-drop}
use denote.Ref.{Bor}
use borrow.Author.Tests.{lt-ltb, le-ltb}
use Rattle.base.specs.Answer.{gives}
use Rattle.edition.specs.declared.Edition.{Edition}
use Rattle.edition.specs.Edition.{place, ok_edition, booleans_most, numbers_most, strings_most}
use Rattle.entry.specs.declared.Part.{Part}
use Rattle.entry.specs.Asking.{opening}
use Rattle.entry.specs.declared.Opening.{Opening}
use Rattle.entry_laws.specs.Accepted.{test_passed}
use Rattle.entry_laws.specs.Merge.{edition_counts}
use Rattle.states.specs.Held.{IsPart}
use Rattle.number_lines.specs.Numbers.{number_line}
use Rattle.show_lines.specs.Lines.{boolean_line, string_line, capability_line}

-- what lies in a file is no longer than the file
pub part_short : {whole part : Bor (List ℕ)} {p : Part} → IsPart whole part p → length part.now ≤ length whole.now
part_short h = rw h.bytes (simp (length-take, length-drop) (omega arith))

-- ---- an edition that a file opened in

pub opened_counts : (e : Edition) (f : List ℕ) (o : Opening) → gives o ≡ opening e f
    → (e.booleans ≤ booleans_most) × ((e.numbers ≤ numbers_most) × (e.strings ≤ strings_most))
unfolding opening
opened_counts e f o g = edition_counts e (test_passed (ok_edition e) 3 [] _ o (sym g)).0

-- ---- the k-th capability, by the list that has it

module _ (e : Edition) (f : List ℕ) (k : ℕ) where
  pub capability_boolean : k < e.booleans → capability_line e f k ≡ boolean_line e f (place k)
  unfolding capability_line
  capability_boolean h = rw (lt-ltb k e.booleans h)

  module _ (b : e.booleans ≤ k) where
    pub capability_number_lem : k - e.booleans < e.numbers → capability_line e f k ≡ number_line e f (place (k - e.booleans))
    unfolding capability_line
    capability_number_lem h = rw (le-ltb k e.booleans b, lt-ltb k (e.booleans + e.numbers) (omega arith))

    pub capability_string : e.numbers ≤ k - e.booleans → capability_line e f k ≡ string_line e f (place (k - e.booleans - e.numbers))
    unfolding capability_line
    capability_string h =
        let q : k - (e.booleans + e.numbers) ≡ k - e.booleans - e.numbers = omega arith in
        rw (le-ltb k e.booleans b, le-ltb k (e.booleans + e.numbers) (omega arith), q)
