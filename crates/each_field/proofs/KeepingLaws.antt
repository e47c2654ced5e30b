-- Laws of the loop over fields, by what is kept of them: what is kept of the fields passed, one more, and the end.
-- Assumes nothing.
use mathlib.Core.Path.{◌≡◌, refl, ◌∙◌}
use mathlib.Core.List.{List}
use Prim.Native.Nat.{ℕ, ◌+◌}
use Rattle.std.specs.Prelude.{Some, None, Ok, Err}
use Rattle.edition.specs.declared.Edition.{Edition}
use Rattle.text.specs.declared.Line.TheVariants.{End, Column, Indented}
use Rattle.text.specs.declared.Judged.{Judged}
use Rattle.text.specs.declared.TextRefusal.{TextRefusal}
use Rattle.text.specs.Lines.{next_at}
use Rattle.text.specs.Describing.{judging}
use Rattle.judge.specs.Judged.{SaidIn, says_judged}
use Rattle.kept_states.specs.declared.StateArrays.{StateArrays}
use Rattle.kept_states.specs.States.{held_in}
use Rattle.each_field.specs.declared.Keeping.{Keeping}
use Rattle.each_field.specs.declared.Keeping.TheVariants as K
use Rattle.each_field.specs.Each.{uses_said}
use Rattle.each_field.specs.Keeping.{SameLent, Asks, AsksField, KeepsField, Comes}
use Rattle.each_field.proofs.WalkLaws.{Walking, walk_start, walk_end, walk_column, walk_refused, walk_go}
use Rattle.each_field.proofs.RecordLaws.{Checking, check_start, check_end, check_column, check_refused, check_fits, check_go}

pub same_itself : (k : Keeping) → SameLent k k
same_itself K.States = tt
same_itself (K.Uses b) = (refl, refl)

pub same_on : (k l m : Keeping) → SameLent k l → SameLent l m → SameLent k m
same_on K.States K.States K.States p q = tt
same_on K.States K.States (K.Uses d) p q = absurd q
same_on K.States (K.Uses c) m p q = absurd p
same_on (K.Uses b) K.States m p q = absurd p
same_on (K.Uses b) (K.Uses c) K.States p q = absurd q
same_on (K.Uses b) (K.Uses c) (K.Uses d) p q = (q.0 ∙ p.0, q.1 ∙ p.1)

-- what is kept of the fields from at to i
abbrev pub Going : Edition → List ℕ → (at : ℕ) (before : Keeping) → StateArrays → (uses i : ℕ) (now : Keeping)
    → StateArrays → (count : ℕ) → Type 0
Going e t at K.States s uses i K.States z count = Walking e at i count (held_in s t) (held_in z t)
Going e t at K.States s uses i (K.Uses c) z count = ⊥
Going e t at (K.Uses b) s uses i K.States z count = ⊥
Going e t at (K.Uses b) s uses i (K.Uses c) z count = Checking e t at b.now uses i c.now count

pub going_start : (e : Edition) (t : List ℕ) (at : ℕ) (k : Keeping) (s : StateArrays) (uses : ℕ) → Asks e t at k s uses
    → Going e t at k s uses at k s uses
going_start e t at K.States s uses a = walk_start e at uses (held_in s t) a
going_start e t at (K.Uses b) s uses a = check_start e t at b.now uses a.1.1.1 a.1.0

pub going_end : (e : Edition) (t : List ℕ) (at : ℕ) (k : Keeping) (s : StateArrays) (uses i : ℕ) (n : Keeping)
    (z : StateArrays) (count : ℕ)
    → Asks e t at k s uses → Going e t at k s uses i n z count → next_at t i ≡ End
    → Comes e t at k s uses n z (Ok (record { uses = count; next = None }))
going_end e t at K.States s uses i K.States z count a g q = walk_end e at i count (held_in s t) (held_in z t) g q
going_end e t at K.States s uses i (K.Uses c) z count a g q = absurd g
going_end e t at (K.Uses b) s uses i K.States z count a g q = absurd g
going_end e t at (K.Uses b) s uses i (K.Uses c) z count a g q =
    check_end e t at b.now uses i c.now count a.0 a.1.1.0 g q

pub going_column : (e : Edition) (t : List ℕ) (at : ℕ) (k : Keeping) (s : StateArrays) (uses i : ℕ) (n : Keeping)
    (z : StateArrays) (count p : ℕ)
    → Asks e t at k s uses → Going e t at k s uses i n z count → next_at t i ≡ Column p
    → Comes e t at k s uses n z (Ok (record { uses = count; next = Some p }))
going_column e t at K.States s uses i K.States z count p a g q =
    walk_column e at i count (held_in s t) (held_in z t) g p q
going_column e t at K.States s uses i (K.Uses c) z count p a g q = absurd g
going_column e t at (K.Uses b) s uses i K.States z count p a g q = absurd g
going_column e t at (K.Uses b) s uses i (K.Uses c) z count p a g q =
    check_column e t at b.now uses i c.now count a.0 a.1.1.0 g p q

pub going_refused : (e : Edition) (t : List ℕ) (at : ℕ) (k : Keeping) (s : StateArrays) (uses i : ℕ) (n : Keeping)
    (z : StateArrays) (count p : ℕ) (why : TextRefusal)
    → Asks e t at k s uses → Going e t at k s uses i n z count → next_at t i ≡ Indented p
    → says_judged t p (Err why) ≡ judging e t p → Comes e t at k s uses n z (Err (record { why = why; at = p }))
going_refused e t at K.States s uses i K.States z count p why a g q r =
    walk_refused e at i count (held_in s t) (held_in z t) g p why q r
going_refused e t at K.States s uses i (K.Uses c) z count p why a g q r = absurd g
going_refused e t at (K.Uses b) s uses i K.States z count p why a g q r = absurd g
going_refused e t at (K.Uses b) s uses i (K.Uses c) z count p why a g q r =
    check_refused e t at b.now uses i c.now count a.0 a.1.1.0 g p q why r

-- what keeping one field asks for
pub going_asks : (e : Edition) (t : List ℕ) (at : ℕ) (k : Keeping) (s : StateArrays) (uses i : ℕ) (n : Keeping)
    (z : StateArrays) (count p : ℕ) (j : Judged)
    → Asks e t at k s uses → Going e t at k s uses i n z count → next_at t i ≡ Indented p
    → says_judged t p (Ok j) ≡ judging e t p → SaidIn e t j.said → AsksField e t j.said p n z count
going_asks e t at K.States s uses i K.States z count p j a g q r h = (h, g.holds)
going_asks e t at K.States s uses i (K.Uses c) z count p j a g q r h = absurd g
going_asks e t at (K.Uses b) s uses i K.States z count p j a g q r h = absurd g
going_asks e t at (K.Uses b) s uses i (K.Uses c) z count p j a g q r h =
    check_fits e t at b.now uses i c.now count a.0 a.1.1.0 g p q j r

-- and what it comes to
pub going_on : (e : Edition) (t : List ℕ) (at : ℕ) (k : Keeping) (s : StateArrays) (uses i : ℕ) (n : Keeping)
    (z : StateArrays) (count p : ℕ) (j : Judged) (m : Keeping) (y : StateArrays) (more : ℕ)
    → Asks e t at k s uses → Going e t at k s uses i n z count → next_at t i ≡ Indented p
    → says_judged t p (Ok j) ≡ judging e t p → KeepsField e t j.said p n z count m y → more ≡ count + uses_said j.said
    → Going e t at k s uses j.next m y more
going_on e t at K.States s uses i K.States z count p j K.States y more a g q r h w =
    walk_go e at i count (held_in s t) (held_in z t) g p j (held_in y t) more q r refl h w
going_on e t at K.States s uses i K.States z count p j (K.Uses d) y more a g q r h w = absurd h
going_on e t at K.States s uses i (K.Uses c) z count p j m y more a g q r h w = absurd g
going_on e t at (K.Uses b) s uses i K.States z count p j m y more a g q r h w = absurd g
going_on e t at (K.Uses b) s uses i (K.Uses c) z count p j K.States y more a g q r h w = absurd h
going_on e t at (K.Uses b) s uses i (K.Uses c) z count p j (K.Uses d) y more a g q r h w =
    check_go e t at b.now uses i c.now count a.0 a.1.1.0 g p q j r d.now more h w
