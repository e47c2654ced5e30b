-- The short way for the usual line gives what the definition says.
-- Assumes nothing.
use mathlib.Core.Path.{◌≡◌, refl, sym, ap, ◌∙◌}
use mathlib.Core.Bool.{true, ◌&&◌}
use mathlib.Core.List.{List}
use Prim.Native.Nat.{ℕ, ◌+◌, ◌<◌}
use native.Mathlib.Omega.{arith}
use lib.Dec.{eqb, leb}
use lib.ListN.{length, get_or}
use borrow.Author.Tests.{eqb-true, leb-true, ne_eqb, lt-leb}
use Rattle.base.proofs.IfLaws.{and_left, and_right}
use Rattle.text.specs.declared.ByteClass.TheVariants as C
use Rattle.text.specs.declared.Line.TheVariants.{Indented}
use Rattle.text.specs.Bytes.{is_blank, is_in, run_end}
use Rattle.text.specs.Lines.{next_at}
use Rattle.text_laws.specs.Runs.{run_step, run_hit, within}
use Rattle.text_laws.specs.LineLaws.{lines-indented}
use Rattle.text_lines.specs.Usual.{is_usual}

pub usual_within : (t : List ℕ) (i : ℕ) → is_usual t i ≡ true → i + 2 < length t
unfolding is_usual
usual_within t i h =
    within (λ b. leb 36 b) refl t (i + 2)
    (and_right (eqb (get_or t (i + 1) 0) 9) (leb 36 (get_or t (i + 2) 0)) (and_right (eqb (get_or t i 0) 10) (eqb (get_or t (i + 1) 0) 9 && leb 36 (get_or t (i + 2) 0)) h))

pub next_usual : (t : List ℕ) (i : ℕ) → is_usual t i ≡ true → next_at t i ≡ Indented (i + 2)
unfolding next_at is_usual is_in is_blank
next_usual t i h =
    let e = eqb-true (get_or t i 0) 10 (and_left (eqb (get_or t i 0) 10) _ h) in
    let r = and_right (eqb (get_or t i 0) 10) (eqb (get_or t (i + 1) 0) 9 && leb 36 (get_or t (i + 2) 0)) h in
    let f = eqb-true (get_or t (i + 1) 0) 9 (and_left (eqb (get_or t (i + 1) 0) 9) (leb 36 (get_or t (i + 2) 0)) r) in
    let g = leb-true 36 (get_or t (i + 2) 0) (and_right (eqb (get_or t (i + 1) 0) 9) (leb 36 (get_or t (i + 2) 0)) r) in
    let l = usual_within t i h in
    let one : i + 1 + 1 ≡ i + 2 = omega arith in
    let tab : run_end C.Blank t (i + 1) ≡ i + 2 =
    run_step C.Blank t (i + 1) (rw f) (omega arith)
    ∙ ap (run_end C.Blank t) one
    ∙ run_hit C.Blank t (i + 2) (rw (ne_eqb (get_or t (i + 2) 0) 32 (λ z. omega arith), ne_eqb (get_or t (i + 2) 0) 9 (λ z. omega arith))) l in
    rw (run_hit C.Blank t i (rw e) (omega arith), lt-leb (length t) i (omega arith), e)
    (lines-indented t (i + 1) (i + 2) (sym tab) l (λ z. omega arith) (λ z. omega arith) (λ z. omega arith))
