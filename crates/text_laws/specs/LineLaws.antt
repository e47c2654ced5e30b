-- Blank lines and comment lines: the laws of skipping them.
-- Assumes nothing.
use Rattle.std.specs.Prelude.{◌≡◌, List, ℕ, ◌+◌, ◌-◌, ◌≤◌, ◌<◌, eqb, leb, length, get_or}
use Rattle.std.proofs.Common.{subst, arith}
use borrow.Author.Tests.{le-leb, lt-leb, leb-false, eq-eqb, ne_eqb, eqb-true}
use Rattle.base.proofs.IfLaws.{if_both}
use Rattle.base.specs.Loop.{Turn, go, stop}
use Rattle.base.proofs.LoopLaws.{loop_go, loop_stop, loop_ind}
use Rattle.text.specs.declared.ByteClass.TheVariants as C
use Rattle.text.specs.declared.Line.{Line}
use Rattle.text.specs.declared.Line.TheVariants.{End, Column, Indented}
use Rattle.text.specs.Bytes.{run_end}
use Rattle.text.specs.Lines.{line_turn, line_at, next_at}
use Rattle.text_laws.specs.Runs.{run_ge}

-- the first nonblank
abbrev nonblank : List ℕ → ℕ → ℕ
nonblank t i = run_end C.Blank t i

-- a turn that goes on goes forward, within the text
lines_falls : (t : List ℕ) (i j : ℕ) → line_turn t i ≡ go j → length t - j < length t - i
unfolding line_turn
lines_falls t i j =
    if_both Falls (leb (length t) b) (λ _ e. clash e)
    (λ l. if_both Falls (eqb (get_or t b 0) 10)
    (λ _ e. let k : b + 1 ≡ j = cc in let h = run_ge C.Blank t i in let m = leb-false (length t) b l in omega arith)
    (λ _. if_both Falls (eqb (get_or t b 0) 35)
    (λ _ e. let k : run_end C.Line t b + 1 ≡ j = cc in let h = run_ge C.Blank t i in let m = leb-false (length t) b l
    in let n = run_ge C.Line t b in omega arith)
    (λ _. if_both Falls (eqb b i) (λ _ e. clash e) (λ _ e. clash e))))
  where
    Falls : Turn ℕ Line → Type 0
    Falls u = u ≡ go j → length t - j < length t - i

    b : ℕ
    b = nonblank t i

    clash : {r : Line} → ◌≡◌ {A = Turn ℕ Line} (stop r) (go j) → length t - j < length t - i
    clash e = let z : ◌≡◌ {A = ℕ} 0 1 = cc in omega arith

-- one line, whose first nonblank is at j
module _ (t : List ℕ) (i j : ℕ) (at : j ≡ run_end C.Blank t i) where
  pub lines_end : length t ≤ j → line_at t i ≡ End
  unfolding line_at line_turn
  lines_end h = loop_stop _ (line_turn t) (lines_falls t) End i End (rw (← at) (simp (le-leb _ _ h)))

  module _ (l : j < length t) where
    pub lines_blank : get_or t j 0 ≡ 10 → line_at t i ≡ line_at t (j + 1)
    unfolding line_at line_turn
    lines_blank h = loop_go _ (line_turn t) (lines_falls t) End i (j + 1) (rw (← at) (simp (lt-leb _ _ l, h)))

    module _ (n : get_or t j 0 ≡ 10 → ⊥) where
      pub lines_comment : get_or t j 0 ≡ 35 → line_at t i ≡ line_at t (run_end C.Line t j + 1)
      unfolding line_at line_turn
      lines_comment h =
          loop_go _ (line_turn t) (lines_falls t) End i (run_end C.Line t j + 1) (rw (← at) (simp (lt-leb _ _ l, h)))

      module _ (m : get_or t j 0 ≡ 35 → ⊥) where
        pub lines-column : j ≡ i → line_at t i ≡ Column i
        unfolding line_at line_turn
        lines-column h =
            loop_stop _ (line_turn t) (lines_falls t) End i (Column i) (rw (← at)
            (simp (lt-leb _ _ l, ne_eqb _ _ n, ne_eqb _ _ m, eq-eqb _ _ h)))

        pub lines-indented : (j ≡ i → ⊥) → line_at t i ≡ Indented j
        unfolding line_at line_turn
        lines-indented h =
            loop_stop _ (line_turn t) (lines_falls t) End i (Indented j) (rw (← at)
            (simp (lt-leb _ _ l, ne_eqb _ _ n, ne_eqb _ _ m, ne_eqb _ _ h)))

-- what stands past lines stands past their start, and within the text
abbrev pub LineAfter : List ℕ → ℕ → Line → Type 0
LineAfter t i End = Unit {0}
LineAfter t i (Column p) = (i ≤ p) × (p < length t)
LineAfter t i (Indented p) = (i ≤ p) × (p < length t)

after_weaken : (t : List ℕ) (i j : ℕ) → i ≤ j → (r : Line) → LineAfter t j r → LineAfter t i r
after_weaken t i j h End a = tt
after_weaken t i j h (Column p) a = omega arith
after_weaken t i j h (Indented p) a = omega arith

pub lines_after : (t : List ℕ) (i : ℕ) → LineAfter t i (line_at t i)
unfolding line_at line_turn
lines_after t =
    loop_ind _ (line_turn t) (lines_falls t) End (λ (i : ℕ) (r : Line). LineAfter t i r) at_stop
    (λ i j r e h. after_weaken t i j (let l = lines_falls t i j e in omega arith) r h)
  where
    clash : {A : Type 0} → ◌≡◌ {A = ℕ} 0 1 → A
    clash z = absurd (omega arith)

    at_stop : (i : ℕ) (r : Line) → line_turn t i ≡ stop r → LineAfter t i r
    at_stop i r =
        let b = nonblank t i in
        if_both (λ (u : Turn ℕ Line). u ≡ stop r → LineAfter t i r) (leb (length t) b)
        (λ _ e. let p : End ≡ r = cc in subst (LineAfter t i) p tt)
        (λ l. if_both (λ (u : Turn ℕ Line). u ≡ stop r → LineAfter t i r) (eqb (get_or t b 0) 10) (λ _ e. clash (cc))
        (λ _. if_both (λ (u : Turn ℕ Line). u ≡ stop r → LineAfter t i r) (eqb (get_or t b 0) 35) (λ _ e. clash (cc))
        (λ _. if_both (λ (u : Turn ℕ Line). u ≡ stop r → LineAfter t i r) (eqb b i)
        (λ q e. let p : Column i ≡ r = cc in let m = eqb-true b i q in let n = leb-false (length t) b l
        in subst (LineAfter t i) p (omega arith))
        (λ q e. let p : Indented b ≡ r = cc in let m = run_ge C.Blank t i in let n = leb-false (length t) b l
        in subst (LineAfter t i) p (omega arith)))))

pub next_after : (t : List ℕ) (i : ℕ) → LineAfter t i (next_at t i)
unfolding next_at
next_after t i =
    let b = nonblank t i in
    if_both (LineAfter t i) (leb (length t) b) (λ _. tt)
    (λ l. if_both (LineAfter t i) (eqb (get_or t b 0) 10)
    (λ _. after_weaken t i (b + 1) (let h = run_ge C.Blank t i in omega arith) (line_at t (b + 1))
    (lines_after t (b + 1)))
    (λ _. (run_ge C.Blank t i, leb-false (length t) b l)))
