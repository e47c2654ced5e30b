-- Laws of keeping: what a field says is put over the states so far, once over every kind of content.
-- Assumes nothing.
use mathlib.Core.Path.{◌≡◌, refl, sym, ap, ap₂, ◌∙◌, subst}
use mathlib.Core.Bool.{Bool, true, false}
use mathlib.Core.List.{List, [], ◌∷◌}
use Prim.Native.Nat.{ℕ, zero, suc, ◌<◌, ◌≤◌}
use native.Mathlib.Nat.{not-suc-le-zero, le_of_suc-le-suc}
use native.Mathlib.Decide.{ℕ_discrete}
use native.Mathlib.Omega.{arith}
use lib.Dec.{eqb}
use lib.ListN.{length, get_or, set, length-set}
use lib.Seq.{get_or-set_same, get_or-set_other}
use borrow.Author.Tests.{eq-eqb, ne_eqb, eqb-true, eqb-false}
use Rattle.base.specs.If.{when◌then◌else◌}
use Rattle.base.specs.Tabulate.{tabulate}
use Rattle.base.proofs.TabulateLaws.{get_d_tabulate, tabulate_ext}
use Rattle.edition.specs.declared.Edition.{Edition}
use Rattle.edition.specs.declared.Place.{Place}
use Rattle.entry.specs.State.{State, absent, cancelled, present}
use Rattle.entry.specs.Writing.{state_of}
use Rattle.entry.specs.Merging.{over}
use Rattle.text.specs.declared.Said.{Said}
use Rattle.text.specs.declared.Said.TheVariants as S
use Rattle.text.specs.Strings.{read_at, read_bytes}
use Rattle.text.specs.Describing.{standing, with_saying}
use Rattle.entry.specs.Handed.{handed}
use Rattle.write_laws.specs.File.{Given}
use Rattle.compile_laws.specs.Held.{ShortAt, Holds, kept, Keeps}

-- ---- a place that is kept

module _ (kinds : List ℕ) (p : ℕ) where
  kept_first : (xs : List ℕ) (v : ℕ) → get_or kinds p 0 ≡ 0 → kept kinds xs p v ≡ set xs p v
  unfolding kept
  kept_first xs v e = rw (eq-eqb _ _ e)

  kept_later : (xs : List ℕ) (v : ℕ) → (get_or kinds p 0 ≡ 0 → ⊥) → kept kinds xs p v ≡ xs
  unfolding kept
  kept_later xs v e = rw (ne_eqb _ _ e)

  -- the same by the test
  pub test_first : (r : Bool) (xs : List ℕ) (v : ℕ) → r ≡ eqb (get_or kinds p 0) 0 → r ≡ true → kept kinds xs p v ≡ set xs p v
  test_first r xs v q h = kept_first xs v (eqb-true _ _ (sym q ∙ h))

  pub test_later : (r : Bool) (xs : List ℕ) (v : ℕ) → r ≡ eqb (get_or kinds p 0) 0 → r ≡ false → kept kinds xs p v ≡ xs
  test_later r xs v q h = kept_later xs v (eqb-false _ _ (sym q ∙ h))

  pub length_kept : (xs : List ℕ) (v : ℕ) → length (kept kinds xs p v) ≡ length xs
  length_kept xs v = elim (ℕ_discrete (get_or kinds p 0) 0) [
    | yes e ↦ ap length (kept_first xs v e) ∙ length-set xs p v
    | no e ↦ ap length (kept_later xs v e)
  ]

  kept_other : (xs : List ℕ) (v i : ℕ) → (i ≡ p → ⊥) → get_or (kept kinds xs p v) i 0 ≡ get_or xs i 0
  kept_other xs v i n = elim (ℕ_discrete (get_or kinds p 0) 0) [
    | yes e ↦ ap (λ (l : List ℕ). get_or l i 0) (kept_first xs v e) ∙ get_or-set_other xs p i v 0 n
    | no e ↦ ap (λ (l : List ℕ). get_or l i 0) (kept_later xs v e)
  ]

  kept_same : (xs : List ℕ) (v : ℕ) → p < length xs → get_or kinds p 0 ≡ 0 → get_or (kept kinds xs p v) p 0 ≡ v
  kept_same xs v l e = ap (λ (m : List ℕ). get_or m p 0) (kept_first xs v e) ∙ get_or-set_same xs p v 0 l

  kept_old : (xs : List ℕ) (v : ℕ) → (get_or kinds p 0 ≡ 0 → ⊥) → get_or (kept kinds xs p v) p 0 ≡ get_or xs p 0
  kept_old xs v e = ap (λ (m : List ℕ). get_or m p 0) (kept_later xs v e)

-- ---- states

over_absent : {A : Type 0} (k : ℕ) (x : A) (s : State A) → k ≡ 0 → over (state_of k x) s ≡ s
unfolding over state_of
over_absent k x s e = rw (eq-eqb _ _ e)

over_given : {A : Type 0} (k : ℕ) (x : A) (s : State A) → (k ≡ 0 → ⊥) → over (state_of k x) s ≡ state_of k x
unfolding over state_of
over_given k x s e = rw (ne_eqb _ _ e) (by_test (eqb k 1))
  where
    by_test : (b : Bool) → over (when b then present x else cancelled) s ≡ (when b then present x else cancelled)
    by_test true = refl
    by_test false = refl

set_tabulate : {A : Type 0} (g h : ℕ → A) (n p : ℕ) → p < n → ((i : ℕ) → (i ≡ p → ⊥) → h i ≡ g i) → set (tabulate g n) p (h p) ≡ tabulate h n
unfolding tabulate
set_tabulate g h zero p l e = absurd (not-suc-le-zero l)
set_tabulate g h (suc n) zero l e =
    ap (λ xs. h 0 ∷ xs) (tabulate_ext (λ i. g (suc i)) (λ i. h (suc i)) n (λ i m. sym (e (suc i) (λ q. let z : ⊥ = omega arith in z))))
set_tabulate g h (suc n) (suc p) l e =
    ap₂ (λ x xs. x ∷ xs) (sym (e 0 (λ q. let z : ⊥ = omega arith in z)))
    (set_tabulate (λ i. g (suc i)) (λ i. h (suc i)) n p (le_of_suc-le-suc l) (λ i q. e (suc i) (λ r. q (let z : i ≡ p = omega arith in z))))

-- the state at one place put over by another, all others as they were
stands : {A : Type 0} (g h : ℕ → State A) (n : ℕ) (q : Place) (s : State A) → q.0 < n → ((i : ℕ) → (i ≡ q.0 → ⊥) → h i ≡ g i) → h q.0 ≡ over (g q.0) s
    → tabulate h n ≡ standing (tabulate g n) q s
unfolding standing
stands g h n q s l e m =
    sym (ap (λ (x : State _). set (tabulate g n) q.0 (over x s)) (get_d_tabulate g n q.0 absent l)
    ∙ ap (set (tabulate g n) q.0) (sym m)
    ∙ set_tabulate g h n q.0 l e)

-- the states by kinds and contents, where c gives the content of a value
module _ {A : Type 0} (c : ℕ → A) (kinds values : List ℕ) (q : Place) (k v n : ℕ) (l : q.0 < n) (a : n ≤ length kinds) (b : n ≤ length values) where
  pub keep_states : tabulate (λ i. state_of (get_or (kept kinds kinds q.0 k) i 0) (c (get_or (kept kinds values q.0 v) i 0))) n
      ≡ standing (tabulate (λ i. state_of (get_or kinds i 0) (c (get_or values i 0))) n) q (state_of k (c v))
  keep_states =
      stands (λ i. state_of (get_or kinds i 0) (c (get_or values i 0))) _ n q (state_of k (c v)) l
      (λ i d. ap₂ (λ (x y : ℕ). state_of x (c y)) (kept_other kinds q.0 kinds k i d) (kept_other kinds q.0 values v i d))
      (elim (ℕ_discrete (get_or kinds q.0 0) 0) [
        | yes e ↦ ap₂ (λ (x y : ℕ). state_of x (c y)) (kept_same kinds q.0 kinds k (omega arith) e) (kept_same kinds q.0 values v (omega arith) e)
            ∙ sym (over_absent (get_or kinds q.0 0) (c (get_or values q.0 0)) (state_of k (c v)) e)
        | no e ↦ ap₂ (λ (x y : ℕ). state_of x (c y)) (kept_old kinds q.0 kinds k e) (kept_old kinds q.0 values v e)
            ∙ sym (over_given (get_or kinds q.0 0) (c (get_or values q.0 0)) (state_of k (c v)) e)
      ])

-- what holds of each place that is present holds of them after a keep
module _ (P : ℕ → ℕ → Type 0) (kinds starts lengths : List ℕ) (p k s m n : ℕ) (l : p < n) (a : n ≤ length kinds) (b : n ≤ length starts) (d : n ≤ length lengths) where
  pub keep_each : ((i : ℕ) → i < n → get_or kinds i 0 ≡ 1 → P (get_or starts i 0) (get_or lengths i 0)) → (k ≡ 1 → P s m)
      → (i : ℕ) → i < n → get_or (kept kinds kinds p k) i 0 ≡ 1 → P (get_or (kept kinds starts p s) i 0) (get_or (kept kinds lengths p m) i 0)
  keep_each h w i j e = elim (ℕ_discrete i p) [
    | yes q ↦ subst (λ (r : ℕ). get_or (kept kinds kinds p k) r 0 ≡ 1 → P (get_or (kept kinds starts p s) r 0) (get_or (kept kinds lengths p m) r 0)) (sym q) at_place e
    | no q ↦ P-is (kept_other kinds p starts s i q) (kept_other kinds p lengths m i q) (h i j (sym (kept_other kinds p kinds k i q) ∙ e))
  ]
    where
      P-is : {x y u v : ℕ} → u ≡ x → v ≡ y → P x y → P u v
      P-is {x} {y} {u} {v} e₁ e₂ t = subst (λ (z : ℕ). P u z) (sym e₂) (subst (λ (z : ℕ). P z y) (sym e₁) t)

      at_place : get_or (kept kinds kinds p k) p 0 ≡ 1 → P (get_or (kept kinds starts p s) p 0) (get_or (kept kinds lengths p m) p 0)
      at_place t = elim (ℕ_discrete (get_or kinds p 0) 0) [
        | yes z ↦ P-is (kept_same kinds p starts s (omega arith) z) (kept_same kinds p lengths m (omega arith) z) (w (sym (kept_same kinds p kinds k (omega arith) z) ∙ t))
        | no z ↦ P-is (kept_old kinds p starts s z) (kept_old kinds p lengths m z) (h p l (sym (kept_old kinds p kinds k z) ∙ t))
      ]

-- ---- what a field says is kept

module _ (e : Edition) (bk nk nv sk ss sl t : List ℕ) (h : Holds e (handed [] bk nk nv sk ss sl t)) where
  g : Given e (handed [] bk nk nv sk ss sl t)
  g = h.given

  pub keeps_nothing : (said : Said) → said ≡ S.Nothing → Keeps e (λ n. handed n bk nk nv sk ss sl t) (λ n. handed n bk nk nv sk ss sl t) said
  unfolding with_saying
  keeps_nothing said u =
      subst (λ (x : Said). Keeps e (λ n. handed n bk nk nv sk ss sl t) (λ n. handed n bk nk nv sk ss sl t) x) (sym u) (record { holds = h; entry = λ n. refl })

  pub keeps_use : (said : Said) (i m : ℕ) → said ≡ S.Use i m
      → Keeps e (λ n. handed n bk nk nv sk ss sl t) (λ n. handed n bk nk nv sk ss sl t) said
  unfolding with_saying
  keeps_use said i m u =
      subst (λ (x : Said). Keeps e (λ n. handed n bk nk nv sk ss sl t) (λ n. handed n bk nk nv sk ss sl t) x) (sym u)
      (record { holds = h; entry = λ n. refl })

  pub keeps_boolean : (said : Said) (q : Place) (k : ℕ) (bk' : List ℕ) → q.0 < e.booleans → bk' ≡ kept bk bk q.0 k
      → said ≡ (S.Boolean q k) → Keeps e (λ n. handed n bk nk nv sk ss sl t) (λ n. handed n bk' nk nv sk ss sl t) said
  unfolding with_saying
  keeps_boolean said q k bk' l w u =
      subst (λ (x : Said). Keeps e (λ n. handed n bk nk nv sk ss sl t) (λ n. handed n bk' nk nv sk ss sl t) x) (sym u)
      (subst (λ (xs : List ℕ). Keeps e (λ n. handed n bk nk nv sk ss sl t) (λ n. handed n xs nk nv sk ss sl t) (S.Boolean q k)) (sym w)
      (record {
        holds =
            record {
              given =
                  record {
                    booleans = (let z = length_kept bk q.0 bk k in let y = g.booleans in omega arith);
                    number_kinds = g.number_kinds;
                    number_values = g.number_values;
                    string_kinds = g.string_kinds;
                    string_starts = g.string_starts;
                    string_lengths = g.string_lengths;
                  };
              strings = h.strings;
            };
        entry = λ n i. record {
          names = n;
          booleans = keep_states (λ (x : ℕ). tt) bk bk q k k e.booleans l g.booleans g.booleans i;
          numbers = tabulate (λ j. state_of (get_or nk j 0) (get_or nv j 0)) e.numbers;
          strings = tabulate (λ j. state_of (get_or sk j 0) (read_bytes (read_at t (get_or ss j 0)))) e.strings;
        };
      }))

  pub keeps_number : (said : Said) (q : Place) (k v : ℕ) (nk' nv' : List ℕ) → q.0 < e.numbers → nk' ≡ kept nk nk q.0 k → nv' ≡ kept nk nv q.0 v
      → said ≡ (S.Number q k v) → Keeps e (λ n. handed n bk nk nv sk ss sl t) (λ n. handed n bk nk' nv' sk ss sl t) said
  unfolding with_saying
  keeps_number said q k v nk' nv' l w₁ w₂ u =
      subst (λ (x : Said). Keeps e (λ n. handed n bk nk nv sk ss sl t) (λ n. handed n bk nk' nv' sk ss sl t) x) (sym u)
      (subst (λ (ys : List ℕ). Keeps e (λ n. handed n bk nk nv sk ss sl t) (λ n. handed n bk nk' ys sk ss sl t) (S.Number q k v)) (sym w₂)
      (subst (λ (xs : List ℕ). Keeps e (λ n. handed n bk nk nv sk ss sl t) (λ n. handed n bk xs (kept nk nv q.0 v) sk ss sl t) (S.Number q k v)) (sym w₁)
      (record {
        holds =
            record {
              given =
                  record {
                    booleans = g.booleans;
                    number_kinds = (let z = length_kept nk q.0 nk k in let y = g.number_kinds in omega arith);
                    number_values = (let z = length_kept nk q.0 nv v in let y = g.number_values in omega arith);
                    string_kinds = g.string_kinds;
                    string_starts = g.string_starts;
                    string_lengths = g.string_lengths;
                  };
              strings = h.strings;
            };
        entry = λ n i. record {
          names = n;
          booleans = tabulate (λ j. state_of (get_or bk j 0) tt) e.booleans;
          numbers = keep_states (λ (x : ℕ). x) nk nv q k v e.numbers l g.number_kinds g.number_values i;
          strings = tabulate (λ j. state_of (get_or sk j 0) (read_bytes (read_at t (get_or ss j 0)))) e.strings;
        };
      })))

  pub keeps_string : (said : Said) (q : Place) (k s m : ℕ) (sk' ss' sl' : List ℕ) → q.0 < e.strings → (k ≡ 1 → ShortAt t s m)
      → sk' ≡ kept sk sk q.0 k → ss' ≡ kept sk ss q.0 s → sl' ≡ kept sk sl q.0 m
      → said ≡ (S.String q k s m) → Keeps e (λ n. handed n bk nk nv sk ss sl t) (λ n. handed n bk nk nv sk' ss' sl' t) said
  unfolding with_saying
  keeps_string said q k s m sk' ss' sl' l d w₁ w₂ w₃ u =
      subst (λ (x : Said). Keeps e (λ n. handed n bk nk nv sk ss sl t) (λ n. handed n bk nk nv sk' ss' sl' t) x) (sym u)
      (subst (λ (zs : List ℕ). Keeps e (λ n. handed n bk nk nv sk ss sl t) (λ n. handed n bk nk nv sk' ss' zs t) (S.String q k s m)) (sym w₃)
      (subst (λ (ys : List ℕ). Keeps e (λ n. handed n bk nk nv sk ss sl t) (λ n. handed n bk nk nv sk' ys (kept sk sl q.0 m) t) (S.String q k s m)) (sym w₂)
      (subst (λ (xs : List ℕ). Keeps e (λ n. handed n bk nk nv sk ss sl t) (λ n. handed n bk nk nv xs (kept sk ss q.0 s) (kept sk sl q.0 m) t) (S.String q k s m)) (sym w₁)
      (record {
        holds =
            record {
              given =
                  record {
                    booleans = g.booleans;
                    number_kinds = g.number_kinds;
                    number_values = g.number_values;
                    string_kinds = (let z = length_kept sk q.0 sk k in let y = g.string_kinds in omega arith);
                    string_starts = (let z = length_kept sk q.0 ss s in let y = g.string_starts in omega arith);
                    string_lengths = (let z = length_kept sk q.0 sl m in let y = g.string_lengths in omega arith);
                  };
              strings = keep_each (ShortAt t) sk ss sl q.0 k s m e.strings l g.string_kinds g.string_starts g.string_lengths h.strings d;
            };
        entry = λ n i. record {
          names = n;
          booleans = tabulate (λ j. state_of (get_or bk j 0) tt) e.booleans;
          numbers = tabulate (λ j. state_of (get_or nk j 0) (get_or nv j 0)) e.numbers;
          strings = keep_states (λ (x : ℕ). read_bytes (read_at t x)) sk ss q k s e.strings l g.string_kinds g.string_starts i;
        };
      }))))
