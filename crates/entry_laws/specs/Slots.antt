-- Laws of slots, once over their width, and of boolean bytes.
-- Assumes nothing.
use Rattle.std.specs.Prelude.{◌≡◌, refl, Bool, true, false, ◌||◌, List, [], ◌∷◌, ◌++◌, map, ℕ, zero, suc, ◌+◌, ◌*◌}
use Rattle.std.specs.Prelude.{◌^◌, ◌≤◌, ◌<◌, eqb, length, get_or}
use Rattle.std.proofs.Common.{sym, ◌∙◌, pow-suc, not-suc-le-zero, arith, lit<, eq-eqb, ne_eqb, lt-ltb, le-ltb}
use Rattle.std.proofs.Math.Bool.{or-true}
use Rattle.std.proofs.Math.Nat.{one-le-pow}
use Rattle.std.proofs.lemmas.List.{length-map}
use Rattle.std.proofs.Math.ListN.{get_or-map, get_or-eq_default}
use Rattle.base.specs.If.{when◌then◌else◌}
use Rattle.base.proofs.IfLaws.{true_false, below_or}
use Rattle.base.specs.Scan.{every}
use Rattle.base.proofs.ScanLaws.{every_at, every_all}
use Rattle.base.specs.Tabulate.{Each}
use Rattle.base.proofs.TabulateLaws.{each_at}
use Rattle.word.specs.Word.{word, words, Below}
use Rattle.edition.specs.declared.Place.{Place}
use Rattle.entry.specs.State.{State, absent, cancelled, present, absent_mark, cancelled_mark, slot_of, code_of, ok_slot}
use Rattle.entry.specs.State.{ok_boolean, boolean_of, boolean_code}
use Rattle.entry.specs.Reading.{slot_in}
use Rattle.entry_laws.specs.Parts.{part_word}

-- the code of a present state is below both marks
abbrev pub BelowMarks : ℕ → State ℕ → Type 0
BelowMarks w absent = Unit {0}
BelowMarks w cancelled = Unit {0}
BelowMarks w (present c) = c < cancelled_mark w

-- the code of a present state passes a test
abbrev pub Passes : (ℕ → Bool) → State ℕ → Type 0
Passes ok absent = Unit {0}
Passes ok cancelled = Unit {0}
Passes ok (present c) = ok c ≡ true

-- ---- a slot that is written

-- a slot of one byte or more has codes besides the marks
pub codes_least : (w : ℕ) → 0 < w → 256 ≤ 256 ^ w
codes_least zero h = absurd (not-suc-le-zero h)
codes_least (suc w) h = let p : 1 ≤ 256 ^ w = one-le-pow w 256 (lit< tt) in rw (pow-suc 256 w) (omega arith)

pub code_below : (w : ℕ) (s : State ℕ) → 0 < w → BelowMarks w s → code_of w s < 256 ^ w
unfolding code_of
code_below w absent h b = let p = codes_least w h in omega arith
code_below w cancelled h b = let p = codes_least w h in omega arith
code_below w (present c) h b = let p = codes_least w h in let q : c < cancelled_mark w = b in omega arith

pub slot_code : (w : ℕ) (s : State ℕ) → 0 < w → BelowMarks w s → slot_of w (code_of w s) ≡ s
unfolding slot_of code_of
slot_code w absent h b = rw (eq-eqb (absent_mark w) (absent_mark w) refl)
slot_code w cancelled h b =
    let p = codes_least w h in
    rw (ne_eqb (cancelled_mark w) (absent_mark w) (λ e. omega arith), eq-eqb (cancelled_mark w) (cancelled_mark w) refl)
slot_code w (present c) h b =
    let q : c < cancelled_mark w = b in
    rw (ne_eqb c (absent_mark w) (λ e. omega arith), ne_eqb c (cancelled_mark w) (λ e. omega arith))

pub ok_code : (w : ℕ) (ok : ℕ → Bool) (s : State ℕ) → Passes ok s → ok_slot w ok (code_of w s) ≡ true
unfolding ok_slot code_of
ok_code w ok absent p = rw (eq-eqb (absent_mark w) (absent_mark w) refl) (or-true (ok (absent_mark w)))
ok_code w ok cancelled p = rw (eq-eqb (cancelled_mark w) (cancelled_mark w) refl) (simp or-true)
ok_code w ok (present c) p = rw p

-- ---- a slot that is read

pub slot_passes : (w : ℕ) (ok : ℕ → Bool) (c : ℕ) → ok_slot w ok c ≡ true → Passes ok (slot_of w c)
unfolding slot_of ok_slot
slot_passes w ok c h = by_tests (ok c) (eqb c (absent_mark w)) (eqb c (cancelled_mark w)) refl h
  where
    by_tests : (t a b : Bool) → ok c ≡ t → (t || (a || b)) ≡ true
        → Passes ok (when a then absent else when b then cancelled else present c)
    by_tests t true b e k = tt
    by_tests t false true e k = tt
    by_tests true false false e k = e
    by_tests false false false e k = true_false (sym k)

module _ (w : ℕ) (f : List ℕ) (base n : ℕ) (p : Place) where
  pub slot_past : n ≤ p.0 → slot_in w f base n p ≡ absent
  unfolding slot_in
  slot_past h = rw (le-ltb p.0 n h)

  pub slot_in_lem : p.0 < n → slot_in w f base n p ≡ slot_of w (word w f (base + w * p.0))
  unfolding slot_in
  slot_in_lem h = rw (lt-ltb p.0 n h)

-- each slot of a table whose slots were all judged
pub slots_pass : (w : ℕ) (ok : ℕ → Bool) (f : List ℕ) (base n : ℕ)
    → every (λ i. ok_slot w ok (word w f (base + w * i))) n ≡ true
    → (p : Place) → Passes ok (slot_in w f base n p)
slots_pass w ok f base n e p =
    below_or p.0 n
    (λ h. rw (slot_in_lem w f base n p h)
    (slot_passes w ok (word w f (base + w * p.0))
    (every_at (λ i. ok_slot w ok (word w f (base + w * i))) n p.0 e h)))
    (λ h. rw (slot_past w f base n p h) tt)

-- ---- a table of slots that is written: the elements of xs say the states g gives

module _ {A : Type 0} (w : ℕ) (g : A → State ℕ) (wide : 0 < w) where
  codes_below : (xs : List A) → Each (λ a. BelowMarks w (g a)) xs → Below (256 ^ w) (map (λ a. code_of w (g a)) xs)
  codes_below [] b = tt
  codes_below (x ∷ xs) b = (code_below w (g x) wide b.0, codes_below xs b.1)

  module _ (xs : List A) (d : A) (f before after : List ℕ) (base : ℕ)
      (at : f ≡ before ++ (words w (map (λ a. code_of w (g a)) xs) ++ after))
      (starts : length before ≡ base) (below : Each (λ a. BelowMarks w (g a)) xs) where
    code_at : (i : ℕ) → i < length xs → word w f (base + w * i) ≡ code_of w (g (get_or xs i d))
    code_at i h =
        part_word w f before (map (λ a. code_of w (g a)) xs) after base i (code_of w (g d)) at starts
        (codes_below xs below)
        (rw (length-map xs (λ a. code_of w (g a))) h)
        ∙ get_or-map (λ a. code_of w (g a)) xs i d

    -- each is read as it was written, and past the table the state is absent
    pub slots_read : g d ≡ absent → (p : Place) → slot_in w f base (length xs) p ≡ g (get_or xs p.0 d)
    slots_read e p =
        below_or p.0 (length xs)
        (λ h. rw (slot_in_lem w f base (length xs) p h, code_at p.0 h)
        (slot_code w (g (get_or xs p.0 d)) wide (each_at (λ a. BelowMarks w (g a)) xs p.0 d below h)))
        (λ h. rw (slot_past w f base (length xs) p h, get_or-eq_default xs d h) (sym e))

    -- each is judged good
    pub slots_ok : (ok : ℕ → Bool) → Each (λ a. Passes ok (g a)) xs
        → every (λ i. ok_slot w ok (word w f (base + w * i))) (length xs) ≡ true
    slots_ok ok pass =
        every_all (λ i. ok_slot w ok (word w f (base + w * i))) (length xs) (λ i h.
        rw (code_at i h) (ok_code w ok (g (get_or xs i d)) (each_at (λ a. Passes ok (g a)) xs i d pass h)))

-- ---- boolean bytes

pub boolean_code_lem : (s : State Unit) → boolean_of (boolean_code s) ≡ s
unfolding boolean_of boolean_code
boolean_code_lem absent = refl
boolean_code_lem cancelled = refl
boolean_code_lem (present x) = refl

pub ok_boolean_code : (s : State Unit) → ok_boolean (boolean_code s) ≡ true
unfolding ok_boolean boolean_code
ok_boolean_code absent = refl
ok_boolean_code cancelled = refl
ok_boolean_code (present x) = refl
