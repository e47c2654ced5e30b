-- Bytes without a NUL, and the first NUL of a file from a place on.
-- Assumes nothing.
use Rattle.std.specs.Prelude.{◌≡◌, true, List, [], ◌∷◌, ◌++◌, ℕ, ◌+◌, ◌-◌, ◌≤◌, ◌<◌, eqb, length, get_or, take, drop}
use Rattle.std.proofs.Common.{sym, ap, ◌∙◌, arith, length-append, length-take, get_or-take, get_or-drop, eq-eqb, ne_eqb}
use Rattle.std.proofs.lemmas.List.{get_or_at}
use Rattle.std.proofs.Math.Seq.{append_snoc}
use Rattle.std.proofs.lemmas.Bool.{not-true}
use Rattle.base.proofs.IfLaws.{true_false}
use Rattle.base.specs.Scan.{scan}
use Rattle.base.proofs.ScanLaws.{scan_before, scan_pass, scan_stop, scan_start, every_at, every_all}
use Rattle.base.proofs.TabulateLaws.{each_of, each_at}
use Rattle.word.specs.Nul.{NoNul, not_nul_at, nul_from}

no_nul_at : (f : List ℕ) (i : ℕ) → not_nul_at f i ≡ true → get_or f i 0 ≡ 0 → ⊥
no_nul_at f i e z = true_false (sym (eq-eqb (get_or f i 0) 0 z) ∙ not-true (eqb (get_or f i 0) 0) e)

part_free : (f : List ℕ) (a k : ℕ) → ((j : ℕ) → a ≤ j → j < a + k → not_nul_at f j ≡ true) → NoNul (take k (drop a f))
part_free f a k h =
    each_of (λ b. b ≡ 0 → ⊥) (take k (drop a f)) 0 (λ i l z.
    let m : i < k = (let q = rw length-take at l in omega arith) in
    let g : get_or (take k (drop a f)) i 0
    ≡ get_or f (a + i) 0 = get_or-take k (drop a f) i 0 m ∙ get_or-drop a f i 0 in
    no_nul_at f (a + i) (h (a + i) (omega arith) (omega arith)) (sym g ∙ z))

-- the bytes before the first NUL
pub before_nul_free : (f : List ℕ) (a e k : ℕ) → a + k ≤ nul_from f a e → NoNul (take k (drop a f))
before_nul_free f a e k h = part_free f a k (λ j l r. scan_before (not_nul_at f) a (e - a) j l (omega arith))

-- the first NUL behind bytes without one
pub nul_behind : (s f before after : List ℕ) (p k : ℕ) → f ≡ before ++ (s ++ (0 ∷ after)) → length before ≡ p
    → NoNul s → length s < k
    → scan (not_nul_at f) p k ≡ p + length s
nul_behind [] f before after p k e l n h =
    let g : get_or f p 0 ≡ 0 = rw e (get_or_at before 0 after 0 p l) in
    scan_stop (not_nul_at f) p k (rw g) h ∙ omega arith
nul_behind (b ∷ s) f before after p k e l n h =
    let g : get_or f p 0 ≡ b = rw e (get_or_at before b (s ++ (0 ∷ after)) 0 p l) in
    let e' : f ≡ (before ++ (b ∷ [])) ++ (s ++ (0 ∷ after)) = e ∙ sym (append_snoc before b (s ++ (0 ∷ after))) in
    let l' : length (before ++ (b ∷ [])) ≡ p + 1 = length-append before (b ∷ []) ∙ ap (λ (z : ℕ). z + 1) l in
    scan_pass (not_nul_at f) p k (rw (g, ne_eqb b 0 n.0)) (omega arith)
    ∙ nul_behind s f (before ++ (b ∷ [])) after (p + 1) (k - 1) e' l' n.1 (omega arith)
    ∙ omega arith

-- the test of a whole list: its first NUL is its end
nul_whole : (s : List ℕ) → nul_from s 0 (length s) ≡ scan (not_nul_at s) 0 (length s)
nul_whole s = sym (scan_start (not_nul_at s) (length s))

pub free_test : (s : List ℕ) → NoNul s → eqb (nul_from s 0 (length s)) (length s) ≡ true
free_test s n =
    rw (nul_whole s) (every_all (not_nul_at s) (length s) (λ i h.
    rw (ne_eqb (get_or s i 0) 0 (each_at (λ b. b ≡ 0 → ⊥) s i 0 n h))))

pub test_free : (s : List ℕ) → eqb (nul_from s 0 (length s)) (length s) ≡ true → NoNul s
test_free s h =
    each_of (λ b. b ≡ 0 → ⊥) s 0 (λ i l. no_nul_at s i (every_at (not_nul_at s) (length s) i (rw (nul_whole s) at h) l))
