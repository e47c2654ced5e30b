-- Laws of overwriting.
-- Assumes nothing.
use mathlib.Core.Path.{◌≡◌, sym, ap, ◌∙◌}
use mathlib.Core.List.{List, [], ◌∷◌, ◌++◌, append_assoc, append-nil}
use Prim.Native.Nat.{ℕ, suc, ◌+◌, ◌-◌, ◌≤◌, ◌<◌}
use native.Mathlib.Nat.{add-zero}
use native.Mathlib.Omega.{arith}
use native.Mathlib.Numerals.{add-one}
use lib.ListN.{length, take, drop, set, get_or, length-append, length-drop, take-append-drop}
use lib.Seq.{length-take-le, take-suc, take_at, take-append-le, take-take}
use lib.Seq.{drop_at, drop-drop, set_split, drop-append-add, drop-length}
use Rattle.base.specs.Overwrite.{put_at}

pub put_nil : {A : Type 0} (b : List A) (at : ℕ) → put_at b at [] ≡ b
unfolding put_at
put_nil b at = rw (add-zero at) (take-append-drop at b)

head_length : {A : Type 0} (b : List A) (at : ℕ) (xs : List A) → at + length xs ≤ length b → length (take at b ++ xs) ≡ at + length xs
head_length b at xs h = rw (length-append (take at b) xs, length-take-le at b (omega arith))

pub length_put : {A : Type 0} (b : List A) (at : ℕ) (xs : List A) → at + length xs ≤ length b → length (put_at b at xs) ≡ length b
unfolding put_at
length_put b at xs h =
    rw (length-append (take at b) (xs ++ drop (at + length xs) b), length-append xs (drop (at + length xs) b), length-take-le at b (omega arith), length-drop) (omega arith)

-- two runs in a row are one
pub put_put : {A : Type 0} (b : List A) (at : ℕ) (xs ys : List A) → at + length xs + length ys ≤ length b
    → put_at (put_at b at xs) (at + length xs) ys ≡ put_at b at (xs ++ ys)
unfolding put_at
put_put {A} b at xs ys h =
    let p : List A = take at b ++ xs in
    let q : List A = drop (at + length xs) b in
    let e : take at b ++ (xs ++ q) ≡ p ++ q = sym (append_assoc (take at b) xs q) in
    let l : length p ≡ at + length xs = head_length b at xs (omega arith) in
    let n : at + length xs + length ys ≡ at + length (xs ++ ys) = rw (length-append xs ys) (omega arith) in
    let d : drop (at + length xs + length ys) (p ++ q) ≡ drop (length ys) q = ap (λ (m : ℕ). drop (m + length ys) (p ++ q)) (sym l) ∙ drop-append-add p q (length ys) in
    let d' : drop (length ys) q ≡ drop (at + length (xs ++ ys)) b = drop-drop (length ys) (at + length xs) b ∙ ap (λ (m : ℕ). drop m b) n in
    rw (e, take_at p q (at + length xs) l, d, d') (simp append_assoc)

pub put_set : {A : Type 0} (b : List A) (at : ℕ) (v : A) → at < length b → set b at v ≡ put_at b at (v ∷ [])
unfolding put_at
put_set b at v h = let e : suc at ≡ at + 1 = omega arith in set_split b at v h ∙ ap (λ (n : ℕ). take at b ++ v ∷ drop n b) e

-- from the first place on
pub put_front : {A : Type 0} (b xs : List A) → put_at b 0 xs ≡ xs ++ drop (length xs) b
unfolding put_at
put_front b xs = let e : 0 + length xs ≡ length xs = omega arith in ap (λ (n : ℕ). xs ++ drop n b) e

-- a run put by a call
pub put_run : {A : Type 0} (b₀ b : List A) (at p : ℕ) (done ys more : List A) → b ≡ put_at b₀ at done → p ≡ at + length done → more ≡ done ++ ys
    → p + length ys ≤ length b₀ → put_at b p ys ≡ put_at b₀ at more
put_run b₀ b at p done ys more e q m h = rw (e, q, m) (put_put b₀ at done ys (omega arith))

-- a store
pub put_store : {A : Type 0} (b₀ b : List A) (at p : ℕ) (v : A) (done more : List A) → b ≡ put_at b₀ at done → p ≡ at + length done → more ≡ done ++ (v ∷ [])
    → p < length b₀ → set b p v ≡ put_at b₀ at more
put_store b₀ b at p v done more e q m h =
    let l : length b ≡ length b₀ = ap length e ∙ length_put b₀ at done (omega arith) in
    put_set b p v (omega arith) ∙ put_run b₀ b at p done (v ∷ []) more e q m (omega arith)

-- a turn of a loop that copies s
pub put_copy : {A : Type 0} (b₀ b : List A) (at i : ℕ) (s : List A) (d : A) → at + length s ≤ length b₀ → i < length s → b ≡ put_at b₀ at (take i s)
    → set b (at + i) (get_or s i d) ≡ put_at b₀ at (take (i + 1) s)
put_copy b₀ b at i s d h l e =
    let n : length (take i s) ≡ i = length-take-le i s (omega arith) in
    let m : take (i + 1) s ≡ take i s ++ (get_or s i d ∷ []) = ap (λ (k : ℕ). take k s) (add-one i) ∙ take-suc s i d l in
    put_store b₀ b at (at + i) (get_or s i d) (take i s) (take (i + 1) s) e (omega arith) m (omega arith)

-- a whole list replaced
pub put_whole : {A : Type 0} (b xs : List A) → length xs ≡ length b → put_at b 0 xs ≡ xs
put_whole b xs e = put_front b xs ∙ rw (e, drop-length b) (append-nil xs)

-- one element more in front
pub put_before : {A : Type 0} (b : List A) (e : ℕ) (x : A) (xs : List A) → 0 < e → e + length xs ≤ length b → set (put_at b e xs) (e - 1) x ≡ put_at b (e - 1) (x ∷ xs)
unfolding put_at
put_before {A} b e x xs h l =
    let rest : List A = xs ++ drop (e + length xs) b in
    let s : suc (e - 1) ≡ e = omega arith in
    let n : length (take e b) ≡ e = length-take-le e b (omega arith) in
    let w : e - 1 < length (take e b ++ rest) = rw (length-append (take e b) rest) (omega arith) in
    let t : take (e - 1) (take e b ++ rest) ≡ take (e - 1) b = take-append-le (e - 1) (take e b) rest (omega arith) ∙ take-take (e - 1) e b (omega arith) in
    let d : drop (suc (e - 1)) (take e b ++ rest) ≡ rest = ap (λ (k : ℕ). drop k (take e b ++ rest)) s ∙ drop_at (take e b) rest e n in
    let f : e - 1 + suc (length xs) ≡ e + length xs = omega arith in
    set_split (take e b ++ rest) (e - 1) x w ∙ rw (t, d, f)
