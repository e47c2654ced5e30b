-- Laws of words and tables of them, once over the width.
-- Assumes nothing.
use mathlib.Core.Path.{◌≡◌, refl, sym, ap, ◌∙◌, subst}
use mathlib.Core.List.{List, [], ◌∷◌, ◌++◌, append_assoc, append-nil}
use Prim.Native.Nat.{ℕ, zero, suc, ◌+◌, ◌*◌, ◌/◌, ◌%◌, ◌^◌, ◌<◌}
use native.Mathlib.Nat.{mul-suc, pow-suc, div-lt_iff_lt-mul, add-suc, mul-zero, not-suc-le-zero, le_of_suc-le-suc}
use native.Mathlib.Omega.{arith}
use lib.Dec.{lit<}
use lib.ListN.{length, get_or, length-append}
use lib.Seq.{get_or-append-add}
use Rattle.word.specs.Word.{word, bytes, words, Below}

pub length_bytes : (w n : ℕ) → length (bytes w n) ≡ w
unfolding bytes
length_bytes zero n = refl
length_bytes (suc w) n = ap suc (length_bytes w (n / 256))

pub length_words : (w : ℕ) (ns : List ℕ) → length (words w ns) ≡ w * length ns
unfolding words
length_words w [] = sym (mul-zero w)
length_words w (n ∷ ns) =
    length-append (bytes w n) (words w ns)
    ∙ rw (length_bytes, length_words w ns, mul-suc) (omega arith)

-- what stands behind a prefix is read behind it
pub word_skip : (w : ℕ) (a f : List ℕ) (p : ℕ) → word w (a ++ f) (length a + p) ≡ word w f p
unfolding word
word_skip zero a f p = refl
word_skip (suc w) a f p =
    rw (get_or-append-add a f p, ← add-suc (length a) p, word_skip w a f (suc p))

word_cons : (w x : ℕ) (f : List ℕ) (p : ℕ) → word w (x ∷ f) (suc p) ≡ word w f p
unfolding word
word_cons zero x f p = refl
word_cons (suc w) x f p = rw (word_cons w x f (suc p))

-- the round trip of one word
pub word_bytes : (w n : ℕ) (r : List ℕ) → n < 256 ^ w → word w (bytes w n ++ r) 0 ≡ n
unfolding word bytes
word_bytes zero n r h = omega arith
word_bytes (suc w) n r h =
    let k : n / 256 < 256 ^ w = (div-lt_iff_lt-mul (lit< tt)).1 (subst (λ (z : ℕ). n < z) (pow-suc 256 w) h) in
    rw (word_cons w (n % 256) (bytes w (n / 256) ++ r) 0, word_bytes w (n / 256) r k) (omega arith)

-- the round trip of a table: word i of the table is its i-th number
pub word_words : (w : ℕ) (ns r : List ℕ) (i d : ℕ) → Below (256 ^ w) ns → i < length ns → word w (words w ns ++ r) (w * i) ≡ get_or ns i d
unfolding words
word_words w [] r i d b h = absurd (not-suc-le-zero h)
word_words w (n ∷ ns) r zero d b h =
    rw (mul-zero, append_assoc) (word_bytes w n (words w ns ++ r) b.0)
word_words w (n ∷ ns) r (suc i) d b h =
    let e : w * suc i ≡ length (bytes w n) + w * i = rw (length_bytes, mul-suc) (omega arith) in
    rw (append_assoc, e, word_skip w (bytes w n) (words w ns ++ r) (w * i)) (word_words w ns r i d b.1 (le_of_suc-le-suc h))

pub words_append : (w : ℕ) (xs ys : List ℕ) → words w (xs ++ ys) ≡ words w xs ++ words w ys
unfolding words
words_append w [] ys = refl
words_append w (x ∷ xs) ys = rw (words_append w xs ys) (sym (append_assoc (bytes w x) (words w xs) (words w ys)))

pub words_one : (w n : ℕ) → words w (n ∷ []) ≡ bytes w n
unfolding words
words_one w n = append-nil (bytes w n)

-- a word of two bytes, as code computes it
pub short_eq : (f : List ℕ) (p : ℕ) → word 2 f p ≡ get_or f p 0 + 256 * get_or f (p + 1) 0
unfolding word
short_eq f p = let e : p + 1 ≡ suc p = omega arith in rw e (omega arith)
