-- Words of w bytes, low byte first, and tables of them (document 01: Compiled entry).
-- Assumes nothing.
use Rattle.std.specs.Prelude.{List, [], ◌∷◌, ◌++◌, ℕ, zero, suc, ◌+◌, ◌*◌, ◌/◌, ◌%◌, ◌<◌, get_or}

-- the word of w bytes at place p of f; bytes past f's end count as 0
unfoldable pub word : ℕ → List ℕ → ℕ → ℕ
word zero f p = 0
word (suc w) f p = get_or f p 0 + 256 * word w f (suc p)

-- n as w bytes
unfoldable pub bytes : ℕ → ℕ → List ℕ
bytes zero n = []
bytes (suc w) n = n % 256 ∷ bytes w (n / 256)

-- a table of words
unfoldable pub words : ℕ → List ℕ → List ℕ
words w [] = []
words w (n ∷ ns) = bytes w n ++ words w ns

-- every number is below b
abbrev pub Below : ℕ → List ℕ → Type 0
Below b [] = Unit {0}
Below b (n ∷ ns) = (n < b) × Below b ns
