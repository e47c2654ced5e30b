-- The table by which the search for a name starts late. A name's hash is any number below 4,096 that follows from its
-- bytes; where the table has description d for a hash, none before d has a name of that hash.
-- Assumes nothing.
use Rattle.std.specs.Prelude.{◌≡◌, true, List, [], ◌∷◌, ℕ, ◌+◌, ◌*◌, ◌%◌, ◌≤◌, ◌<◌, length, get_or}
use Rattle.text.specs.Building.{has_name}
use Rattle.use_names.specs.Searched.{names_of}

-- how many hashes there are
abbrev pub hashes_count : ℕ
hashes_count = 4096

-- the hash of bytes whose hash is h and of one byte more
abbrev pub hash_more : ℕ → ℕ → ℕ
hash_more h b = (h * 167 + b) % hashes_count

-- the same for more bytes
unfoldable pub hash_from : ℕ → List ℕ → ℕ
hash_from h [] = h
hash_from h (b ∷ s) = hash_from (hash_more h b) s

-- a name's hash
abbrev pub hash_of : List ℕ → ℕ
hash_of n = hash_from 0 n

-- the table is right for the descriptions from d up to count
pub record Firsts (t heads commas : List ℕ) (count : ℕ) (firsts : List ℕ) (d : ℕ) : Type 0 where
  pub many : length firsts ≡ hashes_count
  pub least : (k : ℕ) → d ≤ k → k < count → (n : List ℕ) → has_name n (names_of t heads commas k) ≡ true
      → get_or firsts (hash_of n) 0 ≤ k

-- a is the table b with the names of description d entered: it is right for d, and for those behind d if b is
pub record Enters (names : List ℕ) (d : ℕ) (b a : List ℕ) : Type 0 where
  pub own : (n : List ℕ) → has_name n names ≡ true → get_or a (hash_of n) 0 ≤ d
  pub others : (x k : ℕ) → d ≤ k → get_or b x 0 ≤ k → get_or a x 0 ≤ k
