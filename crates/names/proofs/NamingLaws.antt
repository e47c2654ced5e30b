-- Laws of names as numbers.
-- Assumes nothing.
use mathlib.Core.Path.{◌≡◌, refl}
use mathlib.Core.List.{List, [], map}
use Prim.Native.Nat.{ℕ}
use lib.ListN.{get_or, get_or-map}
use Rattle.word.specs.Word.{word, bytes}
use Rattle.names.specs.Names.{ascii, parted, named, boolean_names, number_names, string_names, all_names}
use Rattle.names.specs.Naming.{packed, before_nul, unpacked, packed_names}

-- one computed test: every name comes back from its number
pub unpacked_all : map unpacked packed_names ≡ all_names
unfolding packed_names packed unpacked before_nul word bytes all_names boolean_names number_names string_names named parted ascii
unpacked_all = refl

-- the number at each place is the name's
pub packed_at : (k : ℕ) → get_or packed_names k 0 ≡ packed (get_or all_names k [])
unfolding packed_names packed word
packed_at k = get_or-map packed all_names k []
