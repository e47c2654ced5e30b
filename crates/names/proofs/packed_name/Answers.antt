-- `names::packed_name` meets its contract: one computed test, the code's table is the lists' names.
use mathlib.Core.Path.{refl}
use Rattle.word.specs.Word.{word}
use Rattle.names.specs.Names.{ascii, parted, named, boolean_names, number_names, string_names, all_names}
use Rattle.names.specs.Naming.{packed, packed_names}
use Rattle.names.proofs.packed_name.Goals as goal

pub returns : goal.returns
unfolding packed_names packed word all_names boolean_names number_names string_names named parted ascii
returns c = refl
