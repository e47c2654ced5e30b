-- What a word is where options may stand: `-` and one more byte, of which `--` ends the options. A word of one byte is
-- an operand, `-` too, and so is the empty word.
-- Assumes nothing.
use Rattle.std.specs.Prelude.{not, List, ℕ, eqb, ltb, length, get_or}
use Prim.Native.Char.{code}
use Rattle.base.specs.If.{when◌then◌else◌}
use Rattle.option_words.specs.declared.OwnOption.{OwnOption}
use Rattle.option_words.specs.declared.OwnOption.TheVariants as Own
use Rattle.option_words.specs.declared.WordKind.{WordKind}
use Rattle.option_words.specs.declared.WordKind.TheVariants.{Operand, End, Flag, Edition, Name, Unknown}

-- an option of a command's own: a flag, or `-n NAME`
unfoldable pub own_kind : ℕ → OwnOption → WordKind
own_kind letter Own.Nothing = Unknown
own_kind letter (Own.Flag flag) = when eqb letter flag then Flag else Unknown
own_kind letter Own.Name = when eqb letter (code "n") then Name else Unknown

unfoldable pub kind_of : List ℕ → OwnOption → WordKind
kind_of w own =
    when ltb (length w) 2 then Operand
    else when not (eqb (get_or w 0 0) (code "-")) then Operand
    else when not (eqb (length w) 2) then Unknown
    else when eqb (get_or w 1 0) (code "-") then End
    else when eqb (get_or w 1 0) (code "e") then Edition
    else own_kind (get_or w 1 0) own
