-- The argument that a word of `ti expand` is, which document 02, 2026-07, leaves free: a decimal number is a number,
-- any other word a text; `=WORD` is always the text WORD; digits whose value 32 bits with a sign don't hold are no
-- argument.
-- Assumes nothing.
use Rattle.std.specs.Prelude.{List, ℕ, ℤ, Option, Some, None, eqb, get_or, drop}
use Rattle.base.specs.If.{when◌then◌else◌}
use Rattle.number_words.specs.Number.{is_numeral, value_of}
use Rattle.argument_words.specs.declared.ArgumentWord.{ArgumentWord}
use Rattle.argument_words.specs.declared.ArgumentWord.TheVariants as A

-- the word without its minus, which is 45
unfoldable pub unsigned : List ℕ → List ℕ
unsigned word = when eqb (get_or word 0 0) 45 then drop 1 word else word

-- what digits are: a number, or none where 32 bits with a sign don't hold it
abbrev pub number_of : Option ℤ → Option ArgumentWord
number_of (Some v) = Some (A.Number v)
number_of None = None

-- 61 is `=`: the text starts behind it. Any word that is not digits, after a minus or not, is a text from its first
-- byte on: the empty one, `-`, `--`, `+5` and `1a` are
unfoldable pub argument_of : List ℕ → Option ArgumentWord
argument_of word =
    when eqb (get_or word 0 0) 61 then Some (A.Text 1)
    else when is_numeral (unsigned word) then number_of (value_of word) else Some (A.Text 0)
