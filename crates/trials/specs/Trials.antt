-- Document 01's trials by example, P1 to P12, as one table under a single claim: each row's answer is the one that the
-- document gives. Steps are compared only where it gives them.
-- Assumes nothing.
use Rattle.std.specs.Prelude.{◌≡◌, refl, List, [], ◌∷◌, map, ℕ, ◌++◌, zero, suc, ℤ, pos, negsuc, length, replicate}
use Rattle.base.specs.Scan.{scan}
use Rattle.word.specs.Word.{word}
use Rattle.edition.specs.Edition.{ok_edition, place}
use Rattle.entry.specs.State.{State, absent, cancelled, present, slot_of, ok_slot, ok_boolean}
use Rattle.base.specs.Answer.{Answer, refused, gives, number_of}
use Rattle.entry.specs.Layout.{sizes_of, size_of}
use Rattle.entry.specs.Reading.{ok_counts, ok_names, ok_booleans, ok_pad, ok_numbers, ok_strings, reading}
use Rattle.entry.specs.Reading.{slot_in, number_in}
use Prim.Native.String.{String}
use Rattle.signed.specs.Signed.{low32, wrap, add, subtract, multiply, divide, remainder}
use Rattle.characters.specs.Character.{character}
use Rattle.expansion.specs.Items.{singles, found, argument_at, quoted_at, decimal, braced_at, store_at, load_at}
use Rattle.expansion.specs.Items.{format_at, width_at, percent_at, item_at}
use Rattle.expansion.specs.Form.{class_of, class_at, after_if, after_then, after_else, after_end}
use Rattle.expansion.specs.Form.{nesting, form_from, form_of}
use Rattle.expansion.specs.Print.{digits_from, digits, numeral, printed}
use Rattle.expansion.specs.Machine.{applied, inverted, loaded, stored, raised, incremented}
use Rattle.expansion.specs.Machine.{arity, pops_text, other_kind}
use Rattle.expansion.specs.Machine.{effect}
use Rattle.expansion.specs.Machine.{performed, taking, passing, passed, running, run}
use Rattle.expansion.specs.Arguments.{numbers_given}
use Rattle.expansion.specs.Expanding.{Expanding, ended, formed, expanding}
use Rattle.entry.specs.Asking.{opening, asking, asking_number}
use Rattle.base.specs.Loop.{turns, loop}
use Rattle.names.specs.Names.{ascii, first_edition}
use Rattle.text.specs.Bytes as Bytes
use Rattle.text.specs.Strings as Strings

-- what a definition gives, and what the document says, as numbers
pub record Trial : Type 0 where
  pub found : List ℕ
  pub expected : List ℕ

abbrev pub row : List ℕ → List ℕ → Trial
row found expected = record { found = found; expected = expected }

-- a file with the name `a`, no boolean, no string, and so many numbers
abbrev pub named : ℕ → List ℕ → List ℕ
named numbers rest = 26 ∷ 1 ∷ 2 ∷ 0 ∷ 0 ∷ 0 ∷ numbers ∷ 0 ∷ 0 ∷ 0 ∷ 0 ∷ 0 ∷ 97 ∷ 0 ∷ rest

-- a refusal's number; or 0, then a state's kind (0 absent, 1 present, 2 cancelled) and its content
abbrev pub told : Answer (State ℕ) → List ℕ
told (refused n v) = n ∷ []
told (gives absent) = 0 ∷ 0 ∷ []
told (gives (present n)) = 0 ∷ 1 ∷ n ∷ []
told (gives cancelled) = 0 ∷ 2 ∷ []

abbrev pub escaped : String → List ℕ
escaped s = 27 ∷ ascii s

-- the same behind a backslash, and what a string of source text stands for
abbrev pub backslashed : String → List ℕ
backslashed s = 92 ∷ ascii s

abbrev pub content : List ℕ → List ℕ
content t = Strings.read_bytes (Strings.read_at t 0)

-- a string expanded with two arguments, the others 0, into 100 bytes
abbrev pub at : List ℕ → ℤ → ℤ → Answer Expanding
at s a b = expanding s (numbers_given (a ∷ b ∷ replicate 7 (pos 0))) [] (replicate 26 (pos 0)) 100 0

-- a refusal's number and values; or 0 and the output
abbrev pub output : Answer Expanding → List ℕ
output (refused n v) = n ∷ v
output (gives x) = 0 ∷ x.output

-- the same with the steps before the output, where the document gives them
abbrev pub steps_and_output : Answer Expanding → List ℕ
steps_and_output (refused n v) = n ∷ v
steps_and_output (gives x) = 0 ∷ x.steps ∷ x.output

-- as many pushes
abbrev pub pushes : ℕ → List ℕ
pushes zero = []
pushes (suc n) = ascii "%p1" ++ pushes n

unfoldable pub trials : List Trial
trials =
    -- P1: sizes 32, 21, 8, 138, 34 give 392
    row (size_of (record { names = 32; booleans = 21; numbers = 8; strings = 138; table = 34 }) ∷ []) (392 ∷ [])
    -- P2: a 14-byte file, name `a`, all counts 0, is accepted
    ∷ row (length (named 0 []) ∷ number_of (opening first_edition (named 0 [])) ∷ []) (14 ∷ 0 ∷ [])
    -- P3: number 32,767 present, 32,768 refused (6), 65,534 cancelled
    ∷ row (told (asking_number first_edition (named 1 (255 ∷ 127 ∷ [])) (place 0))) (0 ∷ 1 ∷ 32767 ∷ [])
    ∷ row (number_of (opening first_edition (named 1 (0 ∷ 128 ∷ []))) ∷ []) (6 ∷ [])
    ∷ row (told (asking_number first_edition (named 1 (254 ∷ 255 ∷ [])) (place 0))) (0 ∷ 2 ∷ [])
    -- P4: `\E=%p1%' '%+%c%p2%' '%+%c` at 3, 12: bytes 27 61 35 44, 10 steps
    ∷ row (steps_and_output (at (escaped "=%p1%' '%+%c%p2%' '%+%c") (pos 3) (pos 12))) (0 ∷ 10 ∷ 27 ∷ 61 ∷ 35 ∷ 44 ∷ [])
    -- P5: `\E&a%p2%02dc%p1%02dY` at 3, 12: `\E&a12c03Y`
    ∷ row (output (at (escaped "&a%p2%02dc%p1%02dY") (pos 3) (pos 12))) (0 ∷ escaped "&a12c03Y")
    -- P6: `%p1%p2%-%d` at 7, 5: 2
    ∷ row (output (at (ascii "%p1%p2%-%d") (pos 7) (pos 5))) (0 ∷ ascii "2")
    -- P7: `%p1%03d` at -5: `-05`; `%p1%3d`: ` -5`
    ∷ row (output (at (ascii "%p1%03d") (negsuc 4) (pos 0))) (0 ∷ ascii "-05")
    ∷ row (output (at (ascii "%p1%3d") (negsuc 4) (pos 0))) (0 ∷ ascii " -5")
    -- P8: `%?%p1%tA%e%p2%tB%eC%;`: 1,0 A in 5 steps; 0,1 B; 0,0 C in 7
    ∷ row (steps_and_output (at (ascii "%?%p1%tA%e%p2%tB%eC%;") (pos 1) (pos 0))) (0 ∷ 5 ∷ ascii "A")
    ∷ row (output (at (ascii "%?%p1%tA%e%p2%tB%eC%;") (pos 0) (pos 1))) (0 ∷ ascii "B")
    ∷ row (steps_and_output (at (ascii "%?%p1%tA%e%p2%tB%eC%;") (pos 0) (pos 0))) (0 ∷ 7 ∷ ascii "C")
    -- P9: `%?%p2%|%t;4%;`: 15, place 5
    ∷ row (output (at (ascii "%?%p2%|%t;4%;") (pos 0) (pos 0))) (15 ∷ 5 ∷ [])
    -- P10: `\E[%i%p1%d;%p2%dH` at 0, 0: `\E[1;1H`
    ∷ row (output (at (escaped "[%i%p1%d;%p2%dH") (pos 0) (pos 0))) (0 ∷ escaped "[1;1H")
    -- P11: 20 pushes succeed, the 21st is 16 (it starts at place 60)
    ∷ row (output (at (pushes 20) (pos 0) (pos 0))) (0 ∷ [])
    ∷ row (output (at (pushes 21) (pos 0) (pos 0))) (16 ∷ 60 ∷ [])
    -- P12: `\0`, `^@`, `\000` give 128; `\47` 39; `^h` 8
    ∷ row (content (backslashed "0,")) (128 ∷ [])
    ∷ row (content (ascii "^@,")) (128 ∷ [])
    ∷ row (content (backslashed "000,")) (128 ∷ [])
    ∷ row (content (backslashed "47,")) (39 ∷ [])
    ∷ row (content (ascii "^h,")) (8 ∷ [])
    ∷ []

pub trials_hold : map (λ (t : Trial). t.found) trials ≡ map (λ (t : Trial). t.expected) trials
unfolding trials ascii opening ok_edition reading sizes_of word ok_counts ok_names scan ok_booleans ok_boolean ok_pad
    ok_numbers ok_slot ok_strings asking number_in slot_in slot_of low32 wrap add subtract multiply divide remainder
    singles found argument_at quoted_at decimal braced_at store_at load_at format_at width_at percent_at item_at
    class_of class_at after_if after_then after_else after_end nesting form_from form_of digits_from digits numeral
    printed applied inverted character loaded stored raised incremented arity pops_text other_kind effect performed
    taking passing passed running run ended formed expanding turns loop Bytes.is_blank Bytes.digit_of Bytes.is_in
    Bytes.run_end Strings.letter_of Strings.octal_of Strings.escape_at Strings.is_control Strings.caret_at
    Strings.line_end_at Strings.string_item_at Strings.stored_byte Strings.read_turn Strings.read_from
    Strings.read_bytes
trials_hold = refl
