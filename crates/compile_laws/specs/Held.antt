-- What the arrays of the compiler hold: states by kinds and contents, as the writer takes them; a present string
-- starts at a place of the text.
-- Assumes nothing.
use Rattle.std.specs.Prelude.{◌≡◌, List, [], ℕ, ◌+◌, ◌≤◌, ◌<◌, eqb, length, get_or, set}
use Rattle.base.specs.If.{when◌then◌else◌}
use Rattle.edition.specs.declared.Edition.{Edition}
use Rattle.entry.specs.Limits.{content_most}
use Rattle.entry.specs.State.{State}
use Rattle.entry.specs.Reading.{Entry}
use Rattle.entry.specs.Writing.{Handed, state_of}
use Rattle.put.specs.Table.{total}
use Rattle.write_laws.specs.File.{Given, entry_with}
use Rattle.text.specs.declared.Said.{Said}
use Rattle.text.specs.Strings.{read_at, read_bytes}
use Rattle.text.specs.Describing.{with_saying}
use Rattle.judge.specs.Judged.{saying_said, StandsAt}

-- the text is what is lent
abbrev pub text_string : Handed → ℕ → State (List ℕ)
text_string h i = state_of (get_or h.string_kinds i 0) (read_bytes (read_at h.lent (get_or h.string_starts i 0)))

abbrev pub text_entry : Edition → Handed → Entry
text_entry e h = entry_with e h (text_string h)

-- a string stands in the text at i, for n bytes, which are no more than a string may have
abbrev pub ShortAt : List ℕ → ℕ → ℕ → Type 0
ShortAt t i n = StandsAt t i n × (n ≤ content_most)

-- each present string of the first n stands in the text and is counted
abbrev pub StringsStand : Handed → ℕ → Type 0
StringsStand h n =
    (i : ℕ) → i < n → get_or h.string_kinds i 0 ≡ 1
    → ShortAt h.lent (get_or h.string_starts i 0) (get_or h.string_lengths i 0)

pub record Holds (e : Edition) (h : Handed) : Type 0 where
  pub given : Given e h
  pub strings : StringsStand h e.strings

-- xs with v at p, where the capability there has no kind yet
unfoldable pub kept : (kinds xs : List ℕ) → ℕ → ℕ → List ℕ
kept kinds xs p v = when eqb (get_or kinds p 0) 0 then set xs p v else xs

-- what a field says is kept, under whatever names
pub record Keeps (e : Edition) (before after : List ℕ → Handed) (s : Said) : Type 0 where
  pub holds : Holds e (after [])
  pub entry : (n : List ℕ) → text_entry e (after n) ≡ with_saying (text_entry e (before n))
      (saying_said (before []).lent s)

-- ---- the strings of the text in the string table

-- they stand in the text, and their table fits into b from at on
pub record TableFits (b : List ℕ) (at : ℕ) (h : Handed) (n : ℕ) : Type 0 where
  pub kinds : n ≤ length h.string_kinds
  pub starts : n ≤ length h.string_starts
  pub lengths : n ≤ length h.string_lengths
  pub strings : StringsStand h n
  pub fits : at + total h.string_kinds h.string_lengths n ≤ length b
