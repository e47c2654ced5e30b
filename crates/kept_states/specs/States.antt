-- What the compiler's states are as what is handed to the writer, and that the caller's arrays stay the same ones.
-- Assumes nothing.
use Rattle.std.specs.Prelude.{◌≡◌, List, ℕ, length, replicate}
use Rattle.entry.specs.Writing.{Handed}
use Rattle.entry.specs.Handed.{handed}
use Rattle.kept_states.specs.declared.States.{States}
use Rattle.kept_states.specs.declared.StateArrays.{StateArrays}

-- the states of a text, under the names
abbrev pub held : States → (text names : List ℕ) → Handed
held s text names =
    handed names s.boolean_kinds s.number_kinds s.number_values s.string_kinds s.string_starts s.string_lengths text

-- all states are absent
abbrev pub none_held : States
none_held =
    record {
      boolean_kinds = replicate 64 0;
      number_kinds = replicate 64 0;
      number_values = replicate 64 0;
      string_kinds = replicate 512 0;
      string_starts = replicate 512 0;
      string_lengths = replicate 512 0;
    }

-- ---- in the caller's arrays

-- the states of a text, under the names
abbrev pub held_in : StateArrays → (text names : List ℕ) → Handed
held_in s text names =
    handed names s.boolean_kinds.now s.number_kinds.now s.number_values.now s.string_kinds.now s.string_starts.now
    s.string_lengths.now text

-- the arrays are those of before and of the same lengths, whatever they hold
pub record SameArrays (s z : StateArrays) : Type 0 where
  pub boolean_kinds : z.boolean_kinds.ghost_name ≡ s.boolean_kinds.ghost_name
  pub number_kinds : z.number_kinds.ghost_name ≡ s.number_kinds.ghost_name
  pub number_values : z.number_values.ghost_name ≡ s.number_values.ghost_name
  pub string_kinds : z.string_kinds.ghost_name ≡ s.string_kinds.ghost_name
  pub string_starts : z.string_starts.ghost_name ≡ s.string_starts.ghost_name
  pub string_lengths : z.string_lengths.ghost_name ≡ s.string_lengths.ghost_name
  pub many_booleans : length z.boolean_kinds.now ≡ length s.boolean_kinds.now
  pub many_numbers : length z.number_kinds.now ≡ length s.number_kinds.now
  pub many_values : length z.number_values.now ≡ length s.number_values.now
  pub many_strings : length z.string_kinds.now ≡ length s.string_kinds.now
  pub many_starts : length z.string_starts.now ≡ length s.string_starts.now
  pub many_lengths : length z.string_lengths.now ≡ length s.string_lengths.now
