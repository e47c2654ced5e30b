-- States stay in the same arrays: of themselves, and from one call to the next.
-- Assumes nothing.
use mathlib.Core.Path.{refl, ◌∙◌}
use Rattle.kept_states.specs.declared.StateArrays.{StateArrays}
use Rattle.kept_states.specs.States.{SameArrays}

pub arrays_themselves : (s : StateArrays) → SameArrays s s
arrays_themselves s =
    record {
      boolean_kinds = refl;
      number_kinds = refl;
      number_values = refl;
      string_kinds = refl;
      string_starts = refl;
      string_lengths = refl;
      many_booleans = refl;
      many_numbers = refl;
      many_values = refl;
      many_strings = refl;
      many_starts = refl;
      many_lengths = refl;
    }

pub arrays_on : (s z y : StateArrays) → SameArrays s z → SameArrays z y → SameArrays s y
arrays_on s z y p q =
    record {
      boolean_kinds = q.boolean_kinds ∙ p.boolean_kinds;
      number_kinds = q.number_kinds ∙ p.number_kinds;
      number_values = q.number_values ∙ p.number_values;
      string_kinds = q.string_kinds ∙ p.string_kinds;
      string_starts = q.string_starts ∙ p.string_starts;
      string_lengths = q.string_lengths ∙ p.string_lengths;
      many_booleans = q.many_booleans ∙ p.many_booleans;
      many_numbers = q.many_numbers ∙ p.many_numbers;
      many_values = q.many_values ∙ p.many_values;
      many_strings = q.many_strings ∙ p.many_strings;
      many_starts = q.many_starts ∙ p.many_starts;
      many_lengths = q.many_lengths ∙ p.many_lengths;
    }
