-- What a merge of accepted files holds has a written form, but for its size.
-- Assumes nothing.
use Rattle.std.specs.Prelude.{◌≡◌, true, List, ℕ, ◌≤◌, length}
use Rattle.base.proofs.TabulateLaws.{each_tabulate}
use Rattle.edition.specs.declared.Edition.{Edition}
use Rattle.edition.specs.Edition.{ok_edition, place}
use Rattle.entry.specs.Limits.{file_most}
use Rattle.entry.specs.State.{absent}
use Rattle.entry.specs.Layout.{sizes_of}
use Rattle.entry.specs.Writing.{encode}
use Rattle.entry.specs.Merging.{merged_number, merged_string, merged}
use Rattle.entry_laws.specs.Sound.{Sound, NumberFits, ContentFree}
use Rattle.entry_laws.specs.Accepted.{Accepted, string_free, number_fits_lem, names_least_lem}
use Rattle.entry_laws.specs.Accepted.{names_most_lem, names_free_lem}
use Rattle.entry_laws.specs.Merge.{over_has, merged_edition}

-- a merge of accepted files that fits has a written form
pub merged_sound : (e : Edition) (a b : List ℕ) → ok_edition e ≡ true → Accepted a → Accepted b
    → length (encode (merged e a b)) ≤ file_most → Sound (merged e a b)
unfolding merged
merged_sound e a b o p q h =
    record {
      edition = rw (merged_edition e a b) o;
      named = names_least_lem a p;
      names_most = names_most_lem a p;
      names_free = names_free_lem a p;
      numbers_fit = each_tabulate NumberFits (λ i. merged_number a b (place i)) e.numbers absent
          (λ i l. over_has NumberFits _ _ (number_fits_lem a p (place i)) (number_fits_lem b q (place i)));
      strings_free = each_tabulate ContentFree (λ i. merged_string a b (place i)) e.strings absent
          (λ i l.
          over_has ContentFree _ _ (string_free a (sizes_of a) (place i)) (string_free b (sizes_of b) (place i)));
      fits = h;
    }
