-- What a reader is answered when it opens a written file and asks, at each place.
-- Assumes nothing.
use Rattle.std.specs.Prelude.{◌≡◌, true, List, ℕ}
use Rattle.edition.specs.declared.Edition.{Edition}
use Rattle.edition.specs.declared.Place.{Place}
use Rattle.edition.specs.Edition.{ok_edition, place}
use Rattle.entry.specs.State.{map_state}
use Rattle.base.specs.Answer.{gives}
use Rattle.entry.specs.Layout.{sizes_of, table_at}
use Rattle.entry.specs.Reading.{Entry, bytes_of, names_part, boolean_in, number_in, part_in, string_in, held_boolean}
use Rattle.entry.specs.Reading.{held_number, held_string}
use Rattle.entry.specs.Asking.{opening, opening_of}
use Rattle.entry.specs.Writing.{sizes_for}
use Rattle.entry_laws.specs.Sound.{WrittenIn}
use Rattle.entry_laws.proofs.Round.{sizes_written, names_written, boolean_written, number_written}
use Rattle.entry_laws.specs.Round.{part_from}
use Rattle.entry_laws.proofs.Round.{string_written, part_written, written_reading}

-- ---- what a written file says

module _ (e : Edition) (x : Entry) (f : List ℕ) (w : WrittenIn e x f) where
  pub opening_is : (r : Edition) → ok_edition r ≡ true → opening r f ≡ gives (opening_of r (sizes_for x))
  unfolding opening
  opening_is r o = rw (w.file, o, written_reading x w.sound)

  pub names_are : bytes_of f (names_part (sizes_of f)) ≡ x.names
  names_are = rw (w.file, sizes_written x w.sound) (names_written x)

  pub boolean_is : (p : Place) → boolean_in f (sizes_of f) p ≡ held_boolean x p
  boolean_is p = rw (w.file, sizes_written x w.sound) (boolean_written x p)

  pub number_is : (p : Place) → number_in f (sizes_of f) p ≡ held_number x p
  number_is p = rw (w.file, sizes_written x w.sound) (number_written x w.sound p)

  pub string_is : (p : Place) → map_state (bytes_of f) (part_in f (sizes_of f) p) ≡ held_string x p
  unfolding string_in
  string_is p = rw (w.file, sizes_written x w.sound) (string_written x w.sound p)

  -- the parts that names and strings are

  pub names_stand : names_part (sizes_of f) ≡ names_part (sizes_for x)
  names_stand = rw (w.file, sizes_written x w.sound)

  pub part_is : (p : Place)
      → part_in f (sizes_of f) p ≡ part_from (table_at (sizes_for x)) (λ i. held_string x (place i)) p.0
  part_is p = rw (w.file, sizes_written x w.sound) (part_written x w.sound p)
