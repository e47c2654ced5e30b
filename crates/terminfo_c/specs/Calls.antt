-- The calls for C: the number that each answers, and what lent arrays hold afterwards (include/terminfo_c.h says the
-- same in words). What those that ask answer stands in c_asked/specs.
-- Assumes nothing.
use Rattle.std.specs.Prelude.{◌≡◌, List, ℕ}
use Rattle.edition.specs.declared.Edition.{Edition}
use Rattle.base.specs.Answer.{Answer, refused, gives, buffer_after}
use Rattle.list_states.specs.Listing.{Arrays, rooms_of, listing, arrays_after}
use Rattle.c_numbers.specs.Numbers.{numbered, none}

-- what a lent array of fixed size holds after a call that fills it; a refusal changes nothing
abbrev pub array_after : List ℕ → Answer (List ℕ) → List ℕ
array_after before (refused n v) = before
array_after before (gives array) = array

-- the number and the arrays that listing every state leaves
pub record ListedNumber (e : Edition) (f : List ℕ) (before after : Arrays) (r : ℕ) : Type 0 where
  pub number : r ≡ numbered none (listing e f (rooms_of before))
  pub lent : after ≡ arrays_after before (listing e f (rooms_of before))

-- the number, by that call's own code, and the buffer that a call leaves which gives a file
pub record FileNumber (code : Answer (List ℕ) → ℕ) (a : Answer (List ℕ)) (before after : List ℕ) (r : ℕ) : Type 0 where
  pub number : r ≡ code a
  pub buffer : after ≡ buffer_after before a
