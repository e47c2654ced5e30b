-- The cases of a slot that holds an offset.
-- Assumes nothing.
use mathlib.Core.Path.{◌≡◌}
use mathlib.Core.Bool.{false, and-false}
use mathlib.Core.List.{List}
use Prim.Native.Nat.{ℕ, ◌+◌, ◌-◌, ◌<◌, ◌≤◌}
use native.Mathlib.Omega.{arith}
use lib.Dec.{ltb}
use lib.ListN.{length}
use borrow.Author.Tests.{lt-leb, le-leb}
use Rattle.word.specs.Word.{word}
use Rattle.entry.specs.Limits.{header_size, offset_width}
use Rattle.entry.specs.Layout.{sizes_of}
use Rattle.bad_slots.specs.Slots.{holds_offset}

module _ (f : List ℕ) (at : ℕ) where
  pub no_header : length f < header_size → false ≡ holds_offset f at
  unfolding holds_offset
  no_header h = rw (lt-leb header_size (length f) h)

  module _ (l : header_size ≤ length f) where
    pub past_end : length f - offset_width < at → false ≡ holds_offset f at
    unfolding holds_offset
    past_end h = rw (lt-leb (at + offset_width) (length f) (omega arith), and-false)

    pub in_file : at ≤ length f - offset_width → ltb (word offset_width f at) (sizes_of f).table ≡ holds_offset f at
    unfolding holds_offset
    in_file h = rw (le-leb header_size (length f) l, le-leb (at + offset_width) (length f) (omega arith))
