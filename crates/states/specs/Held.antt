-- A reference to a part of what another reference refers to.
-- Assumes nothing.
use Rattle.std.specs.Prelude.{◌≡◌, List, ℕ, ◌+◌}
use Rattle.std.specs.Borrow.{Bor}
use Rattle.entry.specs.declared.Part.{Part}
use Rattle.entry.specs.Reading.{bytes_of}

-- "handed back as that part of the caller's bytes": it points into the same block, start bytes on, and holds the
-- part's bytes
pub record IsPart (whole part : Bor (List ℕ)) (p : Part) : Type 0 where
  pub block : part.ref_ptr.0 ≡ whole.ref_ptr.0
  pub place : part.ref_ptr.1 ≡ whole.ref_ptr.1 + p.start
  pub bytes : part.now ≡ bytes_of whole.now p
