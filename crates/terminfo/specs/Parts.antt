-- States handed back together with the part of the caller's bytes.
-- Assumes nothing.
use Rattle.std.specs.Prelude.{◌≡◌, List, ℕ}
use Rattle.std.specs.Borrow.{Bor}
use Rattle.base.specs.Answer.{Answer}
use Rattle.entry.specs.declared.Part.{Part}
use Rattle.entry.specs.State.{State}
use Rattle.entry.specs.Asking.{part_given, names_given}
use Rattle.entry.specs.Says.{says_asked, says_state}
use Rattle.states.specs.Held.{IsPart}
use Rattle.terminfo.specs.declared.NamesPart.{NamesPart}
use Rattle.terminfo.specs.declared.StringPart.{StringPart}

-- asking for the names came to a: r says so, and holds them as that part of the file
pub record NamesAs (file : Bor (List ℕ)) (a : Answer Part) (r : NamesPart) : Type 0 where
  pub names : says_asked r.names ≡ a
  pub bytes : IsPart file r.bytes (names_given a)

-- asking for a string came to a: r says so, and holds the content as that part of the file
pub record StringAs (file : Bor (List ℕ)) (a : Answer (State Part)) (r : StringPart) : Type 0 where
  pub state : says_state r.state ≡ a
  pub bytes : IsPart file r.bytes (part_given a)
