-- A name as the code looks for it in its table, and what an edition knows of what is found.
-- Assumes nothing.
use Rattle.std.specs.Prelude.{Bool, ◌&&◌, not, List, ℕ, ◌+◌, ◌-◌, eqb, leb, length, get_or, Option, Some, None}
use Rattle.base.specs.If.{when◌then◌else◌}
use Rattle.base.specs.Scan.{scan}
use Rattle.edition.specs.declared.Edition.{Edition}
use Rattle.edition.specs.Edition.{knows}
use Rattle.names.specs.declared.Found.{Found}
use Rattle.names.specs.declared.Found.TheVariants as F
use Rattle.names.specs.Naming.{packed, packed_names}

-- the most bytes that a name has: `colors`
abbrev pub name_most : ℕ
name_most = 6

-- two to six bytes, as each name has; the last isn't NUL, so that the number tells how many there are
unfoldable pub fits_table : List ℕ → Bool
fits_table n = leb 2 (length n) && (leb (length n) name_most && not (eqb (get_or n (length n - 1) 0) 0))

-- the number that is looked for in the table; 0, which the table doesn't hold, for bytes that can't be a name of it
unfoldable pub sought : List ℕ → ℕ
sought n = when fits_table n then packed n else 0

-- of the count numbers from first on, the place of one, counted from first; count where it isn't there
unfoldable pub searching : ℕ → ℕ → ℕ → ℕ
searching first count w = scan (λ i. not (eqb (get_or packed_names (first + i) 0) w)) 0 count

-- what an edition knows of a capability that is found: nothing, where its place is beyond the edition
unfoldable pub known_in : Edition → Option Found → Option Found
known_in e (Some (F.Boolean p)) = when knows e.booleans p then Some (F.Boolean p) else None
known_in e (Some (F.Number p)) = when knows e.numbers p then Some (F.Number p) else None
known_in e (Some (F.String p)) = when knows e.strings p then Some (F.String p) else None
known_in e None = None
