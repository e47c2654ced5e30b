-- `characters::byte_of` meets its contract: the lowest bits of a value are its bits.
-- Assumes nothing.
use mathlib.Core.Path.{◌≡◌, sym, ◌∙◌}
use Prim.Native.Nat.{◌%◌}
use mir.Facts.{to_z-of_z}
use borrow.Author.Tests.{eq-eqb, ne_eqb}
use Rattle.signed.specs.Signed.{low32}
use Rattle.signed.proofs.Laws.{low_bits}
use Rattle.characters.specs.Character.{character}
use Rattle.characters.proofs.byte_of.Goals as goal

pub returns-then-low-eq0 : goal.returns-then-low-eq0
unfolding character
returns-then-low-eq0 c =
    let low : c.cast_unsigned.result % 256 ≡ low32 c.args.v % 256 = rw (c.cast_unsigned.ensures, to_z-of_z c.ranges.v, low_bits c.args.v c.ranges.v) in
    simp (eq-eqb _ _ (sym low ∙ c.if-low-eq0.true))

pub returns-else-low-eq0 : goal.returns-else-low-eq0
unfolding character
returns-else-low-eq0 c =
    let low : c.cast_unsigned.result % 256 ≡ low32 c.args.v % 256 = rw (c.cast_unsigned.ensures, to_z-of_z c.ranges.v, low_bits c.args.v c.ranges.v) in
    let e = low in
    simp (e, ne_eqb _ _ (rw e at c.if-low-eq0.false))
