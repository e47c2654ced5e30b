-- `names::name_in` meets its contract: the table's number at a place is the name's.
use Prim.Native.Nat.{◌+◌}
use borrow.Author.Tests.{lt-ltb, le-ltb}
use Rattle.names.proofs.NamingLaws.{packed_at}
use Rattle.names.proofs.name_in.Goals as goal

pub returns-then-count-place : goal.returns-then-count-place
returns-then-count-place c = rw (le-ltb _ _ c.if-count-place.true)

pub returns : goal.returns
returns c = rw (lt-ltb _ _ c.if-count-place.false, c.packed_name.ensures, packed_at (c.args.first + c.args.place.0))
