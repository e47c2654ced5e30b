-- `lookup::byte_at` meets its contract: an element of a slice of bytes is a byte.
use mathlib.Core.Path.{refl}
use native.Mathlib.Omega.{arith}
use Rattle.lookup.proofs.byte_at.Goals as goal

pub overflow_cast-result : goal.overflow_cast-result
overflow_cast-result c = omega (arith, c.type_inv.name c.args.i)

pub returns : goal.returns
returns c = (refl, omega (arith, c.type_inv.name c.args.i))
