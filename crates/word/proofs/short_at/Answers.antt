use Prim.Native.Nat.{◌+◌}
use native.Mathlib.Omega.{arith}
use Rattle.word.proofs.WordLaws.{short_eq}
use Rattle.word.proofs.short_at.Goals as goal

pub overflow_cast-low : goal.overflow_cast-low
overflow_cast-low c = omega (arith, c.type_inv.f c.args.p)

pub overflow_cast-high : goal.overflow_cast-high
overflow_cast-high c = omega (arith, c.type_inv.f (c.args.p + 1))

pub overflow_mul-result : goal.overflow_mul-result
overflow_mul-result c = omega (arith, c.type_inv.f (c.args.p + 1))

pub overflow_add-result : goal.overflow_add-result
overflow_add-result c = omega (arith, c.type_inv.f (c.args.p + 1), c.type_inv.f c.args.p)

pub returns : goal.returns
returns c = (rw (short_eq _ _), omega (arith, c.type_inv.f (c.args.p + 1), c.type_inv.f c.args.p))
