-- `level_end::pass` meets its contract. The loop's invariant is `Along` of Laws. The measure is what is left of the
-- string.
-- Assumes nothing.
use Prim.Native.Nat.{◌-◌}
use native.Mathlib.Omega.{arith}
use Rattle.level_laws.proofs.OpenLaws.{open_inside, open_item}
use Rattle.level_end.proofs.Laws.{along_start, along_on, along_go, along_stop}
use Rattle.level_end.proofs.pass.Goals as goal

pub loop-n-init : goal.loop-n-init
loop-n-init c = along_start _ _ _ c.requires.1

pub class_at-c-requires : goal.class_at-c-requires
class_at-c-requires c = open_item c.loop-n.invariant.there

pub opened-requires : goal.opened-requires
opened-requires c =
    omega (arith, c.loop-n.invariant.few, open_inside c.loop-n.invariant.there, c.requires.0)

pub enum_known-n : goal.enum_known-n
enum_known-n c = c.in-Some.in-Some-own.keys1

pub loop-n-smaller : goal.loop-n-smaller
loop-n-smaller c =
    let a = c.loop-n.invariant in
    let k = c.class_at-c.ensures in
    omega (arith, along_on a k c.opened.ensures, open_inside c.loop-n.invariant.there)

pub loop-n-preserved : goal.loop-n-preserved
loop-n-preserved c =
    let a = c.loop-n.invariant in
    let k = c.class_at-c.ensures in
    along_go a k c.opened.ensures _ c.in-Some.is

pub enum_told-1 : goal.enum_told-1
enum_told-1 c = c.in-None.in-None-own.keys2

pub returns-in-None : goal.returns-in-None
returns-in-None c =
    let a = c.loop-n.invariant in
    let k = c.class_at-c.ensures in
    along_stop a k c.opened.ensures c.in-None.is
