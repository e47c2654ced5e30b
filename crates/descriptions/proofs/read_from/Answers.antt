-- `descriptions::read_from` meets its contract. The loop's invariant: the arrays hold the descriptions read.
-- Assumes nothing.
use native.Mathlib.Omega.{arith}
use Rattle.std.proofs.lemmas.Result.{err_from_is_err_and}
use Rattle.descriptions.proofs.ReadLaws.{read_start, read_full, read_refused, read-last, read_more}
use Rattle.descriptions.proofs.read_from.Goals as goal

pub loop-d-init : goal.loop-d-init
loop-d-init c = read_start _ _ _ _ _ _ _ c.requires.0 c.requires.1

pub returns-in_err-read : goal.returns-in_err-read
returns-in_err-read c =
    let p = err_from_is_err_and c.from_residual.result c.from_residual.ensures.1 in
    rw (p.1, p.2)
    (read_refused _ _ _ _ _ _ _ _ _ c.loop-d.invariant c.loop-d-test.true c.description_at.new.places _
    c.head_place.ensures _ c.in_err-read.ensures)

pub returns-in-None : goal.returns-in-None
returns-in-None c =
    read-last _ _ _ _ _ _ _ _ _ c.loop-d.invariant c.loop-d-test.true _ _ c.head_place.ensures _ c.in_ok-read.ensures
    _ _ _ c.list.ensures.0 c.list.ensures.1.0 c.list.ensures.1.1 c.in-None.is

pub loop-d-preserved : goal.loop-d-preserved
loop-d-preserved c =
    read_more _ _ _ _ _ _ _ _ _ c.loop-d.invariant c.loop-d-test.true _ _ c.head_place.ensures _ c.in_ok-read.ensures
    _ _ _ c.list.ensures.0 c.list.ensures.1.0 c.list.ensures.1.1 _ c.in-Some.is

pub returns : goal.returns
returns c =
    let h = c.loop-d.auto.d-end in
    let f = c.loop-d-test.false in
    read_full _ _ _ _ _ _ _ _ _ c.loop-d.invariant (omega arith) c.one_too_many.result c.one_too_many.ensures
