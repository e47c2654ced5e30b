-- `compile_several::compile_found` meets its contract: the totals, the wanted description, where the uses lead, and the
-- rest.
-- Assumes nothing.
use mathlib.Core.Path.{sym}
use Prim.Native.Nat.{ℕ}
use native.Mathlib.Omega.{arith}
use lib.ListN.{length-replicate}
use Rattle.std.proofs.lemmas.Result.{err_from_is_err_and}
use Rattle.compile_laws.specs.Listed.{text_descriptions}
use Rattle.use_walk.proofs.GraphLaws.{holds_uses}
use Rattle.wanted.specs.Wanted.{wanted_by}
use Rattle.compile_several.proofs.Built.{total_bad, wanted_bad, wanted_comes, found_below, found_fits}
use Rattle.compile_several.proofs.Built.{found_arrays}
use Rattle.compile_several.proofs.compile_found.Goals as goal

pub returns-in_err-totals : goal.returns-in_err-totals
returns-in_err-totals c =
    let e = c.args.edition in
    let t = c.args.headers.now.text.now in
    let p = err_from_is_err_and c.from_residual.result c.from_residual.ensures.1 in
    rw (p.1, p.2)
    (total_bad e t (wanted_by c.args.wanted) (text_descriptions e t) c.requires.1.0 _ _
    (sym (c.in_err-totals.ensures e t (text_descriptions e t) c.requires.1.1.0)) c.args.buffer.now)

pub invariant_of-uses : goal.invariant_of-uses
invariant_of-uses c =
    let e = c.args.edition in
    let t = c.args.headers.now.text.now in
    let l = c.requires.1.1.0 in
    let u = c.requires.1.1.1.0 in
    let r = c.requires.1.1.1.1 in
    let k = length-replicate {A = ℕ} 3276 0 in
    let m = c.resolve.auto.targets in
    record {
      held =
          holds_uses
          (found_arrays e t _ _ _ _ _ l u _ (omega arith) (c.resolve.ensures e (text_descriptions e t) l)) l.some;
      fits = omega arith;
    }

pub compile_used-requires : goal.compile_used-requires
compile_used-requires c =
    let e = c.args.edition in
    let t = c.args.headers.now.text.now in
    let l = c.requires.1.1.0 in
    let u = c.requires.1.1.1.0 in
    let r = c.requires.1.1.1.1 in
    let b = found_below e t _ _ _ _ _ l u (wanted_by c.args.wanted) _ (sym (c.in-Some.ensures e (text_descriptions e t) l)) in
    let k = length-replicate {A = ℕ} 3276 0 in
    let m = c.resolve.auto.targets in
    (c.requires.0, (b, (l, (found_arrays e t _ _ _ _ _ l u _ (omega arith) (c.resolve.ensures e (text_descriptions e t) l), found_fits e t _ _ _ _ _ l u _ (sym (c.in_ok-totals.ensures e t (text_descriptions e t) l)) b))))

pub returns-in-None : goal.returns-in-None
returns-in-None c =
    let e = c.args.edition in
    let t = c.args.headers.now.text.now in
    let l = c.requires.1.1.0 in
    wanted_bad e t (wanted_by c.args.wanted) (text_descriptions e t) c.requires.1.0
    (sym (c.in_ok-totals.ensures e t (text_descriptions e t) l)) (sym (c.in-None.ensures e (text_descriptions e t) l))
    c.args.buffer.now

pub returns-in-Some : goal.returns-in-Some
returns-in-Some c =
    let e = c.args.edition in
    let t = c.args.headers.now.text.now in
    let l = c.requires.1.1.0 in
    wanted_comes e t (wanted_by c.args.wanted) (text_descriptions e t) c.requires.1.0
    (sym (c.in_ok-totals.ensures e t (text_descriptions e t) l)) _ (sym (c.in-Some.ensures e (text_descriptions e t) l))
    c.args.buffer.now _ _ c.compile_used.ensures
