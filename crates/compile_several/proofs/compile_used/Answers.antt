-- `compile_several::compile_used` meets its contract: the arrays are cleared, the uses walked, and the file written.
-- Assumes nothing.
use mathlib.Core.Path.{refl, sym, subst}
use native.Mathlib.Omega.{arith}
use lib.ListN.{length, get_or}
use Rattle.std.proofs.lemmas.Result.{err_from_is_err_and}
use Rattle.base.specs.Answer.{Leaves}
use Rattle.entry.specs.Writing.{Handed}
use Rattle.text.specs.Heading.{names_to}
use Rattle.text.specs.Compiling.{fitting_named, says_compiled}
use Rattle.compile_laws.specs.Held.{Holds, text_entry}
use Rattle.compile_laws.proofs.ClearedLaws.{cleared_holds, holds_named}
use Rattle.compile_several.proofs.Built.{walk_done, walk_bad}
use Rattle.compile_several.proofs.compile_used.Goals as goal

pub walk-requires : goal.walk-requires
walk-requires c =
    let l = c.requires.1.1.0.counted in
    let a = c.requires.1.1.1.0.counted in
    let d = c.requires.1.0 in (
      omega arith,
      (
        c.requires.1.1.1.0,
        cleared_holds c.args.edition c.args.headers.now.text.now c.requires.0,
      ),
    )

pub returns-in_err-walk : goal.returns-in_err-walk
returns-in_err-walk c =
    let p = err_from_is_err_and c.from_residual.result c.from_residual.ensures.1 in
    rw (p.1, p.2)
    (walk_bad c.args.edition c.args.headers.now.text.now c.args.d _ _
    c.in_err-walk.ensures.walked c.args.buffer.now)

pub write-requires : goal.write-requires
write-requires c =
    let t = c.args.headers.now.text.now in
    let n = names_to t (get_or c.args.headers.now.heads.now c.args.d 0) (get_or c.args.headers.now.commas.now c.args.d 0) in
    (c.requires.0, subst (Holds c.args.edition) (sym (c.lent.ensures t n)) (holds_named _ _ _ _ _ _ _ _ _ c.walk.ensures.walked.holds))

pub returns : goal.returns
returns c =
    let t = c.args.headers.now.text.now in
    let n = names_to t (get_or c.args.headers.now.heads.now c.args.d 0) (get_or c.args.headers.now.commas.now c.args.d 0) in
    walk_done c.args.edition t c.args.d _ _ c.in_ok-walk.ensures.walked
    n (sym (c.requires.1.1.0.stands c.args.d c.requires.1.0).names) refl c.requires.1.1.1.1 c.args.buffer.now _ _
    (subst (λ (h : Handed). Leaves (fitting_named (length c.args.buffer.now) (text_entry c.args.edition h)) c.args.buffer.now
    c.write.new.buffer (says_compiled c.write.result))
    (c.lent.ensures t n) c.write.ensures)
