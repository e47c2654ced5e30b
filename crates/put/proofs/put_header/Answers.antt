-- `put::put_header` meets its contract: six shorts, each behind the last.
-- Assumes nothing.
use mathlib.Core.Path.{refl, sym, ◌∙◌}
use mathlib.Core.List.{[], ◌∷◌}
use native.Mathlib.Omega.{arith}
use Rattle.base.proofs.OverwriteLaws.{put_nil}
use Rattle.word.specs.Word.{words}
use Rattle.entry.specs.Writing.{header}
use Rattle.put.proofs.TableLaws.{put_front_short}
use Rattle.put.proofs.put_header.Goals as goal

pub returns : goal.returns
unfolding words header
returns c =
    let s = c.args.s in
    let b = c.args.b.now in
    let e1 = c.put_short.ensures ∙ put_front_short b b 0 (282) [] (sym (put_nil b 0)) refl (omega arith) in
    let e2 = c.put_short-2.ensures ∙ put_front_short b c.put_short.new.b 2 s.names (282 ∷ []) e1 refl (omega arith) in
    let e3 = c.put_short-3.ensures ∙ put_front_short b c.put_short-2.new.b 4 s.booleans (282 ∷ s.names ∷ []) e2 refl (omega arith) in
    let e4 = c.put_short-4.ensures ∙ put_front_short b c.put_short-3.new.b 6 s.numbers (282 ∷ s.names ∷ s.booleans ∷ []) e3 refl (omega arith) in
    let e5 = c.put_short-5.ensures ∙ put_front_short b c.put_short-4.new.b 8 s.strings (282 ∷ s.names ∷ s.booleans ∷ s.numbers ∷ []) e4 refl (omega arith) in
    let e6 = c.put_short-6.ensures ∙ put_front_short b c.put_short-5.new.b 10 s.table (282 ∷ s.names ∷ s.booleans ∷ s.numbers ∷ s.strings ∷ []) e5 refl (omega arith) in
    e6
