use Rattle.word.specs.Word.{bytes}
use Rattle.base.proofs.OverwriteLaws.{put_store, put_set}
use lib.ListN.{length-set}
use Prim.Native.Nat.{◌+◌, ◌%◌}
use mathlib.Core.List.{[], ◌∷◌}
use mathlib.Core.Path.{refl}
use native.Mathlib.Omega.{arith}
use borrow.Author.Rules.{rules}
use Rattle.word.proofs.put_short.Goals as goal

pub bounds-b-at-2 : goal.bounds-b-at-2
bounds-b-at-2 c = simp length-set (omega arith)

pub shape_of-b : goal.shape_of-b
shape_of-b c = simp length-set

pub returns : goal.returns
unfolding bytes
returns c =
    let a = c.args in
    let v = a.v in
    put_store a.b.now _ a.at (a.at + 1) _ (v % 256 ∷ []) _ (put_set a.b.now a.at (v % 256) (search rules)) refl refl (search rules)
