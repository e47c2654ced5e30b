-- `c_asked::asked_numbers` meets its contract. The invariant: the first i answers are stored.
use Prim.Native.Nat.{ℕ, ◌+◌}
use mathlib.Core.List.{List, [], ◌∷◌, ◌++◌}
use mathlib.Core.Path.{◌≡◌, refl, sym, ap, ◌∙◌}
use native.Mathlib.Omega.{arith}
use lib.ListN.{get_or}
use Rattle.base.proofs.OverwriteLaws.{put_nil, put_store, put_whole}
use Rattle.base.specs.Tabulate.{tabulate}
use Rattle.base.proofs.TabulateLaws.{length_tabulate, tabulate_more}
use Rattle.edition.specs.declared.Edition.{Edition}
use Rattle.c_asked.specs.Asked.{asked_code}
use Rattle.c_asked.proofs.asked_numbers.Goals as goal

abbrev code : Edition → List ℕ → List ℕ → List ℕ → ℕ → ℕ
code e f kinds places j = asked_code e f (get_or kinds j 0) (get_or places j 0)

pub loop-i-init : goal.loop-i-init
unfolding tabulate
loop-i-init c = (refl, sym (put_nil _ 0))

pub loop-i-preserved : goal.loop-i-preserved
loop-i-preserved c =
    let g = code c.args.e c.args.file.now c.args.kinds.now c.args.places.now in (
      c.loop-i.invariant.0,
      put_store _ c.loop-i.answers 0 c.loop-i.i _ (tabulate g c.loop-i.i) (tabulate g (c.loop-i.i + 1)) c.loop-i.invariant.1
          (rw (length_tabulate g c.loop-i.i) (omega arith)) (tabulate_more g c.loop-i.i ∙ ap (λ (x : ℕ). tabulate g c.loop-i.i ++ (x ∷ [])) (sym c.asked_number.ensures))
          (rw c.loop-i.invariant.0 c.loop-i-test.true),
    )

pub returns : goal.returns
returns c =
    let g = code c.args.e c.args.file.now c.args.kinds.now c.args.places.now in
    let n : c.loop-i.i ≡ 8 = omega arith in
    c.loop-i.invariant.1 ∙ rw n (put_whole _ (tabulate g 8) (length_tabulate g 8 ∙ sym c.loop-i.invariant.0))
