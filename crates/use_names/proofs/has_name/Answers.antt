-- `use_names::has_name` meets its contract. The loop's invariant: the name is one of those left if it is one of all.
-- Assumes nothing.
use mathlib.Core.Path.{refl, sym, ◌∙◌}
use native.Mathlib.Omega.{arith}
use Rattle.std.proofs.lemmas.Grind.{common_steps}
use Rattle.text.specs.Building.{has_name}
use Rattle.use_names.proofs.NameLaws.{left_last, left_hit, left_pass}
use Rattle.use_names.proofs.has_name.Goals as goal

pub loop-bar-init : goal.loop-bar-init
unfolding has_name
loop-bar-init c = (omega arith, refl)

pub returns-then-eq : goal.returns-then-eq
returns-then-eq c =
    sym (left_hit _ _ _ c.in-Some.ensures _ (grind (arith, common_steps)) (sym c.eq.ensures ∙ c.if-eq.true))
    ∙ c.loop-bar.invariant.1

pub overflow_add-rest : goal.overflow_add-rest
overflow_add-rest c = let b = c.in-Some.ensures.0 in omega arith

pub loop-bar-preserved : goal.loop-bar-preserved
loop-bar-preserved c = (
  grind (arith, common_steps),
  left_pass _ _ _ c.in-Some.ensures _ (grind (arith, common_steps)) (sym c.eq.ensures ∙ c.if-eq.false)
      ∙ c.loop-bar.invariant.1,
)

pub returns : goal.returns
returns c = grind (arith, common_steps) ∙ sym (left_last _ _ c.in_default.ensures) ∙ c.loop-bar.invariant.1
