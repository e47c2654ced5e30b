use mathlib.Core.Path.{refl, sym, ◌∙◌}
use native.Mathlib.Omega.{arith}
use Rattle.std.proofs.lemmas.Bool.Decides.{nat_tests}
use Rattle.std.proofs.lemmas.Grind.{common_steps}
use Rattle.text.specs.Fields.{form_at}
use Rattle.text_laws.specs.FieldLaws.{byte_within}
use Rattle.fields.proofs.form_at.Goals as goal

pub number_at-requires : goal.number_at-requires
number_at-requires c = omega (arith, byte_within c.args.text.now c.args.at 35 refl (sym c.byte_at.ensures ∙ c.in-35.is))

pub returns-in-44 : goal.returns-in-44
unfolding form_at
returns-in-44 c = rw (← c.byte_at.ensures, c.in-44.is)

pub returns-in-64 : goal.returns-in-64
unfolding form_at
returns-in-64 c = rw (← c.byte_at.ensures, c.in-64.is)

pub returns-in-35 : goal.returns-in-35
unfolding form_at
returns-in-35 c = rw (← c.byte_at.ensures, c.in-35.is) c.number_at.ensures

pub returns-in_ok-content-in-61 : goal.returns-in_ok-content-in-61
unfolding form_at
returns-in_ok-content-in-61 c = rw (← c.byte_at.ensures, c.in-61.is, ← c.content_at.ensures, c.in_ok-content-in-61.was)

pub returns-in_err-content-in-61 : goal.returns-in_err-content-in-61
unfolding form_at
returns-in_err-content-in-61 c = rw (c.from_residual.ensures, ← c.byte_at.ensures, c.in-61.is, ← c.content_at.ensures, c.in_err-content-in-61.was)

pub returns-in_default : goal.returns-in_default
unfolding form_at
returns-in_default c = let e = c.byte_at.ensures in rw (← e) (grind (arith, nat_tests, common_steps))
