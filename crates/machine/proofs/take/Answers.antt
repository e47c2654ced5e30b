-- `machine::take` meets its contract, arm by arm: what the called functions promise is the item's effect.
-- Assumes nothing.
use mathlib.Core.Path.{◌≡◌, refl, ap, ◌∙◌}
use mathlib.Core.List.{[], ◌∷◌}
use Prim.Native.Nat.{ℕ}
use lib.IntN.{ℤ}
use mir.Facts.{to_z-of_z}
use Rattle.signed.specs.Signed.{is_zero}
use Rattle.signed.proofs.Laws.{again, called, called_two}
use Rattle.characters.specs.Character.{character}
use Rattle.print.specs.Emit.{emitted}
use Rattle.expansion.specs.Machine.{effect, applied, truth, inverted, stored}
use Rattle.machine.specs.declared.Step.TheVariants.{Push}
use Rattle.machine.specs.Steps.{step_of, machine_after}
use Rattle.machine.proofs.Laws.{emitted_nothing, others_go}
use Rattle.machine.proofs.take.Goals as goal

pub returns-in-Byte : goal.returns-in-Byte
unfolding effect step_of machine_after
returns-in-Byte c st x = rw c.in-Byte.is (record { step = refl; after = refl; output = c.put_byte.ensures })

pub returns-in-Character : goal.returns-in-Character
unfolding effect step_of machine_after
returns-in-Character c st x =
    let e : c.byte_of.result ≡ character c.args.b = c.byte_of.ensures ∙ ap character (to_z-of_z c.ranges.b) in
    rw c.in-Character.is (record { step = refl; after = refl; output = c.put_byte-in-Character.ensures ∙ ap (λ (x : ℕ). emitted c.args.out.now c.args.written (x ∷ [])) e })

pub returns-in-Store : goal.returns-in-Store
unfolding effect step_of machine_after
returns-in-Store c st x =
    rw c.in-Store.is (record { step = refl; after = c.store.ensures st x ∙ ap (stored _ _) (to_z-of_z c.ranges.b); output = emitted_nothing _ _ })

pub returns-in-Load : goal.returns-in-Load
unfolding effect step_of machine_after
returns-in-Load c st x =
    rw c.in-Load.is (record { step = ap Push (again _ c.load.type_inv ∙ c.load.ensures st x); after = refl; output = emitted_nothing _ _ })

pub returns-in-Binary : goal.returns-in-Binary
unfolding effect step_of machine_after
returns-in-Binary c st x =
    rw c.in-Binary.is (record { step = ap Push (called_two (applied c.in-Binary.o) c.ranges.a c.ranges.b c.applied.type_inv c.applied.ensures); after = refl; output = emitted_nothing _ _ })

pub returns-in-Not : goal.returns-in-Not
unfolding effect step_of machine_after
returns-in-Not c st x =
    rw c.in-Not.is (record { step = ap Push (called (λ (v : ℤ). truth (is_zero v)) c.ranges.b c.negated.type_inv c.negated.ensures); after = refl; output = emitted_nothing _ _ })

pub returns-in-Invert : goal.returns-in-Invert
unfolding effect step_of machine_after
returns-in-Invert c st x =
    rw c.in-Invert.is (record { step = ap Push (called inverted c.ranges.b c.inverted.type_inv c.inverted.ensures); after = refl; output = emitted_nothing _ _ })

pub returns-in_default : goal.returns-in_default
returns-in_default c st x =
    let n = c.in_default in
    others_go _ _ _ _ _ _ c.requires.1 n.not-Byte n.not-Character n.not-Store n.not-Load n.not-Binary n.not-Not n.not-Invert
