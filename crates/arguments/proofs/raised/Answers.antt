-- `arguments::raised` meets its contract, by the operand's kind.
-- Assumes nothing.
use mathlib.Core.Path.{◌≡◌, ap, ◌∙◌}
use borrow.Author.Rules.{rules}
use lib.IntN.{ℤ, pos}
use mir.Syntax.{w32}
use mir.Val.{to_z, of_z}
use Rattle.signed.specs.Signed.{add}
use Rattle.signed.proofs.Laws.{again}
use Rattle.expansion.specs.declared.Operand.TheVariants as O
use Rattle.arguments.proofs.raised.Goals as goal

pub returns-in-Number : goal.returns-in-Number
returns-in-Number c =
    let k = c.in-Number.known_told-1-own.given in
    let e : to_z w32 (of_z w32 c.in-Number.v) ≡ c.in-Number.v = search rules in
    let f = again _ c.wrapping_add.type_inv ∙ c.wrapping_add.ensures ∙ ap (λ (z : ℤ). add z (pos 1)) e in
    c.number.ensures ∙ rw c.in-Number.is (ap (λ (z : ℤ). record { operand = O.Number z }) f)

pub returns-in-Text : goal.returns-in-Text
returns-in-Text c = rw c.in-Text.is
