-- `write::write` meets its contract: each return is the answer of `writing` in its order.
-- Assumes nothing.
use mathlib.Core.Path.{◌≡◌, sym, ◌∙◌}
use mathlib.Core.Bool.{true}
use borrow.Author.Tests.{eq-eqb, ne_eqb}
use Rattle.entry.specs.Writing.{enough_states, names_fit, is_lent}
use Rattle.write_laws.proofs.AnswerLaws.{enough, refuse_3, refuse_4, refuse_7}
use Rattle.entry.specs.Handed.{handed_by}
use Rattle.write.proofs.write.Goals as goal

pub returns-then-not-enough_states : goal.returns-then-not-enough_states
unfolding enough_states is_lent
returns-then-not-enough_states c =
    let h = handed_by c.args.names.now c.args.states.now c.args.lent.now in
    refuse_3 c.args.edition h c.args.buffer.now (sym c.enough_states.ensures ∙ c.if-not-enough_states.true)

pub returns-then-not-names_fit : goal.returns-then-not-names_fit
unfolding enough_states is_lent
returns-then-not-names_fit c =
    let h = handed_by c.args.names.now c.args.states.now c.args.lent.now in
    let s : enough_states c.args.edition h ≡ true = sym c.enough_states.ensures ∙ c.if-not-enough_states.false in
    refuse_4 c.args.edition h c.args.buffer.now s (sym c.names_fit.ensures ∙ c.if-not-names_fit.true)

pub find_not_lent-requires : goal.find_not_lent-requires
unfolding enough_states is_lent
find_not_lent-requires c =
    let h = handed_by c.args.names.now c.args.states.now c.args.lent.now in
    let s : enough_states c.args.edition h ≡ true = sym c.enough_states.ensures ∙ c.if-not-enough_states.false in
    let k = enough c.args.edition h s in
    (k.string_kinds, (k.string_starts, k.string_lengths))

pub returns-then-find_not_lent-strings : goal.returns-then-find_not_lent-strings
unfolding enough_states is_lent
returns-then-find_not_lent-strings c =
    let h = handed_by c.args.names.now c.args.states.now c.args.lent.now in
    let s : enough_states c.args.edition h ≡ true = sym c.enough_states.ensures ∙ c.if-not-enough_states.false in
    let n : names_fit c.args.names.now ≡ true = sym c.names_fit.ensures ∙ c.if-not-names_fit.false in
    refuse_7 c.args.edition h c.args.buffer.now s n (ne_eqb _ _ (λ q. c.if-find_not_lent-strings.true (c.find_not_lent.ensures ∙ q)))

pub write_lent-requires : goal.write_lent-requires
unfolding enough_states is_lent
write_lent-requires c =
    let h = handed_by c.args.names.now c.args.states.now c.args.lent.now in
    let s : enough_states c.args.edition h ≡ true = sym c.enough_states.ensures ∙ c.if-not-enough_states.false in
    let n : names_fit c.args.names.now ≡ true = sym c.names_fit.ensures ∙ c.if-not-names_fit.false in
    record { enough = s; named = n; lent = eq-eqb _ _ (sym c.find_not_lent.ensures ∙ c.if-find_not_lent-strings.false) }

pub returns : goal.returns
returns c = c.write_lent.ensures
