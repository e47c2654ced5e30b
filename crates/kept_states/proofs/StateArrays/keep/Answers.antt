-- `kept_states::StateArrays::keep` meets its contract: one law for each kind of capability.
-- Assumes nothing.
use mathlib.Core.Path.{subst}
use native.Mathlib.Omega.{arith}
use Rattle.judge.specs.Judged.{SaidIn}
use Rattle.compile_laws.proofs.KeepLaws.{keeps_nothing, keeps_use, keeps_boolean, keeps_number, keeps_string}
use Rattle.kept_states.proofs.StateArrays.keep.Goals as goal

pub keep_boolean-requires : goal.keep_boolean-requires
keep_boolean-requires c =
    let l = subst (SaidIn c.args.edition c.args.text.now) c.in-Boolean.is c.requires.0 in
    let g = c.requires.1.given.booleans in
    omega arith

pub keep_number-requires : goal.keep_number-requires
keep_number-requires c =
    let l = subst (SaidIn c.args.edition c.args.text.now) c.in-Number.is c.requires.0 in
    let g = c.requires.1.given.number_kinds in
    let f = c.requires.1.given.number_values in
    (omega arith, omega arith)

pub keep_string-requires : goal.keep_string-requires
keep_string-requires c =
    let l = (subst (SaidIn c.args.edition c.args.text.now) c.in-String.is c.requires.0).0 in
    let g = c.requires.1.given.string_kinds in
    let f = c.requires.1.given.string_starts in
    let k = c.requires.1.given.string_lengths in
    (omega arith, (omega arith, omega arith))

pub returns-in-Nothing-clause-kept : goal.returns-in-Nothing-clause-kept
returns-in-Nothing-clause-kept c =
    keeps_nothing c.args.edition _ _ _ _ _ _ _ c.requires.1 _ c.in-Nothing.is

pub returns-in-Boolean-clause-kept : goal.returns-in-Boolean-clause-kept
returns-in-Boolean-clause-kept c =
    let l = subst (SaidIn c.args.edition c.args.text.now) c.in-Boolean.is c.requires.0 in
    keeps_boolean c.args.edition _ _ _ _ _ _ _ c.requires.1 _ _ _ _ l c.keep_boolean.ensures c.in-Boolean.is

pub returns-in-Number-clause-kept : goal.returns-in-Number-clause-kept
returns-in-Number-clause-kept c =
    let l = subst (SaidIn c.args.edition c.args.text.now) c.in-Number.is c.requires.0 in
    keeps_number c.args.edition _ _ _ _ _ _ _ c.requires.1 _ _ _ _ _ _ l c.keep_number.ensures.0 c.keep_number.ensures.1 c.in-Number.is

pub returns-in-String-clause-kept : goal.returns-in-String-clause-kept
returns-in-String-clause-kept c =
    let l = subst (SaidIn c.args.edition c.args.text.now) c.in-String.is c.requires.0 in
    keeps_string c.args.edition _ _ _ _ _ _ _ c.requires.1 _ _ _ _ _ _ _ _ l.0 l.1 c.keep_string.ensures.0 c.keep_string.ensures.1.0 c.keep_string.ensures.1.1 c.in-String.is

pub returns-in-Use-clause-kept : goal.returns-in-Use-clause-kept
returns-in-Use-clause-kept c =
    keeps_use c.args.edition _ _ _ _ _ _ _ c.requires.1 _ _ _ c.in-Use.is
