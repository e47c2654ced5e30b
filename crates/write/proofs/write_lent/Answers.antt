-- `write::write_lent` meets its contract: each return is the answer of `writing` in its order.
-- Assumes nothing.
use mathlib.Core.Path.{◌≡◌, sym, ap, ◌∙◌}
use mathlib.Core.Bool.{true}
use mathlib.Core.List.{List, append-nil}
use Prim.Native.Nat.{ℕ}
use native.Mathlib.Omega.{arith}
use lib.ListN.{length}
use Rattle.base.specs.Overwrite.{put_at}
use Rattle.entry.specs.Layout.{size_of}
use Rattle.entry.specs.Writing.{encode, entry_of, enough_states, is_lent, boolean_fits_at, number_fits_at, string_fits_at, states_fit}
use Rattle.write_laws.proofs.AnswerLaws.{enough, length_handed, size_fits, sure, refuse_13, refuse_9, refuse_8, give_file}
use Rattle.write_laws.specs.File.{sizes_handed}
use Rattle.entry.specs.Handed.{handed_by, with_lent}
use Rattle.write.proofs.write_lent.Goals as goal

pub states_fit-requires : goal.states_fit-requires
unfolding enough_states is_lent
states_fit-requires c =
    (c.requires.enough, c.requires.lent)

pub returns-then-not-states_fit : goal.returns-then-not-states_fit
unfolding states_fit boolean_fits_at number_fits_at string_fits_at
returns-then-not-states_fit c =
    let h = handed_by c.args.names.now c.args.states.now c.args.lent.now in
    refuse_13 c.args.edition h c.args.buffer.now c.requires (sym c.states_fit.ensures ∙ c.if-not-states_fit.true)

pub sizes-s-requires : goal.sizes-s-requires
unfolding states_fit boolean_fits_at number_fits_at string_fits_at
sizes-s-requires c =
    let h = handed_by c.args.names.now c.args.states.now c.args.lent.now in
    let t : states_fit c.args.edition h ≡ true = sym c.states_fit.ensures ∙ c.if-not-states_fit.false in
    let k = enough c.args.edition h c.requires.enough in
    let m = size_fits c.args.edition h c.requires t in
    (k.string_kinds, (k.string_lengths, omega arith))

pub file_size-size-requires : goal.file_size-size-requires
unfolding states_fit boolean_fits_at number_fits_at string_fits_at
file_size-size-requires c =
    let h = handed_by c.args.names.now c.args.states.now c.args.lent.now in
    let t : states_fit c.args.edition h ≡ true = sym c.states_fit.ensures ∙ c.if-not-states_fit.false in
    let m = size_fits c.args.edition h c.requires t in
    let q : size_of c.sizes-s.result ≡ size_of (sizes_handed c.args.edition h) = ap size_of c.sizes-s.ensures in
    omega arith

pub returns-then-size-gt-FILE_MOST : goal.returns-then-size-gt-FILE_MOST
unfolding states_fit boolean_fits_at number_fits_at string_fits_at
returns-then-size-gt-FILE_MOST c =
    let h = handed_by c.args.names.now c.args.states.now c.args.lent.now in
    let t : states_fit c.args.edition h ≡ true = sym c.states_fit.ensures ∙ c.if-not-states_fit.false in
    let w : c.file_size-size.result ≡ length (encode (entry_of c.args.edition h)) = c.file_size-size.ensures ∙ ap size_of c.sizes-s.ensures ∙ sym (length_handed c.args.edition h c.requires) in
    refuse_9 c.args.edition h c.args.buffer.now c.requires t c.file_size-size.result w c.if-size-gt-FILE_MOST.true

pub returns-then-buffer-size : goal.returns-then-buffer-size
unfolding states_fit boolean_fits_at number_fits_at string_fits_at
returns-then-buffer-size c =
    let h = handed_by c.args.names.now c.args.states.now c.args.lent.now in
    let t : states_fit c.args.edition h ≡ true = sym c.states_fit.ensures ∙ c.if-not-states_fit.false in
    let w : c.file_size-size.result ≡ length (encode (entry_of c.args.edition h)) = c.file_size-size.ensures ∙ ap size_of c.sizes-s.ensures ∙ sym (length_handed c.args.edition h c.requires) in
    refuse_8 c.args.edition h c.args.buffer.now c.requires t c.file_size-size.result w c.if-size-gt-FILE_MOST.false c.if-buffer-size.true

pub write_sure-requires : goal.write_sure-requires
write_sure-requires c =
    let h = handed_by c.args.names.now c.args.states.now c.args.lent.now in
    let q = c.file_size-size.ensures in
    let m = c.if-size-gt-FILE_MOST.false in
    let r = c.if-buffer-size.false in
    sure c.args.edition h c.requires c.args.buffer.now c.sizes-s.result c.sizes-s.ensures (omega arith) (omega arith)

pub shape_of-buffer : goal.shape_of-buffer
shape_of-buffer c = c.write_sure.auto.b

pub returns : goal.returns
unfolding states_fit boolean_fits_at number_fits_at string_fits_at
returns c =
    let h = handed_by c.args.names.now c.args.states.now c.args.lent.now in
    let t : states_fit c.args.edition h ≡ true = sym c.states_fit.ensures ∙ c.if-not-states_fit.false in
    let w : c.file_size-size.result ≡ length (encode (entry_of c.args.edition h)) = c.file_size-size.ensures ∙ ap size_of c.sizes-s.ensures ∙ sym (length_handed c.args.edition h c.requires) in
    let e = c.write_sure.ensures ∙ ap (λ (l : List ℕ). put_at c.args.buffer.now 0 (encode (entry_of c.args.edition (with_lent h l)))) (append-nil c.args.lent.now) in
    give_file c.args.edition h c.args.buffer.now c.requires t c.file_size-size.result w c.if-size-gt-FILE_MOST.false c.if-buffer-size.false c.write_sure.new.b e
