-- `compile::compile_wanted` meets its contract: by the edition, the text's length and whether one description is alone.
-- Assumes nothing.
use mathlib.Core.Path.{sym, ◌∙◌, subst}
use lib.ListN.{length}
use Rattle.text.specs.Building.{building_text}
use Rattle.text.specs.Compiling.{fitted}
use Rattle.wanted.specs.Wanted.{wanted_by}
use Rattle.compile_alone.specs.Tries.{Tries}
use Rattle.compile.proofs.Laws.{edition_large, text_long, text_comes, several_comes}
use Rattle.compile.proofs.compile_wanted.Goals as goal

pub returns-then-is_large : goal.returns-then-is_large
returns-then-is_large c =
    let w = wanted_by c.args.wanted in
    edition_large c.args.edition c.args.text.now w c.args.buffer.now (sym c.edition_ok-is_large.ensures ∙ c.if-is_large.true)

pub returns-then-is_long : goal.returns-then-is_long
returns-then-is_long c =
    let w = wanted_by c.args.wanted in
    text_long c.args.edition c.args.text.now w c.args.buffer.now (sym c.edition_ok-is_large.ensures ∙ c.if-is_large.false) c.if-is_long.true

pub try_first-requires : goal.try_first-requires
try_first-requires c = (sym c.edition_ok-is_large.ensures ∙ c.if-is_large.false)

pub compile-requires : goal.compile-requires
compile-requires c = ((sym c.edition_ok-is_large.ensures ∙ c.if-is_large.false), c.if-is_long.false)

pub returns-in-Some : goal.returns-in-Some
returns-in-Some c =
    let w = wanted_by c.args.wanted in
    text_comes c.args.edition c.args.text.now w c.args.buffer.now (sym c.edition_ok-is_large.ensures ∙ c.if-is_large.false) c.if-is_long.false _ _ (subst (Tries (fitted (length c.args.buffer.now) (building_text c.args.edition c.args.text.now w)) c.args.buffer.now _) c.in-Some.is c.try_first.ensures)

pub returns-in-None : goal.returns-in-None
returns-in-None c =
    let w = wanted_by c.args.wanted in
    text_comes c.args.edition c.args.text.now w c.args.buffer.now (sym c.edition_ok-is_large.ensures ∙ c.if-is_large.false) c.if-is_long.false _ _ (several_comes c.args.edition c.args.text.now w c.args.buffer.now _ (subst (Tries (fitted (length c.args.buffer.now) (building_text c.args.edition c.args.text.now w)) c.args.buffer.now _) c.in-None.is c.try_first.ensures) _ _ c.compile.ensures)
