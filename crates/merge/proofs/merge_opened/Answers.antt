-- `merge::merge_opened` meets its contract: by what filling the strings answers.
use mathlib.Core.Path.{refl, subst}
use Rattle.merge_states.specs.Filled.{StringsMeasured}
use Prim.Native.Nat.{ℕ}
use Rattle.std.specs.Prelude.{Option}
use Rattle.merge_states.proofs.Laws.{strings_given, merge_large}
use Rattle.merge.proofs.merge_opened.Goals as goal

pub fill_strings-requires : goal.fill_strings-requires
fill_strings-requires c = (c.requires, strings_given c.requires.first _ _ _ refl refl refl)

pub merge_filled-requires : goal.merge_filled-requires
merge_filled-requires c =
    let o = c.requires in
    (o, (subst (λ (r : Option ℕ). StringsMeasured c.args.both.now.edition c.args.both.now.first.now c.args.both.now.second.now c.fill_strings.new.kinds c.fill_strings.new.starts c.fill_strings.new.lengths r) c.in-Some.is c.fill_strings.ensures, strings_given c.requires.first c.fill_strings.new.kinds c.fill_strings.new.starts c.fill_strings.new.lengths c.fill_strings.auto.kinds c.fill_strings.auto.starts c.fill_strings.auto.lengths))

pub returns-in-None : goal.returns-in-None
returns-in-None c =
    merge_large c.args.both.now.edition c.args.both.now.first.now c.args.both.now.second.now c.args.buffer.now c.requires (subst (λ (r : Option ℕ). StringsMeasured c.args.both.now.edition c.args.both.now.first.now c.args.both.now.second.now c.fill_strings.new.kinds c.fill_strings.new.starts c.fill_strings.new.lengths r) c.in-None.is c.fill_strings.ensures)
