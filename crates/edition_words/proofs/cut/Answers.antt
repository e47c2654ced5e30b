-- `edition_words::cut` meets its contract, by the place of the first comma.
-- Assumes nothing.
use mathlib.Core.Path.{◌≡◌, ap}
use Prim.Native.Nat.{ℕ, ◌+◌}
use lib.ListN.{take, drop}
use borrow.Author.Rules.{rules}
use Rattle.std.proofs.lemmas.List.{take_rest}
use Rattle.edition_words.specs.Words.{before_comma}
use Rattle.edition_words.proofs.Laws.{before_found}
use Rattle.edition_words.proofs.cut.Goals as goal

pub returns : goal.returns
returns c =
    let w = c.args.word.now in
    let e : c.in_ok-n.n ≡ before_comma w = before_found w c.in_ok-n.n (search rules) (search rules) (search rules) in
    record {
      inside = rw (← e) (search rules);
      before_is = ap (λ (n : ℕ). take n w) e;
      behind_is = rw take_rest (ap (λ (n : ℕ). drop (n + 1) w) e);
    }
