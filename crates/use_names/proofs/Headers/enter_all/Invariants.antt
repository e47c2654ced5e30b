-- `use_names::Headers::enter_all` meets its contract. The loop's invariant: the descriptions from d on are entered, if
-- there are no more than a text may have.
-- Assumes nothing.
use mathlib.Core.Path.{◌≡◌}
use Prim.Native.Nat.{◌≤◌}
use lib.ListN.{length}
use Rattle.text.specs.Describing.{descriptions_most}
use Rattle.use_names.specs.Hashed.{hashes_count, Firsts}
use Rattle.use_names.proofs.Headers.enter_all.Given as goal

abbrev pub invariant-loop-d : goal.invariant-loop-d
invariant-loop-d l =
    record {
      long : length l.firsts ≡ hashes_count;
      entered : l.self.count ≤ descriptions_most
          → Firsts l.self.text.now l.self.heads.now l.self.commas.now l.self.count l.firsts l.d;
    }
