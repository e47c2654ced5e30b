-- `use_names::Headers::resolve` meets its contract. The loop's invariant: the first i uses lead where the targets say.
-- Assumes nothing.
use mathlib.Core.Path.{sym, ap, ◌∙◌}
use native.Mathlib.Omega.{arith}
use Rattle.compile_laws.specs.Listed.{target_of}
use Rattle.use_names.specs.Having.{says_named}
use Rattle.use_names.proofs.UseLaws.{targets_more}
use Rattle.use_names.proofs.Headers.resolve.Goals.{in-None, in-Some}
use Rattle.use_names.proofs.Headers.resolve.Goals as goal

pub loop-i-preserved : goal.loop-i-preserved
loop-i-preserved c =
    λ e ds l. targets_more _ ds _ _ _ _ (omega arith) (c.loop-i.invariant e ds l)
    (elim c.match-find_used.branch [
      | in-None w ↦
          w.targets-is
          ∙ ap target_of (sym (ap says_named w.in-None.is)
          ∙ c.find_used.ensures.named (c.enter_all.ensures l.few) e ds l)
      | in-Some w ↦
          let b = rw w.in-Some.is at c.find_used.ensures.below in
          let m = l.few in
          w.targets-is ∙ w.byte_of.ensures (omega arith)
          ∙ ap target_of (sym (ap says_named w.in-Some.is)
          ∙ c.find_used.ensures.named (c.enter_all.ensures l.few) e ds l)
    ])

pub returns : goal.returns
returns c = λ e ds l j k. c.loop-i.invariant e ds l j (omega arith)
