-- What entering a description does: its own states are put under those that are there.
-- Assumes nothing.
use Rattle.std.specs.Prelude.{◌≡◌, List, [], ℕ}
use Rattle.edition.specs.declared.Edition.{Edition}
use Rattle.entry.specs.Writing.{Handed}
use Rattle.compile_laws.specs.Held.{text_entry, Holds}
use Rattle.compile_laws.specs.Listed.{text_descriptions}
use Rattle.use_walk.specs.Walks.{put_own}

pub record PutsOwn (e : Edition) (d : ℕ) (before after : List ℕ → Handed) : Type 0 where
  pub holds : Holds e (after [])
  pub entry : (n : List ℕ)
      → text_entry e (after n) ≡ put_own e (text_descriptions e (before []).lent) (text_entry e (before n)) d
