-- Laws of compiling a text: the edition, the text's length, and what comes after them.
-- Assumes nothing.
use mathlib.Core.Path.{◌≡◌, subst}
use mathlib.Core.Bool.{true, false}
use mathlib.Core.List.{List, []}
use Prim.Native.Nat.{ℕ, ◌≤◌, ◌<◌}
use lib.ListN.{length}
use borrow.Author.Tests.{le-leb, lt-leb}
use Rattle.base.specs.Answer.{Answer, refused, Leaves}
use Rattle.edition.specs.declared.Edition.{Edition}
use Rattle.edition.specs.Edition.{ok_edition}
use Rattle.text.specs.Bytes.{text_most}
use Rattle.text.specs.Building.{Wanted, building_text}
use Rattle.text.specs.Compiling.{fitted, compiling}

pub edition_large : (e : Edition) (t : List ℕ) (w : Wanted) (b : List ℕ) → ok_edition e ≡ false
    → Leaves (compiling e t w (length b)) b b (refused 3 [])
unfolding compiling
edition_large e t w b o = (rw o, rw o)

module _ (e : Edition) (t : List ℕ) (w : Wanted) (b : List ℕ) (o : ok_edition e ≡ true) where
  pub text_long : text_most < length t → Leaves (compiling e t w (length b)) b b (refused 1 [])
  unfolding compiling
  text_long l = (rw (o, lt-leb _ _ l), rw (o, lt-leb _ _ l))

  pub text_comes : length t ≤ text_most → (d : List ℕ) (says : Answer ℕ)
      → Leaves (fitted (length b) (building_text e t w)) b d says → Leaves (compiling e t w (length b)) b d says
  unfolding compiling
  text_comes l d says a = rw (o, le-leb _ _ l) a

-- what was tried has left the buffer as it was
pub several_comes : (e : Edition) (t : List ℕ) (w : Wanted) (b m : List ℕ) → m ≡ b → (d : List ℕ) (says : Answer ℕ)
    → Leaves (fitted (length m) (building_text e t w)) m d says
    → Leaves (fitted (length b) (building_text e t w)) b d says
several_comes e t w b m q d says h =
    subst (λ (x : List ℕ). Leaves (fitted (length x) (building_text e t w)) x d says) q h
