-- What the calls that expand a string promise.
-- Assumes nothing.
use Rattle.std.specs.Prelude.{◌≡◌, List, ℕ, ◌≤◌, ℤ, length, take, Result}
use Rattle.base.specs.Overwrite.{put_at}
use Rattle.base.specs.Answer.{Answer, map_answer}
use Rattle.expansion.specs.declared.Output.{Output}
use Rattle.expansion.specs.declared.ExpansionRefusal.{ExpansionRefusal}
use Rattle.expansion.specs.declared.Expanded.{Expanded}
use Rattle.expansion.specs.Expanding.{Expanding, counted, says_expansion, lasting_after, output_after, Within}

-- a call for a string of n bytes, whose output has at most room bytes, that comes to a, with these lasting variables
-- before, over a buffer with bytes b before and b' after, answers r
pub record ExpandedAs (n room : ℕ) (a : Answer Expanding) (before : List ℤ) (b : List ℕ) (at : ℕ) (b' : List ℕ)
    (r : Expanded) : Type 0 where
  pub answer : says_expansion r.answer ≡ map_answer counted a
  pub lasting : r.lasting.values ≡ lasting_after before a
  pub output : b' ≡ output_after b at a
  pub within : Within n room r.answer

-- "The lasting variables A to Z are lent by the caller and changed in place": a call for a string of n bytes, whose
-- output has at most room bytes, that comes to a, with variables v before and v' after, over a buffer with bytes b
-- before and b' after, answers r; a refusal leaves both
pub record LentAs (n room : ℕ) (a : Answer Expanding) (v v' : List ℤ) (b : List ℕ) (at : ℕ) (b' : List ℕ)
    (r : Result Output ExpansionRefusal) : Type 0 where
  pub answer : says_expansion r ≡ map_answer counted a
  pub lasting : v' ≡ lasting_after v a
  pub output : b' ≡ output_after b at a
  pub within : Within n room r

-- the first r bytes of a buffer with bytes b, no more than it and a short buffer have, are kept in the short one,
-- whose bytes are k before and k' after
pub record KeptAs (b k k' : List ℕ) (r : ℕ) : Type 0 where
  pub inside : r ≤ length b
  pub room : r ≤ length k
  pub held : k' ≡ put_at k 0 (take r b)
