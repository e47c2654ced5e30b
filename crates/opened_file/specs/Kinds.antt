-- A state by its numbers, as the writer takes it. What is refused counts as absent.
-- Assumes nothing.
use Rattle.std.specs.Prelude.{ℕ}
use Rattle.base.specs.Answer.{Answer, refused, gives}
use Rattle.entry.specs.State.{State, absent, cancelled, present}

-- 0 absent, 1 present, 2 cancelled
abbrev pub kind_given : {A : Type 0} → Answer (State A) → ℕ
kind_given (refused n v) = 0
kind_given (gives absent) = 0
kind_given (gives cancelled) = 2
kind_given (gives (present x)) = 1

-- what is present, or another where nothing is
abbrev pub present_or : {A : Type 0} → A → Answer (State A) → A
present_or d (refused n v) = d
present_or d (gives absent) = d
present_or d (gives cancelled) = d
present_or d (gives (present x)) = x
