-- What a reader is answered when it opens a written file and asks.
-- Assumes nothing.
use Rattle.std.specs.Prelude.{◌≡◌, refl, Bool, true, false, ◌&&◌, List, [], ℕ}
use Rattle.std.proofs.Common.{ap}
use Rattle.base.specs.If.{when◌then◌else◌}
use Rattle.edition.specs.declared.Edition.{Edition}
use Rattle.base.specs.Answer.{refused, gives, map_answer, is_given}
use Rattle.entry.specs.Asking.{opening, asking}

-- ---- what is asked for

pub map_asking : {A B : Type 0} (g : A → B) (r : Edition) (f : List ℕ) (known : Bool) (a : A)
    → map_answer g (asking r f known a) ≡ asking r f known (g a)
unfolding asking
map_asking g r f known a = by_test (is_given (opening r f) && known)
  where
    by_test : (t : Bool)
        → map_answer g (when t then gives a else refused 17 []) ≡ (when t then gives (g a) else refused 17 [])
    by_test true = refl
    by_test false = refl

pub asking_gives : {A : Type 0} (r : Edition) (f : List ℕ) (known : Bool) (a b : A) → is_given (opening r f) ≡ true
    → known ≡ true → a ≡ b
    → asking r f known a ≡ gives b
unfolding asking
asking_gives r f known a b o k e = rw (o, k, e)

pub asking_same : {A : Type 0} (r : Edition) (f g : List ℕ) (known : Bool) (a b : A)
    → is_given (opening r f) ≡ is_given (opening r g) → (known ≡ true → a ≡ b) → asking r f known a ≡ asking r g known b
unfolding asking
asking_same r f g known a b o e = rw o (by_test (is_given (opening r g)) known e)
  where
    by_test : (t k : Bool) → (k ≡ true → a ≡ b)
        → (when t && k then gives a else refused 17 []) ≡ (when t && k then gives b else refused 17 [])
    by_test false k d = refl
    by_test true false d = refl
    by_test true true d = ap gives (d refl)
