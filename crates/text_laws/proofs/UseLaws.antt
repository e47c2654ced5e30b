-- The name in each `use` field that is read stands behind `use=`.
-- Assumes nothing.
use Rattle.std.specs.Prelude.{◌≡◌, List, [], ◌∷◌}
use Rattle.std.proofs.Math.Path.{refl}
use Prim.Native.Nat.{ℕ, ◌+◌}
use Rattle.base.specs.Tabulate.{Each}
use Rattle.base.specs.Answer.{gives}
use Rattle.edition.specs.declared.Edition.{Edition}
use Rattle.text.specs.Strings.{read_at, read_bytes}
use Rattle.text.specs.Describing.{Saying, nothing, boolean, number, string, uses}
use Rattle.text.specs.Describing.{SayingAt, Fields, sayings_from}
use Rattle.text.specs.Building.{UseAt, with_use, uses_in}
use Rattle.text_laws.specs.SayingsLaws.{SaidIn, sayings_said}
use Rattle.text_laws.specs.UseLaws.{use_field, NameBehind}

with_behind : (t : List ℕ) (p : ℕ) (s : Saying) (us : List UseAt)
    → ((n : List ℕ) → s ≡ uses n → n ≡ read_bytes (read_at t (p + 4))) → Each (NameBehind t) us
    → Each (NameBehind t) (with_use p s us)
with_behind t p nothing us h r = r
with_behind t p (boolean q s) us h r = r
with_behind t p (number q s) us h r = r
with_behind t p (string q s) us h r = r
with_behind t p (uses n) us h r = (h n refl, r)

said_behind : (e : Edition) (t : List ℕ) (ss : List SayingAt) → Each (SaidIn e t) ss
    → Each (NameBehind t) (uses_in ss)
unfolding uses_in
said_behind e t [] h = tt
said_behind e t (s ∷ ss) h =
    let k = h.0 in
    with_behind t s.place s.saying (uses_in ss)
    (λ n u. (use_field e t s.place (record { saying = s.saying; next = k.next }) n k.judged u).name)
    (said_behind e t ss h.1)

pub uses_behind : (e : Edition) (t : List ℕ) (i : ℕ) (f : Fields) → sayings_from e t i ≡ gives f
    → Each (NameBehind t) (uses_in f.sayings)
uses_behind e t i f w = said_behind e t f.sayings (sayings_said e t i f w)
