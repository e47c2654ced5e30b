-- The calls for C that ask: the number that each answers (include/terminfo_c.h says the same in words).
-- Assumes nothing.
use Rattle.std.specs.Prelude.{List, [], ℕ, eqb, get_or, Option, Some, None}
use Rattle.base.specs.If.{when◌then◌else◌}
use Rattle.base.specs.Tabulate.{tabulate}
use Rattle.base.specs.Answer.{Answer, refused, gives, is_given}
use Rattle.edition.specs.declared.Edition.{Edition}
use Rattle.edition.specs.declared.Kind.{Kind}
use Rattle.edition.specs.declared.Kind.TheVariants as Kinds
use Rattle.edition.specs.declared.Place.{Place}
use Rattle.edition.specs.Edition.{place}
use Rattle.entry.specs.Asking.{opening, asking_boolean, asking_number, asking_string}
use Rattle.names.specs.Naming.{naming}
use Rattle.names.specs.declared.Found.{Found}
use Rattle.names.specs.declared.Found.TheVariants as F
use Rattle.names.specs.Finding.{says_found}
use Rattle.names.specs.Lookup.{looking_up}
use Rattle.c_numbers.specs.Numbers.{refused_number, boolean_number, number_number, string_number, capability_number}

abbrev pub edition : ℕ → ℕ → ℕ → Edition
edition b n s = record { booleans = b; numbers = n; strings = s }

-- a kind by its number
abbrev pub kind_of : ℕ → Option Kind
kind_of k =
    when eqb k 0 then Some Kinds.Boolean
    else when eqb k 1 then Some Kinds.Number
    else when eqb k 2 then Some Kinds.String
    else None

abbrev pub kind_state : Edition → List ℕ → Kind → Place → ℕ
kind_state e f Kinds.Boolean p = boolean_number (asking_boolean e f p)
kind_state e f Kinds.Number p = number_number (asking_number e f p)
kind_state e f Kinds.String p = string_number (asking_string e f p)

abbrev pub state_by : Edition → List ℕ → Option Kind → Place → ℕ
state_by e f (Some k) p = kind_state e f k p
state_by e f None p = refused_number 17

-- a place asked for by the number of its kind; a number that is no kind is 17
unfoldable pub asked_code : Edition → List ℕ → ℕ → ℕ → ℕ
asked_code e f k i = state_by e f (kind_of k) (place i)

-- the calls for one capability
abbrev pub boolean_state : ℕ → ℕ → ℕ → List ℕ → ℕ → ℕ
boolean_state b n s f i = boolean_number (asking_boolean (edition b n s) f (place i))

abbrev pub number_state : ℕ → ℕ → ℕ → List ℕ → ℕ → ℕ
number_state b n s f i = number_number (asking_number (edition b n s) f (place i))

abbrev pub string_state : ℕ → ℕ → ℕ → List ℕ → ℕ → ℕ
string_state b n s f i = string_number (asking_string (edition b n s) f (place i))

-- eight places asked for in one call: what it stores; 17 where opening would refuse
unfoldable pub asking8 : Edition → List ℕ → List ℕ → List ℕ → Answer (List ℕ)
asking8 e f kinds places =
    when is_given (opening e f) then gives (tabulate (λ i. asked_code e f (get_or kinds i 0) (get_or places i 0)) 8)
    else refused 17 []

abbrev pub name_by : Option Kind → Place → Answer ℕ
name_by (Some k) p = naming k p
name_by None p = refused 17 []

-- a name asked for by the number of its kind
unfoldable pub naming_by : ℕ → ℕ → Answer ℕ
naming_by k i = name_by (kind_of k) (place i)

-- the capability that a name means in an edition; 11 for a name that the edition doesn't know
abbrev pub find_number : ℕ → ℕ → ℕ → List ℕ → ℕ
find_number b n s name = capability_number (says_found (looking_up (edition b n s) name))

-- the state of the capability that a name means: 11 for a name that the edition doesn't know, whatever the file is;
-- else what asking gives at its place
abbrev pub found_state : Edition → List ℕ → Option Found → ℕ
found_state e f (Some (F.Boolean p)) = boolean_number (asking_boolean e f p)
found_state e f (Some (F.Number p)) = number_number (asking_number e f p)
found_state e f (Some (F.String p)) = string_number (asking_string e f p)
found_state e f None = refused_number 11

abbrev pub named_state : ℕ → ℕ → ℕ → List ℕ → List ℕ → ℕ
named_state b n s f name = found_state (edition b n s) f (looking_up (edition b n s) name)
