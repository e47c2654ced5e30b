-- Fields (document 01: Source text).
-- Assumes nothing.
use Rattle.std.specs.Prelude.{Bool, true, false, List, ℕ, ◌+◌, eqb, get_or, Option, Some, None}
use Rattle.base.specs.If.{when◌then◌else◌}
use Rattle.text.specs.declared.ByteClass.TheVariants as C
use Rattle.text.specs.declared.Content.{Content}
use Rattle.text.specs.declared.FieldForm.{FieldForm}
use Rattle.text.specs.declared.FieldForm.TheVariants as F
use Rattle.text.specs.declared.Formed.{Formed}
use Rattle.text.specs.declared.Field.{Field}
use Rattle.text.specs.Bytes.{◌is◌, run_end}
use Rattle.text.specs.Strings.{read_at, content_of}
use Rattle.text.specs.Numbers.{formed, number_at}

abbrev pub string_form : ℕ → Option Content → Option Formed
string_form i (Some c) = formed (F.String i c.length) c.comma
string_form i None = None

-- "Then nothing (boolean), `@` (cancelled, any kind), `#` and a C integer .., or `=` and a string"
unfoldable pub form_at : List ℕ → ℕ → Option Formed
form_at t i =
    when get_or t i 0 is "," then formed F.Boolean i
    else when get_or t i 0 is "@" then formed F.Cancelled (i + 1)
    else when get_or t i 0 is "#" then number_at t (i + 1)
    else when get_or t i 0 is "=" then string_form (i + 1) (content_of (read_at t (i + 1)))
    else None

-- a field: whether it is dropped, its name from i to e, its form, and the place past its comma
abbrev pub field : Bool → (i e : ℕ) → FieldForm → ℕ → Option Field
field dropped i e f next = Some (record { dropped = dropped; name = i; end = e; form = f; next = next })

-- "each ends in a comma"
abbrev pub closed : List ℕ → Bool → ℕ → ℕ → Option Formed → Option Field
closed t dropped i e (Some g) = when get_or t g.next 0 is "," then field dropped i e g.form (g.next + 1) else None
closed t dropped i e None = None

-- "A name is one or more": from i to e
abbrev pub named_to : List ℕ → Bool → ℕ → ℕ → Option Field
named_to t dropped i e = when eqb e i then None else closed t dropped i e (form_at t e)

unfoldable pub named_at : List ℕ → Bool → ℕ → Option Field
named_at t dropped i = named_to t dropped i (run_end C.Name t i)

-- "A leading `.` drops the field; its form must still be right"
unfoldable pub field_at : List ℕ → ℕ → Option Field
field_at t i = when get_or t i 0 is "." then named_at t true (i + 1) else named_at t false i
