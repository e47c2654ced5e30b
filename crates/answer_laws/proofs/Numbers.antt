-- What a number for C tells: first of any answer whose values lie within their bits, then enum by enum.
-- Assumes nothing.
use Rattle.std.specs.Prelude.{Option, Some, None, Result, Ok, Err}
use mathlib.Core.Path.{◌≡◌, refl, sym, ap, subst, ◌∙◌}
use mathlib.Core.Bool.{Bool, true, false}
use mathlib.Core.List.{List, [], ◌∷◌}
use Prim.Native.Nat.{ℕ, ◌+◌, ◌*◌, ◌<◌, ◌≤◌, ◌/◌, ◌%◌, ◌^◌}
use native.Mathlib.Omega.{arith}
use lib.Dec.{eqb, ltb, leb}
use lib.ListN.{length, get_or}
use borrow.Author.Tests.{ltb-true, le-leb, ne_eqb}
use Rattle.base.specs.If.{when◌then◌else◌}
use Rattle.base.proofs.IfLaws.{true_false}
use Rattle.base.specs.Answer.{Answer, refused, gives, is_given, number_of}
use Rattle.word.specs.Word.{word}
use Rattle.edition.specs.declared.Kind.{Kind}
use Rattle.edition.specs.declared.Kind.TheVariants as K
use Rattle.edition.specs.declared.Place.{Place}
use Rattle.edition.specs.Edition.{knows, place}
use Rattle.entry.specs.declared.Part.{Part}
use Rattle.entry.specs.declared.FileRefusal.{FileRefusal}
use Rattle.entry.specs.declared.FileRefusal.TheVariants as R
use Rattle.entry.specs.declared.Opening.{Opening}
use Rattle.entry.specs.declared.State as S
use Rattle.entry.specs.declared.WriteRefusal.{WriteRefusal}
use Rattle.entry.specs.declared.WriteRefusal.TheVariants as W
use Rattle.entry.specs.declared.MergeRefusal.{MergeRefusal}
use Rattle.entry.specs.declared.MergeRefusal.TheVariants as G
use Rattle.entry.specs.State.{State, absent, cancelled, present}
use Rattle.entry.specs.Limits.{file_most}
use Rattle.entry.specs.Says.{file_number, file_values, file_position, says_file, says_asked, says_state}
use Rattle.entry.specs.Says.{says_written, says_merged}
use Rattle.list_states.specs.declared.ListRefusal.{ListRefusal}
use Rattle.list_states.specs.declared.ListRefusal.TheVariants as L
use Rattle.list_states.specs.Listing.{says_listed, ValueFits}
use Rattle.names.specs.Names.{ascii, parted, named, boolean_names, number_names, string_names, names_of}
use Rattle.names.specs.Naming.{packed, naming, says_name}
use Rattle.names.specs.declared.Found.{Found}
use Rattle.names.specs.declared.Found.TheVariants as F
use Rattle.names.specs.Finding.{Capability, says_found}
use Rattle.names.proofs.Places.{all, all_at}
use Rattle.text.specs.declared.TextRefusal.{TextRefusal}
use Rattle.text.specs.declared.TextRefusal.TheVariants as T
use Rattle.text.specs.declared.CompileRefusal.{CompileRefusal}
use Rattle.text.specs.declared.CompileRefusal.TheVariants as C
use Rattle.text.specs.Compiling.{text_number, says_compiled}
use Rattle.building_laws.specs.Values.{Bounded}
use Rattle.expansion.specs.declared.Output.{Output}
use Rattle.expansion.specs.declared.ExpansionRefusal.{ExpansionRefusal}
use Rattle.expansion.specs.declared.ExpansionRefusal.TheVariants as E
use Rattle.expansion.specs.Expanding.{Counts, says_expansion}
use Rattle.c_numbers.specs.Numbers.{numbered, merging_number, none, state_code, kinded, part_code, kind_code, capability_code}
use Rattle.c_numbers.specs.Numbers.{opening_array, counts_code}
use Rattle.c_numbers.specs.Numbers.{Any, PartWithin, NamesWithin, StateWithin, WrittenWithin, FileWithin, MergedWithin}
use Rattle.c_numbers.specs.Numbers.{PlaceWithin, FoundWithin}
use Rattle.c_numbers.proofs.Laws.{file_most_lem}
use Rattle.answer_laws.specs.Distinct.{Injective}
use Rattle.answer_laws.specs.Numbers.{NumberWithin, StringWithin, OpenedWithin, NameWithin, ExpansionWithin, which_of}
use Rattle.answer_laws.specs.Numbers.{TopByte, Tells, KindByte, FileByte, Numbers}
use Rattle.answer_laws.proofs.Back as back
use Rattle.answer_laws.proofs.Distinct.{distinct}

-- ---- any answer

-- a refusal's number isn't 0 and its first value is below the top byte; what is given meets Good
abbrev Fits : {A : Type 0} → (A → Type 0) → Answer A → Type 0
Fits Good (refused n v) = (1 ≤ n) × (get_or v 0 0 < 2 ^ 56)
Fits Good (gives x) = Good x

module _ {R A : Type 0} (says : R → Answer A) (Within : R → Type 0) (Good : A → Type 0) (code : A → ℕ)
    (fits : (r : R) → Within r → Fits Good (says r)) (below : (x : A) → Good x → code x < 2 ^ 56) where
  number_above : (a : Answer A) → Fits Good a → numbered code a / 2 ^ 56 ≡ number_of a
  unfolding numbered
  number_above (refused n v) h = omega arith
  number_above (gives x) h =
      let l = below x h in
      omega arith

  given_below : (a : Answer A) → Fits Good a → is_given a ≡ true → numbered code a < 2 ^ 56
  unfolding numbered
  given_below (refused n v) h e = true_false (sym e)
  given_below (gives x) h e = below x h

  refused_above : (a : Answer A) → Fits Good a → is_given a ≡ false → 2 ^ 56 ≤ numbered code a
  unfolding numbered
  refused_above (refused n v) h e = omega arith
  refused_above (gives x) h e = true_false e

  top_byte : TopByte says Within (numbered code)
  top_byte = record {
    top = λ r w. number_above (says r) (fits r w);
    success = λ r w e. omega (arith, given_below (says r) (fits r w) e);
    refusal = λ r w e. omega (arith, refused_above (says r) (fits r w) e);
  }

  plain_same : (a b : Answer A) → ((x y : A) → Good x → Good y → code x ≡ code y → x ≡ y) → Fits Good a → Fits Good b
      → numbered code a ≡ numbered code b → back.plain a ≡ back.plain b
  unfolding numbered
  plain_same (refused n v) (refused m w) t h k e =
      let p : n ≡ m = omega arith in
      let q : get_or v 0 0 ≡ get_or w 0 0 = omega arith in
      λ i. refused (p i) (q i ∷ [])
  plain_same (refused n v) (gives y) t h k e =
      let l = below y k in
      absurd (let z : ⊥ = omega arith in z)
  plain_same (gives x) (refused m w) t h k e =
      let l = below x h in
      absurd (let z : ⊥ = omega arith in z)
  plain_same (gives x) (gives y) t h k e = ap gives (t x y h k e)

  telling : ((x y : A) → Good x → Good y → code x ≡ code y → x ≡ y)
      → (b : Answer A → R) → ((r : R) → Within r → b (back.plain (says r)) ≡ r) → Tells says Within (numbered code)
  telling t b law = record {
    byte = top_byte;
    tells = λ r s v w e.
        sym (law r v) ∙ ap b (plain_same (says r) (says s) t (fits r v) (fits s w) e) ∙ law s w;
  }

-- ---- codes of what is given

abbrev InFile : ℕ → Type 0
InFile n = n ≤ file_most

in_file_below : (n : ℕ) → InFile n → n < 2 ^ 56
in_file_below n h = omega arith

abbrev InWord : ℕ → Type 0
InWord n = n < 2 ^ 32

part_below : (p : Part) → PartWithin p → part_code p < 2 ^ 48
part_below p h = omega arith

part_tells : (p q : Part) → PartWithin p → PartWithin q → part_code p ≡ part_code q → p ≡ q
part_tells p q h k e =
    let s : p.start ≡ q.start = omega arith in
    let n : p.length ≡ q.length = omega arith in
    λ i. record { start = s i; length = n i }

abbrev StateOk : {A : Type 0} → (A → Type 0) → State A → Type 0
StateOk Good absent = Unit {0}
StateOk Good cancelled = Unit {0}
StateOk Good (present x) = Good x

module _ {A : Type 0} (Good : A → Type 0) (code : A → ℕ) (below : (x : A) → Good x → code x < 2 ^ 48) where
  state_below : (s : State A) → StateOk Good s → state_code code s < 3 * 2 ^ 48
  unfolding state_code
  state_below absent h = omega arith
  state_below cancelled h = omega arith
  state_below (present x) h = omega (arith, below x h)

  state_tells : ((x y : A) → Good x → Good y → code x ≡ code y → x ≡ y)
      → (s t : State A) → StateOk Good s → StateOk Good t → state_code code s ≡ state_code code t → s ≡ t
  unfolding state_code
  state_tells tell absent absent h k e = refl
  state_tells tell absent cancelled h k e = absurd (let z : ⊥ = omega arith in z)
  state_tells tell absent (present y) h k e = absurd (let z : ⊥ = omega arith in z)
  state_tells tell cancelled absent h k e = absurd (let z : ⊥ = omega arith in z)
  state_tells tell cancelled cancelled h k e = refl
  state_tells tell cancelled (present y) h k e = absurd (let z : ⊥ = omega (arith, below y k) in z)
  state_tells tell (present x) absent h k e = absurd (let z : ⊥ = omega arith in z)
  state_tells tell (present x) cancelled h k e = absurd (let z : ⊥ = omega (arith, below x h) in z)
  state_tells tell (present x) (present y) h k e = ap present (tell x y h k (omega arith))

-- ---- answers with a kind

-- a refusal with the bits of its kind as its value
abbrev marked : {A : Type 0} → Answer A → Answer A
marked (refused n v) = refused n (3 * 2 ^ 48 ∷ [])
marked (gives x) = gives x

marked_number : {A : Type 0} (a : Answer A) → number_of (marked a) ≡ number_of a
marked_number (refused n v) = refl
marked_number (gives x) = refl

marked_given : {A : Type 0} (a : Answer A) → is_given (marked a) ≡ is_given a
marked_given (refused n v) = refl
marked_given (gives x) = refl

module _ {R A : Type 0} (says : R → Answer A) (Within : R → Type 0) (Good : A → Type 0) (code : A → ℕ)
    (fits : (r : R) → Within r → Fits Good (marked (says r))) (below : (x : A) → Good x → code x < 3 * 2 ^ 48) where
  kinded_number : (a : Answer A) → kinded code a ≡ numbered code (marked a)
  unfolding kinded numbered
  kinded_number (refused n v) = refl
  kinded_number (gives x) = refl

  refused_kind : (a : Answer A) → is_given a ≡ false → kinded code a / 2 ^ 48 % 256 ≡ 3
  unfolding kinded
  refused_kind (refused n v) e = omega arith
  refused_kind (gives x) e = absurd (true_false e)

  given_kind : (a : Answer A) → Fits Good (marked a) → is_given a ≡ true → kinded code a / 2 ^ 48 % 256 ≤ 2
  unfolding kinded
  given_kind (refused n v) h e = absurd (true_false (sym e))
  given_kind (gives x) h e = omega (arith, below x h)

  kind_byte : KindByte says Within (kinded code)
  kind_byte = record {
    refused = λ r w e. refused_kind (says r) e;
    given = λ r w e. omega (arith, given_kind (says r) (fits r w) e);
  }

  kinded_telling : ((x y : A) → Good x → Good y → code x ≡ code y → x ≡ y)
      → (b : Answer A → R) → ((r : R) → b (back.plain (marked (says r))) ≡ r) → Tells says Within (kinded code)
  kinded_telling tell b law = record {
    byte = record {
      top = λ r w. rw (kinded_number (says r)) (as_marked.byte.top r w ∙ marked_number (says r));
      success = λ r w e.
          omega (arith, kinded_number (says r), as_marked.byte.success r w (marked_given (says r) ∙ e));
      refusal = λ r w e.
          omega (arith, kinded_number (says r), as_marked.byte.refusal r w (marked_given (says r) ∙ e));
    };
    tells = λ r s v w e.
        as_marked.tells r s v w (sym (kinded_number (says r)) ∙ e ∙ kinded_number (says s));
  }
    where
      as_marked : Tells (λ r. marked (says r)) Within (numbered code)
      as_marked =
          telling (λ r. marked (says r)) Within Good code fits (λ x h. omega (arith, below x h)) tell b (λ r _. law r)

state_back : {A : Type 0} (r : Option (S.State A)) → back.state (back.plain (marked (says_state r))) ≡ r
state_back (Some S.TheVariants.Absent) = refl
state_back (Some S.TheVariants.Cancelled) = refl
state_back (Some (S.TheVariants.Present x)) = refl
state_back None = refl

found_back : (r : Option Found) → back.found (back.plain (marked (says_found r))) ≡ r
found_back (Some (F.Boolean p)) = refl
found_back (Some (F.Number p)) = refl
found_back (Some (F.String p)) = refl
found_back None = refl

-- ---- capabilities

abbrev CapabilityOk : Capability → Type 0
CapabilityOk c = PlaceWithin c.place

abbrev kind_of : ℕ → Kind
kind_of n = when eqb n 0 then K.Boolean else when eqb n 1 then K.Number else K.String

kind_back : (k : Kind) → kind_of (kind_code k) ≡ k
kind_back K.Boolean = refl
kind_back K.Number = refl
kind_back K.String = refl

kind_most : (k : Kind) → kind_code k ≤ 2
kind_most K.Boolean = omega arith
kind_most K.Number = omega arith
kind_most K.String = omega arith

-- a kind's number above a place
apart : (j k p q : ℕ) → p < 2 ^ 48 → q < 2 ^ 48 → j * 2 ^ 48 + p ≡ k * 2 ^ 48 + q → (j ≡ k) × (p ≡ q)
apart j k p q l m e = (omega arith, omega arith)

capability_below : (c : Capability) → CapabilityOk c → capability_code c < 3 * 2 ^ 48
capability_below c h = omega (arith, kind_most c.kind)

capability_tells : (c d : Capability) → CapabilityOk c → CapabilityOk d → capability_code c ≡ capability_code d → c ≡ d
capability_tells c d h l e =
    let s = apart (kind_code c.kind) (kind_code d.kind) c.place.0 d.place.0 h l e in
    let k : c.kind ≡ d.kind = sym (kind_back c.kind) ∙ ap kind_of s.0 ∙ kind_back d.kind in
    let p : c.place ≡ d.place = ap place s.1 in
    λ i. record { kind = k i; place = p i }

-- ---- each enum's answers fit

found_fits : (r : Option Found) → FoundWithin r → Fits CapabilityOk (marked (says_found r))
found_fits (Some (F.Boolean p)) h = h
found_fits (Some (F.Number p)) h = h
found_fits (Some (F.String p)) h = h
found_fits None h = omega arith

file_some : (r : FileRefusal) → 1 ≤ file_number r
file_some R.Length = omega arith
file_some R.Magic = omega arith
file_some R.Counts = omega arith
file_some (R.Names at) = omega arith
file_some (R.Boolean at) = omega arith
file_some (R.Number at) = omega arith
file_some (R.Slot at) = omega arith

text_some : (r : TextRefusal) → 1 ≤ text_number r
text_some T.Malformed = omega arith
text_some T.Unknown = omega arith
text_some T.Limit = omega arith
text_some T.NotFound = omega arith
text_some T.Circular = omega arith
text_some T.NinthUse = omega arith

opened_fits : (r : Result Opening FileRefusal) → OpenedWithin r → Fits Any (says_file r)
opened_fits (Ok o) h = tt
opened_fits (Err r) h = (file_some r, omega arith)

names_fits : (r : Option Part) → NamesWithin r → Fits PartWithin (says_asked r)
names_fits (Some p) h = h
names_fits None h = omega arith

state_fits : {A : Type 0} (Good : A → Type 0) (r : Option (S.State A)) → StateWithin Good r
    → Fits (StateOk Good) (marked (says_state r))
state_fits Good (Some S.TheVariants.Absent) h = tt
state_fits Good (Some S.TheVariants.Cancelled) h = tt
state_fits Good (Some (S.TheVariants.Present x)) h = h
state_fits Good None h = omega arith

boolean_fits : (r : Option (S.State (Unit {0}))) → Any r → Fits (StateOk Any) (marked (says_state r))
boolean_fits (Some S.TheVariants.Absent) h = tt
boolean_fits (Some S.TheVariants.Cancelled) h = tt
boolean_fits (Some (S.TheVariants.Present x)) h = tt
boolean_fits None h = omega arith

written_fits : (r : Result ℕ WriteRefusal) → WrittenWithin r → Fits InFile (says_written r)
written_fits (Ok n) h = h
written_fits (Err W.Counts) h = omega arith
written_fits (Err W.Names) h = omega arith
written_fits (Err W.Lent) h = omega arith
written_fits (Err W.Limit) h = omega arith
written_fits (Err W.Size) h = omega arith
written_fits (Err (W.Room n)) h = omega arith

compiled_fits : (r : Result ℕ CompileRefusal) → Bounded (says_compiled r) → Fits InFile (says_compiled r)
compiled_fits (Ok n) h = h
compiled_fits (Err C.Edition) h = omega arith
compiled_fits (Err C.Length) h = omega arith
compiled_fits (Err (C.Refused r)) h = (text_some r.why, omega arith)
compiled_fits (Err C.Size) h = omega arith
compiled_fits (Err (C.Room n)) h = omega arith

name_fits : (r : Option ℕ) → NameWithin r → Fits (λ w. w < 2 ^ 56) (says_name r)
name_fits (Some w) h = omega arith
name_fits None h = omega arith

-- ---- names

short : List ℕ → Bool
short n = ltb (packed n) (2 ^ 56)

short_names : (k : Kind) → all short (names_of k) ≡ true
unfolding short packed word boolean_names number_names string_names named parted ascii
short_names K.Boolean = refl
short_names K.Number = refl
short_names K.String = refl

names_below : (k : Kind) (p : Place) → is_given (naming k p) ≡ true → numbered (λ w. w) (naming k p) < 2 ^ 56
unfolding naming numbered short
names_below k p = by_known (knows (length (names_of k)) p) refl
  where
    by_known : (b : Bool) → knows (length (names_of k)) p ≡ b
        → is_given (when b then gives (packed (get_or (names_of k) p.0 [])) else refused 17 []) ≡ true
        → numbered (λ w. w) (when b then gives (packed (get_or (names_of k) p.0 [])) else refused 17 []) < 2 ^ 56
    by_known true q e = ltb-true _ _ (all_at short (names_of k) p.0 [] (short_names k) (ltb-true _ _ q))
    by_known false q e = true_false (sym e)

-- ---- expansion

abbrev CountsOk : Counts → Type 0
CountsOk c = (c.length < 2 ^ 24) × (c.steps < 2 ^ 24)

expansion_fits : (r : Result Output ExpansionRefusal) → ExpansionWithin r → Fits CountsOk (says_expansion r)
expansion_fits (Ok o) h = omega arith
expansion_fits (Err E.Place) h = omega arith
expansion_fits (Err E.Length) h = omega arith
expansion_fits (Err (E.Malformed i)) h = omega arith
expansion_fits (Err (E.Empty i)) h = omega arith
expansion_fits (Err (E.Full i)) h = omega arith
expansion_fits (Err (E.Kind i)) h = omega arith
expansion_fits (Err (E.Room n)) h = omega arith

counts_tell : (c d : Counts) → CountsOk c → CountsOk d → counts_code c ≡ counts_code d → c ≡ d
counts_tell c d h k e =
    let n : c.length ≡ d.length = omega arith in
    let s : c.steps ≡ d.steps = omega arith in
    λ i. record { length = n i; steps = s i }

expansion_tells : Tells says_expansion ExpansionWithin (numbered counts_code)
expansion_tells =
    telling says_expansion ExpansionWithin CountsOk counts_code expansion_fits (λ c h. omega arith) counts_tell
    back.expansion (λ r _. back.expansion_back r)

-- ---- merging, whose refusals of a file have two values

-- both as one, as the number has them
abbrev folded : Answer ℕ → Answer ℕ
folded (refused n v) = refused n ((when leb n 7 then get_or v 0 0 * 2 ^ 48 + get_or v 1 0 else get_or v 0 0) ∷ [])
folded (gives n) = gives n

folded_number : (a : Answer ℕ) → merging_number (λ n. n) a ≡ numbered (λ n. n) (folded a)
unfolding merging_number numbered
folded_number (refused n v) = refl
folded_number (gives n) = refl

folded_same : (a : Answer ℕ) → number_of (folded a) ≡ number_of a
folded_same (refused n v) = refl
folded_same (gives n) = refl

folded_given : (a : Answer ℕ) → is_given (folded a) ≡ is_given a
folded_given (refused n v) = refl
folded_given (gives n) = refl

-- a file's refusal, folded
file_folded : (k : ℕ) (r : FileRefusal)
    → folded (refused (file_number r) (k ∷ file_values r)) ≡ refused (file_number r) ((k * 2 ^ 48 + file_position r) ∷ [])
file_folded k r = rw (le-leb (file_number r) 7 (file_most_lem r))

merged_fits : (r : Result ℕ MergeRefusal) → MergedWithin r → Fits InFile (folded (says_merged r))
merged_fits (Ok n) h = h
merged_fits (Err G.Edition) h = omega arith
merged_fits (Err (G.First r)) h = subst (Fits InFile) (sym (file_folded 1 r)) (file_some r, omega arith)
merged_fits (Err (G.Second r)) h = subst (Fits InFile) (sym (file_folded 2 r)) (file_some r, omega arith)
merged_fits (Err G.Size) h = omega arith
merged_fits (Err (G.Room n)) h = omega arith

abbrev unfolded : Answer ℕ → Result ℕ MergeRefusal
unfolded (gives n) = Ok n
unfolded (refused n v) =
    Err (when eqb n 9 then G.Size else when eqb n 8 then G.Room (get_or v 0 0)
    else back.of_file (get_or v 0 0 / 2 ^ 48) n (get_or v 0 0 % 2 ^ 48))

file_unfolded : (k : ℕ) (r : FileRefusal) → FileWithin r
    → unfolded (refused (file_number r) ((k * 2 ^ 48 + file_position r) ∷ [])) ≡ Err (back.of_file k (file_number r) (file_position r))
file_unfolded k r h =
    let m = file_most_lem r in
    let w : (k * 2 ^ 48 + file_position r) / 2 ^ 48 ≡ k = omega arith in
    let p : (k * 2 ^ 48 + file_position r) % 2 ^ 48 ≡ file_position r = omega arith in
    rw (
      ne_eqb (file_number r) 9 (λ q. let z : ⊥ = omega arith in z),
      ne_eqb (file_number r) 8 (λ q. let z : ⊥ = omega arith in z),
      w,
      p,
    )

merged_back : (r : Result ℕ MergeRefusal) → MergedWithin r → unfolded (back.plain (folded (says_merged r))) ≡ r
merged_back (Ok n) h = refl
merged_back (Err G.Edition) h = refl
merged_back (Err (G.First r)) h =
    ap (λ (a : Answer ℕ). unfolded (back.plain a)) (file_folded 1 r) ∙ file_unfolded 1 r h ∙ ap (λ (w : FileRefusal). Err (G.First w)) (back.file_back r)
merged_back (Err (G.Second r)) h =
    ap (λ (a : Answer ℕ). unfolded (back.plain a)) (file_folded 2 r) ∙ file_unfolded 2 r h ∙ ap (λ (w : FileRefusal). Err (G.Second w)) (back.file_back r)
merged_back (Err G.Size) h = refl
merged_back (Err (G.Room n)) h = refl

merged_tells : Tells says_merged MergedWithin (merging_number (λ n. n))
merged_tells = record {
  byte = record {
    top = λ r w. rw (folded_number (says_merged r)) (as_folded.byte.top r w ∙ folded_same (says_merged r));
    success = λ r w e.
        omega (arith, folded_number (says_merged r), as_folded.byte.success r w (folded_given (says_merged r) ∙ e));
    refusal = λ r w e.
        omega (arith, folded_number (says_merged r), as_folded.byte.refusal r w (folded_given (says_merged r) ∙ e));
  };
  tells = λ r s v w e.
      as_folded.tells r s v w (sym (folded_number (says_merged r)) ∙ e ∙ folded_number (says_merged s));
}
  where
    as_folded : Tells (λ r. folded (says_merged r)) MergedWithin (numbered (λ n. n))
    as_folded =
        telling (λ r. folded (says_merged r)) MergedWithin InFile (λ n. n) merged_fits in_file_below
        (λ x y h k e. e) unfolded merged_back

-- a file's refusal as a number
file_number_lem : (k : ℕ) (r : FileRefusal)
    → merging_number (λ n. n) (refused (file_number r) (k ∷ file_values r))
    ≡ file_number r * 2 ^ 56 + (k * 2 ^ 48 + file_position r)
unfolding merging_number
file_number_lem k r = rw (le-leb (file_number r) 7 (file_most_lem r))

file_byte : FileByte (merging_number (λ n. n))
unfolding merging_number
file_byte = record {
  which = which;
  first = λ r h. rw (file_number_lem 1 r) (omega arith);
  second = λ r h. rw (file_number_lem 2 r) (omega arith);
}
  where
    which : (r : Result ℕ MergeRefusal) → MergedWithin r → merging_number (λ n. n) (says_merged r) / 2 ^ 48 % 256 ≡ which_of r
    which (Ok n) h = omega arith
    which (Err G.Edition) h = refl
    which (Err (G.First r)) h = rw (file_number_lem 1 r) (omega arith)
    which (Err (G.Second r)) h = rw (file_number_lem 2 r) (omega arith)
    which (Err G.Size) h = refl
    which (Err (G.Room n)) h = omega arith

-- ---- opening

opened_tells : (r s : Result Opening FileRefusal) → OpenedWithin r → OpenedWithin s → is_given (says_file r) ≡ false
    → numbered none (says_file r) ≡ numbered none (says_file s) → r ≡ s
unfolding numbered
opened_tells (Ok o) s h k g e = true_false g
opened_tells (Err r) (Ok o) h k g e = absurd (let z : ⊥ = omega (arith, file_some r) in z)
opened_tells (Err r) (Err s) h k g e = ap Err (distinct.file r s (omega arith) (omega arith))

array_tells : Injective opening_array
array_tells o p e = λ i. record {
  tables = record {
    booleans = at 0 i;
    numbers = at 1 i;
    strings = at 2 i;
    booleans_at = at 3 i;
    numbers_at = at 4 i;
    strings_at = at 5 i;
    table_at = at 6 i;
  };
  beyond = record { booleans = at 7 i; numbers = at 8 i; strings = at 9 i };
}
  where
    at : (k : ℕ) → get_or (opening_array o) k 0 ≡ get_or (opening_array p) k 0
    at k = ap (λ (a : List ℕ). get_or a k 0) e

opened_position : (r : FileRefusal) → FileWithin r → numbered none (says_file {A = Opening} (Err r)) % 2 ^ 48 ≡ file_position r
unfolding numbered
opened_position r h = omega arith

listed_fits : (r : Result (Unit {0}) ListRefusal) → ValueFits r → Fits Any (says_listed r)
listed_fits (Ok x) h = tt
listed_fits (Err (L.File r)) h = (file_some r, omega arith)
listed_fits (Err (L.Room n)) h = omega arith

-- ---- states are below the kind of a refusal

booleans_below : (s : State Unit) → StateOk Any s → state_code none s < 3 * 2 ^ 48
booleans_below = state_below Any none (λ x h. omega arith)

numbers_below : (s : State ℕ) → StateOk InWord s → state_code (λ n. n) s < 3 * 2 ^ 48
numbers_below = state_below InWord (λ n. n) (λ x h. omega arith)

strings_below : (s : State Part) → StateOk PartWithin s → state_code part_code s < 3 * 2 ^ 48
strings_below = state_below PartWithin part_code part_below

-- ---- all of them

pub numbers : Numbers
numbers =
    record {
      names =
          telling says_asked NamesWithin PartWithin part_code names_fits (λ p h. omega arith) part_tells
          back.asked (λ r _. back.asked_back r);
      boolean =
          kinded_telling says_state Any (StateOk Any) (state_code none) boolean_fits booleans_below
          (state_tells Any none (λ x h. omega arith) (λ x y h k e. refl)) back.state state_back;
      number =
          kinded_telling says_state NumberWithin (StateOk InWord) (state_code (λ n. n)) (state_fits InWord) numbers_below
          (state_tells InWord (λ n. n) (λ x h. omega arith) (λ x y h k e. e)) back.state state_back;
      string =
          kinded_telling says_state StringWithin (StateOk PartWithin) (state_code part_code) (state_fits PartWithin)
          strings_below
          (state_tells PartWithin part_code part_below part_tells) back.state state_back;
      found =
          kinded_telling says_found FoundWithin CapabilityOk capability_code found_fits capability_below
          capability_tells back.found found_back;
      boolean_kind = kind_byte says_state Any (StateOk Any) (state_code none) boolean_fits booleans_below;
      number_kind = kind_byte says_state NumberWithin (StateOk InWord) (state_code (λ n. n)) (state_fits InWord) numbers_below;
      string_kind =
          kind_byte says_state StringWithin (StateOk PartWithin) (state_code part_code) (state_fits PartWithin) strings_below;
      found_kind = kind_byte says_found FoundWithin CapabilityOk capability_code found_fits capability_below;
      written =
          telling says_written WrittenWithin InFile (λ n. n) written_fits in_file_below (λ x y h k e. e)
          back.written (λ r _. back.written_back r);
      merged = merged_tells;
      merged_file = file_byte;
      compiled =
          telling says_compiled (λ r. Bounded (says_compiled r)) InFile (λ n. n) compiled_fits in_file_below
          (λ x y h k e. e) back.compiled (λ r _. back.compiled_back r);
      name =
          telling says_name NameWithin (λ w. w < 2 ^ 56) (λ w. w) name_fits (λ w h. h) (λ x y h k e. e)
          back.asked (λ r _. back.asked_back r);
      listed = names_below;
      expansion = expansion_tells;
      opened = top_byte says_file OpenedWithin Any none opened_fits (λ x h. omega arith);
      position = opened_position;
      list =
          telling says_listed ValueFits Any none listed_fits (λ x h. omega arith) (λ x y h k e. refl)
          back.listed (λ r _. back.listed_back r);
      array = array_tells;
      refusal = opened_tells;
    }
