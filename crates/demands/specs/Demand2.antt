-- Demand 2 over writing, compiling and merging: a statement for each of its sentences, with the sentence above it.
-- Those that are types by themselves (`ReadsBack`, ..) are proved in proofs/Demand2.antt (`reads_back`, ..). What the
-- demand asks of expanded strings, their bytes and their steps, is the contract of `expand::expand`.
-- `calling` of Calls.antt is what the calls' contracts say the calls give; `opening` and `asking..` what those of
-- opening and reading give.
-- Assumes nothing.
use Rattle.std.specs.Prelude.{◌≡◌, refl, true, List, ℕ, ◌-◌, ◌≤◌, length, take, drop}
use Rattle.std.proofs.Common.{sym, ap, ◌∙◌, subst, take_at}
use Rattle.base.specs.Answer.{Answer, gives, buffer_after, map_answer, Leaves}
use Rattle.base.proofs.OverwriteLaws.{put_front}
use Rattle.edition.specs.declared.Edition.{Edition}
use Rattle.edition.specs.Edition.{ok_edition}
use Rattle.entry.specs.declared.Beyond.{Beyond}
use Rattle.entry.specs.Reading.{Entry}
use Rattle.entry.specs.declared.Opening.{Opening}
use Rattle.entry.specs.Asking.{opening}
use Rattle.entry.specs.Writing.{encode, entry_of}
use Rattle.entry.specs.Merging.{merged}
use Rattle.entry_laws.specs.Sound.{WrittenIn}
use Rattle.entry_laws.specs.Demands.{written_if, written_only_if, ReadsAsWritten, counts_of}
use Rattle.entry_laws.proofs.Demands.{written_holds}
use Rattle.entry_laws.specs.MergeDemands.{merged_only_if}
use Rattle.entry_laws.proofs.MergeDemands.{merged_if, merged_holds}
use Rattle.building_laws.specs.Compiled.{compiled_if, compiled_only_if}
use Rattle.building_laws.proofs.Compiled.{compiled_holds}
use Rattle.demands.specs.Calls.{Call, write, compile, merge, calling, holding, MeetsLimits, WrittenBy}

pub same : {A : Type 0} {y z : A} → ◌≡◌ {A = Answer A} (gives y) (gives z) → y ≡ z
same u = cc

-- ---- "A file is written exactly when the entry meets the limits and fits"

-- the entry x that the call's definition gives meets the call's limits, and its written form has room
pub written_when : (e : Edition) (k : Call e) (x : Entry) (room : ℕ) → holding e k ≡ gives x → MeetsLimits e k x
    → length (encode x) ≤ room → calling e k room ≡ gives (encode x)
written_when e (write h) x room q m l =
    written_if e h room m (rw (← same q) at l) ∙ ap (λ (y : Entry). gives (encode y)) (same q)
written_when e (compile t w) x room q m l = compiled_if e t w room x m l
written_when e (merge a b) x room q m l =
    merged_if e a b room m (rw (← same q) at l) ∙ ap (λ (y : Entry). gives (encode y)) (same q)

-- what holds where a call gives the file f for a buffer of so much room
pub record OnlyWhen (e : Edition) (k : Call e) (room : ℕ) (f : List ℕ) : Type 0 where
  pub entry : Entry
  pub held : holding e k ≡ gives entry
  pub meets : MeetsLimits e k entry
  pub fits : length (encode entry) ≤ room
  pub file : f ≡ encode entry

pub written_only_when : (e : Edition) (k : Call e) (room : ℕ) (f : List ℕ) → calling e k room ≡ gives f
    → OnlyWhen e k room f
written_only_when e (write h) room f w =
    let p = written_only_if e h room f w in
    record { entry = entry_of e h; held = refl; meets = p.0; fits = p.1.0; file = p.1.1 }
written_only_when e (compile t v) room f w =
    let c = compiled_only_if e t v room f w in
    record { entry = c.entry; held = c.meets.describes; meets = c.meets; fits = c.fits; file = c.file }
written_only_when e (merge a b) room f w =
    let p = merged_only_if e a b room f w in
    record { entry = merged e a b; held = refl; meets = p.0; fits = p.1.0; file = p.1.1 }

-- ---- "reading it gives back the same names and states"

-- a written file is the written form of what its call's definition gives, an entry with a state for each place that
-- the edition knows
pub file_holds : (e : Edition) (x : Entry) (f : List ℕ) → WrittenBy e x f → WrittenIn e x f
file_holds e x f w = by_call w.call w.file w.held
  where
    by_call : (k : Call e) → calling e k w.room ≡ gives f → holding e k ≡ gives x → WrittenIn e x f
    by_call (write h) c q = subst (λ (y : Entry). WrittenIn e y f) (same q) (written_holds e h w.room f c)
    by_call (compile t v) c q =
        let d : gives (compiled_only_if e t v w.room f c).entry ≡ gives x
        = sym (compiled_only_if e t v w.room f c).meets.describes ∙ q in
        subst (λ (y : Entry). WrittenIn e y f) (same d) (compiled_holds e t v w.room f c)
    by_call (merge a b) c q = subst (λ (y : Entry). WrittenIn e y f) (same q) (merged_holds e a b w.room f c)

-- in the edition that wrote it, opening gives the file's names, and each place that the edition knows is answered
-- with the state that the entry holds: absent, cancelled, or present with the same content
abbrev pub ReadsBack : Type 0
ReadsBack = (e : Edition) (x : Entry) (f : List ℕ) → WrittenBy e x f → ReadsAsWritten e x f

-- the slots that a file has, as opening counts them
abbrev pub slots_in : Opening → Edition
slots_in o = record { booleans = o.tables.booleans; numbers = o.tables.numbers; strings = o.tables.strings }

-- "Every written file, compiled and merged ones too, has exactly the edition's slots"
abbrev pub ExactSlots : Type 0
ExactSlots = (e : Edition) (x : Entry) (f : List ℕ) → WrittenBy e x f → (r : Edition) → ok_edition r ≡ true
    → map_answer slots_in (opening r f) ≡ gives e

-- how many slots of a file written in the edition e lie beyond the edition r; a difference below 0 is 0
abbrev pub beyond_past : Edition → Edition → Beyond
beyond_past e r =
    record {
      booleans = e.booleans - r.booleans;
      numbers = e.numbers - r.numbers;
      strings = e.strings - r.strings;
    }

-- "Opening also reports, per list, how many slots lie beyond the reader's edition"
abbrev pub ExactBeyond : Type 0
ExactBeyond = (e : Edition) (x : Entry) (f : List ℕ) → WrittenBy e x f → (r : Edition) → ok_edition r ≡ true
    → counts_of (opening r f) ≡ gives (beyond_past e r)

-- ---- from a call to its file

-- the first bytes of a buffer to which a call gives a file
pub file_in_front : (b f : List ℕ) → take (length f) (buffer_after b (gives f)) ≡ f
file_in_front b f = rw (put_front b f) (take_at f (drop (length f) b) (length f) refl)

-- a buffer that holds c after a call whose answer is the length n: its first n bytes are a file, which every edition
-- opens and reads as what the call's definition gives
pub record HasFile (e : Edition) (k : Call e) (n : ℕ) (c : List ℕ) : Type 0 where
  pub entry : Entry
  pub held : holding e k ≡ gives entry
  pub written : WrittenBy e entry (take n c)
  pub reads : (r : Edition) → ok_edition r ≡ true → ReadsAsWritten r entry (take n c)
  pub size : length (take n c) ≡ n

-- the buffer holds b before the call; `Leaves` is what the calls' contracts say
abbrev pub CallLeavesFile : Type 0
CallLeavesFile = (e : Edition) (k : Call e) (b c : List ℕ) (n : ℕ)
    → Leaves (calling e k (length b)) b c (gives n) → HasFile e k n c
