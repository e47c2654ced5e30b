-- Demand 3, whole, over writing, compiling and merging: a statement for each of its five sentences, with the sentence
-- above it. Those that are types by themselves (`UnknownUnseen`, ..) are proved in proofs/Demand3.antt
-- (`unknown_unseen`, ..). `calling` of Calls.antt and `merging` are what the calls' contracts say the calls give;
-- `opening` and `asking..` what those of opening and reading give.
-- Assumes nothing.
use Rattle.std.specs.Prelude.{◌≡◌, true, false, List, ◌⊎◌, ℕ}
use Rattle.base.specs.Answer.{gives, map_answer, is_given, number_of}
use Rattle.edition.specs.declared.Edition.{Edition}
use Rattle.edition.specs.declared.Place.{Place}
use Rattle.edition.specs.Edition.{knows, NoMore, ok_edition}
use Rattle.entry.specs.State.{absent, map_state}
use Rattle.entry.specs.Reading.{Entry, bytes_of, held_boolean, held_number, held_string}
use Rattle.entry.specs.Asking.{opening, asking_names, asking_boolean, asking_number, asking_string}
use Rattle.entry.specs.Merging.{merged, merging}
use Rattle.entry_laws.specs.Demands.{ReadsAsWritten, SameBelow, SameAnswers, starts_of, SamePlaces}
use Rattle.entry_laws.proofs.MergeDemands.{merged_seen, own_merge}
use Rattle.demands.specs.Calls.{WrittenBy}

-- ---- what one edition writes, every edition reads

-- "Whatever file one edition writes, every edition opens it and reads the same names, and each capability that both
-- know exactly as written: absent, cancelled, or present with the same content."
pub record Reads (e r : Edition) (x : Entry) (f : List ℕ) : Type 0 where
  pub opens : is_given (opening r f) ≡ true
  pub names : map_answer (bytes_of f) (asking_names r f) ≡ gives x.names
  pub boolean : (p : Place) → knows e.booleans p ≡ true → knows r.booleans p ≡ true
      → asking_boolean r f p ≡ gives (held_boolean x p)
  pub number : (p : Place) → knows e.numbers p ≡ true → knows r.numbers p ≡ true
      → asking_number r f p ≡ gives (held_number x p)
  pub string : (p : Place) → knows e.strings p ≡ true → knows r.strings p ≡ true
      → map_answer (map_state (bytes_of f)) (asking_string r f p) ≡ gives (held_string x p)

abbrev pub EveryEditionReads : Type 0
EveryEditionReads = (e : Edition) (x : Entry) (f : List ℕ) → WrittenBy e x f
    → (r : Edition) → ok_edition r ≡ true → Reads e r x f

-- "Each that only the reader knows is absent."
pub record OnlyReader (e r : Edition) (f : List ℕ) : Type 0 where
  pub boolean : (p : Place) → knows e.booleans p ≡ false → knows r.booleans p ≡ true
      → asking_boolean r f p ≡ gives absent
  pub number : (p : Place) → knows e.numbers p ≡ false → knows r.numbers p ≡ true
      → asking_number r f p ≡ gives absent
  pub string : (p : Place) → knows e.strings p ≡ false → knows r.strings p ≡ true
      → map_answer (map_state (bytes_of f)) (asking_string r f p) ≡ gives absent

abbrev pub OnlyReaderAbsent : Type 0
OnlyReaderAbsent = (e : Edition) (x : Entry) (f : List ℕ) → WrittenBy e x f
    → (r : Edition) → ok_edition r ≡ true → OnlyReader e r f

-- "Whatever two files are written in one edition under the same names, if they differ only in capabilities that a
-- reader doesn't know, its answers (the counts from opening, each state and each content) are equal."
abbrev pub UnknownUnseen : Type 0
UnknownUnseen = (e : Edition) (x y : Entry) (f g : List ℕ) → WrittenBy e x f → WrittenBy e y g
    → (r : Edition) → SameBelow r x y → SameAnswers r f g

-- Where the tables of two such files start alike, whatever their editions, the reader is answered the same places and
-- lengths of names and strings too.
abbrev pub UnknownSamePlaces : Type 0
UnknownSamePlaces = (e d : Edition) (x y : Entry) (f g : List ℕ) → WrittenBy e x f → WrittenBy d y g
    → (r : Edition) → SameBelow r x y → starts_of (opening r f) ≡ starts_of (opening r g) → SamePlaces r f g

-- ---- merging

-- "And whatever two files are merged, if the merged file is written, a reader that knows no more in any list than the
-- merging edition sees in it exactly the names, states and contents that merging the originals in its own edition
-- gives."
pub reader_sees_merge : (e : Edition) (a b : List ℕ) (room : ℕ) (f : List ℕ) → merging e a b room ≡ gives f
    → (r : Edition) → NoMore r e → ReadsAsWritten r (merged r a b) f
reader_sees_merge e a b room f w r k = merged_seen e r a b room f k w

-- "Its own merge of them is then refused, if at all, only for room (8)."
pub own_merge_for_room : (e : Edition) (a b : List ℕ) (room : ℕ) (f : List ℕ) → merging e a b room ≡ gives f
    → (r : Edition) → NoMore r e → (own : ℕ)
    → (number_of (merging r a b own) ≡ 0) ⊎ (number_of (merging r a b own) ≡ 8)
own_merge_for_room e a b room f w r k own = own_merge e r a b room own f k w
