-- Demand 2 over writing, compiling and merging: reading back, the slots, and from a call to its file. The statements
-- are in specs/Demand2.antt.
-- Assumes nothing.
use Rattle.std.specs.Prelude.{◌≡◌, refl, List, ℕ, length, take}
use Rattle.std.proofs.Common.{sym, ap, ◌∙◌, arith}
use Rattle.base.specs.Answer.{Answer, refused, gives, map_answer, buffer_after}
use Rattle.edition.specs.declared.Edition.{Edition}
use Rattle.entry.specs.Layout.{tables_of, beyond_of}
use Rattle.entry.specs.Writing.{sizes_for}
use Rattle.entry_laws.specs.Sound.{WrittenIn}
use Rattle.entry_laws.proofs.Asked.{opening_is}
use Rattle.entry_laws.proofs.Demands.{reads_as_written}
use Rattle.demands.specs.Calls.{calling, WrittenBy}
use Rattle.demands.specs.Demand2.{same, OnlyWhen, written_only_when, file_holds, beyond_past, file_in_front, HasFile, ReadsBack, ExactSlots, ExactBeyond, CallLeavesFile}

pub reads_back : ReadsBack
reads_back e x f w =
    let h : WrittenIn e x f = file_holds e x f w in
    reads_as_written e x f h e (rw h.edition at h.sound.edition)

pub exact_slots : ExactSlots
unfolding tables_of sizes_for
exact_slots e x f w r o =
    let h : WrittenIn e x f = file_holds e x f w in
    rw (opening_is e x f h r o) (ap gives h.edition)

pub exact_beyond : ExactBeyond
unfolding beyond_of sizes_for
exact_beyond e x f w r o =
    let h : WrittenIn e x f = file_holds e x f w in
    rw (opening_is e x f h r o) (ap (λ (d : Edition). gives (beyond_past d r)) h.edition)

pub call_leaves_file : CallLeavesFile
call_leaves_file e k b c n l = by_answer (calling e k (length b)) refl l.0 l.1
  where
    by_answer : (a : Answer (List ℕ)) → calling e k (length b) ≡ a → gives n ≡ map_answer length a
        → c ≡ buffer_after b a → HasFile e k n c
    by_answer (refused m v) q i j = absurd (let z : ◌≡◌ {A = ℕ} 0 1 = cc in (let y : ⊥ = omega arith in y))
    by_answer (gives f) q i j =
        let g : take n c ≡ f = rw (same i, j) (file_in_front b f) in
        let s : OnlyWhen e k (length b) f = written_only_when e k (length b) f q in
        let w : WrittenBy e s.entry (take n c)
        = record { call = k; room = length b; file = rw g q; held = s.held } in
        record {
          entry = s.entry;
          held = s.held;
          written = w;
          reads = reads_as_written e s.entry (take n c) (file_holds e s.entry (take n c) w);
          size = ap length g ∙ sym (same i);
        }
