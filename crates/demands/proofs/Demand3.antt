-- Demand 3 over writing, compiling and merging: what readers are answered. The statements are in specs/Demand3.antt.
-- Assumes nothing.
use Rattle.std.proofs.Common.{ap, ◌∙◌}
use Rattle.base.specs.Answer.{gives}
use Rattle.entry_laws.specs.Demands.{ReadsAsWritten, only_reader}
use Rattle.entry_laws.proofs.Demands.{reads_as_written}
use Rattle.entry_laws.proofs.Demands.{same_answers, same_places}
use Rattle.demands.specs.Demand2.{file_holds}
use Rattle.demands.specs.Demand3.{EveryEditionReads, OnlyReaderAbsent, UnknownUnseen, UnknownSamePlaces}

pub every_edition_reads : EveryEditionReads
every_edition_reads e x f w r o =
    let s : ReadsAsWritten r x f = reads_as_written e x f (file_holds e x f w) r o in
    record {
      opens = s.opens;
      names = s.names;
      boolean = λ p k l. s.booleans p l;
      number = λ p k l. s.numbers p l;
      string = λ p k l. s.strings p l;
    }

pub only_reader_absent : OnlyReaderAbsent
only_reader_absent e x f w r o =
    let s : ReadsAsWritten r x f = reads_as_written e x f (file_holds e x f w) r o in
    let only = only_reader e x f (file_holds e x f w) in
    record {
      boolean = λ p k l. s.booleans p l ∙ ap gives ((only p).0 k);
      number = λ p k l. s.numbers p l ∙ ap gives ((only p).1.0 k);
      string = λ p k l. s.strings p l ∙ ap gives ((only p).1.1 k);
    }

-- ---- what a reader doesn't know, it doesn't see

pub unknown_unseen : UnknownUnseen
unknown_unseen e x y f g v w r same = same_answers e x y f g (file_holds e x f v) (file_holds e y g w) r same

pub unknown_same_places : UnknownSamePlaces
unknown_same_places e d x y f g v w r same starts =
    same_places e d x y f g (file_holds e x f v) (file_holds d y g w) r same starts
