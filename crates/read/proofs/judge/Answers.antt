-- `read::judge` meets its contract: one law for each refusal, in order.
use Prim.Native.Nat.{ℕ, ◌+◌}
use mathlib.Core.Path.{sym, ap, ◌∙◌}
use native.Mathlib.Omega.{arith}
use Rattle.entry.specs.Layout.{size_of}
use Rattle.entry.specs.Reading.{ok_counts}
use Rattle.file_tables.proofs.Laws.{placed, counts_named, file_short, file_long, file_magic, file_counts, file-size}
use Rattle.read.proofs.judge.Goals as goal

pub returns-then-file-lt-HEADER_SIZE : goal.returns-then-file-lt-HEADER_SIZE
returns-then-file-lt-HEADER_SIZE c = file_short _ c.if-file-lt-HEADER_SIZE.true

pub returns-then-file-gt-FILE_MOST : goal.returns-then-file-gt-FILE_MOST
returns-then-file-gt-FILE_MOST c = file_long _ c.if-file-gt-FILE_MOST.true

pub returns-then-short_at-ne-MAGIC : goal.returns-then-short_at-ne-MAGIC
returns-then-short_at-ne-MAGIC c = file_magic _ c.if-file-lt-HEADER_SIZE.false c.if-file-gt-FILE_MOST.false (λ q. c.if-short_at-ne-MAGIC.true (c.short_at.ensures.0 ∙ q))

pub returns-then-not-counts_ok : goal.returns-then-not-counts_ok
returns-then-not-counts_ok c =
    file_counts _ c.if-file-lt-HEADER_SIZE.false c.if-file-gt-FILE_MOST.false (sym c.short_at.ensures.0 ∙ c.if-short_at-ne-MAGIC.false)
    (ap ok_counts (sym c.sizes-s.ensures.0) ∙ sym c.counts_ok.ensures ∙ c.if-not-counts_ok.true)

pub overflow_add-t : goal.overflow_add-t
overflow_add-t c =
    let s = c.sizes-s.ensures.1 in
    let t = placed _ _ c.tables_for-t.ensures in
    omega arith

pub returns-then-file-t : goal.returns-then-file-t
returns-then-file-t c =
    file-size _ c.if-file-lt-HEADER_SIZE.false c.if-file-gt-FILE_MOST.false (sym c.short_at.ensures.0 ∙ c.if-short_at-ne-MAGIC.false)
    (ap ok_counts (sym c.sizes-s.ensures.0) ∙ sym c.counts_ok.ensures ∙ c.if-not-counts_ok.false)
    (λ q. c.if-file-t.true (q ∙ ap size_of (sym c.sizes-s.ensures.0) ∙ ap (λ (n : ℕ). n + c.sizes-s.result.table) (sym (placed _ _ c.tables_for-t.ensures))))

pub judge_tables-requires : goal.judge_tables-requires
judge_tables-requires c =
    let k = sym c.counts_ok.ensures ∙ c.if-not-counts_ok.false in
    record {
      least = c.if-file-lt-HEADER_SIZE.false;
      most = c.if-file-gt-FILE_MOST.false;
      magical = sym c.short_at.ensures.0 ∙ c.if-short_at-ne-MAGIC.false;
      header = c.sizes-s.ensures.0;
      counts = k;
      named = counts_named _ k;
      size = c.if-file-t.false ∙ ap (λ (n : ℕ). n + c.sizes-s.result.table) (placed _ _ c.tables_for-t.ensures);
      places = c.tables_for-t.ensures;
    }
