-- Laws of writing what the arrays hold: sizes, the string table from the text, and the answers in their order.
-- Assumes nothing.
use mathlib.Core.Path.{◌≡◌, refl, sym, ap, ◌∙◌, subst}
use mathlib.Core.Bool.{true}
use mathlib.Core.List.{List, [], ◌∷◌}
use Prim.Native.Nat.{ℕ, ◌+◌, ◌≤◌, ◌<◌}
use native.Mathlib.Decide.{ℕ_discrete}
use native.Mathlib.Omega.{arith}
use lib.ListN.{length, get_or, set}
use borrow.Author.Tests.{le-leb, lt-leb}
use Rattle.base.specs.Overwrite.{put_at}
use Rattle.base.proofs.OverwriteLaws.{put_store}
use Rattle.edition.specs.declared.Edition.{Edition}
use Rattle.edition.specs.Edition.{ok_edition}
use Rattle.entry.specs.declared.Sizes.{Sizes}
use Rattle.entry.specs.Limits.{file_most, given_names_most}
use Rattle.base.specs.Answer.{refused, gives, Leaves}
use Rattle.entry.specs.Layout.{size_of}
use Rattle.entry.specs.Writing.{Handed, state_of, string_table, encode}
use Rattle.put.specs.Table.{HasLengths}
use Rattle.put.proofs.TableLaws.{map_state_of, state_other, part_present}
use Rattle.entry.specs.Handed.{with_lent}
use Rattle.write_laws.specs.File.{sizes_handed, FrontFits}
use Rattle.write_laws.proofs.FileLaws.{length_with}
use Rattle.write_laws.proofs.AnswerLaws.{total_most}
use Rattle.text.specs.Strings.{read_at, read_bytes}
use Rattle.text.specs.Compiling.{fitting_named}
use Rattle.compile_laws.specs.Held.{text_string, text_entry, StringsStand, Holds}
use Rattle.entry_laws.specs.Merge.{edition_counts}

-- strings that stand in the text are of their kinds and lengths
pub text_described : (h : Handed) (n : ℕ) → StringsStand h n → HasLengths h.string_kinds h.string_lengths (text_string h) n
text_described h n s i l =
    map_state_of length (get_or h.string_kinds i 0) (read_bytes (read_at h.lent (get_or h.string_starts i 0)))
    ∙ elim (ℕ_discrete (get_or h.string_kinds i 0) 1) [
      | yes e ↦ ap (state_of (get_or h.string_kinds i 0)) (sym (s i l e).0.counted)
      | no e ↦ state_other (get_or h.string_kinds i 0) _ _ e
    ]

-- a present string and its NUL
pub read_put : (b₀ b : List ℕ) (at kind size : ℕ) (s : List ℕ) → kind ≡ 1 → size ≡ length s → at + size + 1 ≤ length b₀ → b ≡ put_at b₀ at s
    → set b (at + size) 0 ≡ put_at b₀ at (string_table (state_of kind s ∷ []))
read_put b₀ b at kind size s k q l e = put_store b₀ b at (at + size) 0 s (string_table (state_of kind s ∷ [])) e (omega arith) (part_present kind s k) (omega arith)

module _ (e : Edition) (h : Handed) (o : ok_edition e ≡ true) (k : Holds e h) where
  pub length_text : length (encode (text_entry e h)) ≡ size_of (sizes_handed e h)
  length_text = length_with e h (text_string h) (text_described h e.strings k.strings)

  -- no sum on the way to the file's length wraps
  pub size_small : length h.names ≤ given_names_most → size_of (sizes_handed e h) < 1000000
  size_small n =
      let c = edition_counts e o in
      let r = total_most h.string_kinds h.string_lengths e.strings (λ i l q. (k.strings i l q).1) in
      omega arith

  pub front_fits : (b : List ℕ) (s : Sizes) → s ≡ sizes_handed e h → size_of (sizes_handed e h) ≤ file_most → size_of (sizes_handed e h) ≤ length b
      → FrontFits b s (with_lent h [])
  front_fits b s u m r =
      subst (λ (z : Sizes). FrontFits b z (with_lent h [])) (sym u)
      (record {
        named = refl;
        booleans = k.given.booleans;
        number_kinds = k.given.number_kinds;
        number_values = k.given.number_values;
        string_kinds = k.given.string_kinds;
        string_lengths = k.given.string_lengths;
        table = refl;
        most = m;
        room = r;
      })

  -- ---- the answers, in the order of refusal

  module _ (b : List ℕ) where
    pub refuse_total : given_names_most < length h.names → Leaves (fitting_named (length b) (text_entry e h)) b b (refused 13 (0 ∷ []))
    unfolding fitting_named
    refuse_total l = (rw (lt-leb _ _ l), rw (lt-leb _ _ l))

    module _ (t : length h.names ≤ given_names_most) (n : ℕ) (w : n ≡ size_of (sizes_handed e h)) where
      m : length (encode (text_entry e h)) ≡ n
      m = length_text ∙ sym w

      pub refuse_size : file_most < n → Leaves (fitting_named (length b) (text_entry e h)) b b (refused 9 [])
      unfolding fitting_named
      refuse_size l = (rw (le-leb _ _ t, m, lt-leb _ _ l), rw (le-leb _ _ t, m, lt-leb _ _ l))

      pub refuse_room : n ≤ file_most → length b < n → Leaves (fitting_named (length b) (text_entry e h)) b b (refused 8 (n ∷ []))
      unfolding fitting_named
      refuse_room l r = (rw (le-leb _ _ t, m, le-leb _ _ l, lt-leb _ _ r), rw (le-leb _ _ t, m, le-leb _ _ l, lt-leb _ _ r))

      pub give_file : n ≤ file_most → n ≤ length b → (c : List ℕ) → c ≡ put_at b 0 (encode (text_entry e h)) → Leaves (fitting_named (length b) (text_entry e h)) b c (gives n)
      unfolding fitting_named
      give_file l r c q = (rw (le-leb _ _ t, m, le-leb _ _ l, le-leb _ _ r) (ap gives (sym m)), rw (le-leb _ _ t, m, le-leb _ _ l, le-leb _ _ r) q)
