-- Putting a string's bytes: what holds at each turn, and the turns.
-- Assumes nothing.
use mathlib.Core.Path.{◌≡◌, refl, sym, ap, ◌∙◌, subst}
use mathlib.Core.List.{List, [], ◌∷◌, ◌++◌}
use Prim.Native.Nat.{ℕ, ◌+◌, ◌≤◌, ◌<◌}
use native.Mathlib.Omega.{arith}
use native.Mathlib.Nat.{add-zero}
use lib.ListN.{length, get_or, set, length-append}
use Rattle.base.proofs.IfLaws.{below_or}
use Rattle.base.specs.Overwrite.{put_at}
use Rattle.base.proofs.OverwriteLaws.{put_nil, put_store, length_put}
use Rattle.text.specs.declared.StringItem.TheVariants.{End, Byte, Removed, Malformed}
use Rattle.text.specs.Strings.{string_item_at, stored_byte, Reading, Read, malformed, read_from, read_at, read_bytes}
use Rattle.text_laws.specs.Reads.{item_past, read_end, read_malformed, read_byte, read_removed, read_grows, read_all}
use Rattle.contents.specs.Fits.{Fits}
use Rattle.contents.specs.declared.Usual.TheVariants.{Itself}
use Rattle.contents.specs.Usual.{Tells}

-- a string that starts at from has been read to i, and its bytes so far stand in b, which was b₀, from at to p
pub record Filled (t : List ℕ) (from i : ℕ) (b₀ b : List ℕ) (at p : ℕ) : Type 0 where
  pub done : List ℕ
  pub same : read_from t (record { at = i; bytes = done }) ≡ read_at t from
  pub place : p ≡ at + length done
  pub held : b ≡ put_at b₀ at done

pub filled_start : (t : List ℕ) (from : ℕ) (b : List ℕ) (at : ℕ) → Filled t from from b b at at
filled_start t from b at = record { done = []; same = refl; place = sym (add-zero at); held = sym (put_nil b at) }

module _ {t : List ℕ} {from i : ℕ} {b₀ b : List ℕ} {at p size : ℕ} (f : Filled t from i b₀ b at p) (w : Fits b₀ at t from size) where
  abbrev so_far : Reading
  so_far = record { at = i; bytes = f.done }

  right_yet : read_from t so_far ≡ malformed → ⊥
  right_yet z = w.whole (sym f.same ∙ z)

  same_count : length (read_bytes (read_from t so_far)) ≡ size
  same_count = ap (λ (r : Read). length (read_bytes r)) f.same ∙ sym w.counted

  fits : length f.done ≤ size
  fits = let g = read_grows t so_far right_yet in let e = same_count in omega arith

  pub filled_length : length b ≡ length b₀
  filled_length =
      let l = fits in
      let r = w.room in
      ap (λ (x : List ℕ). length x) f.held ∙ length_put b₀ at f.done (omega arith)

  pub filled_malformed : string_item_at t i ≡ Malformed → ⊥
  filled_malformed e = right_yet (read_malformed t so_far e)

  pub filled_within : i < length t
  filled_within = below_or i (length t) (λ l. l) (λ l. absurd (filled_malformed (item_past t i l)))

  -- as many bytes as the string stands for are all of them
  pub filled_all : at + size ≤ p → b ≡ put_at b₀ at (read_bytes (read_at t from))
  filled_all q =
      let h = f.place in
      let l = fits in
      let e = same_count in
      let n : length f.done ≡ length (read_bytes (read_from t so_far)) = omega arith in
      f.held ∙ ap (put_at b₀ at) (read_all t so_far right_yet n ∙ ap read_bytes f.same)

  pub filled_removed : (k : ℕ) → string_item_at t i ≡ Removed k → Filled t from k b₀ b at p
  filled_removed k e = record {
    done = f.done;
    same = sym (read_removed t so_far k e) ∙ f.same;
    place = f.place;
    held = f.held;
  }

  -- a byte is still to be put
  module _ (more : p < at + size) where
    pub filled_room : p < length b
    filled_room = let n = filled_length in let r = w.room in omega arith

    pub filled_before : string_item_at t i ≡ End → ⊥
    unfolding read_bytes
    filled_before e =
        let n = ap (λ (r : Read). length (read_bytes r)) (sym (read_end t so_far e) ∙ f.same) in
        let c = w.counted in
        let h = f.place in
        omega arith

    pub filled_byte : (v k : ℕ) → string_item_at t i ≡ Byte v k → Filled t from k b₀ (set b p (stored_byte v)) at (p + 1)
    filled_byte v k e = record {
      done = f.done ++ (stored_byte v ∷ []);
      same = sym (read_byte t so_far v k e) ∙ f.same;
      place = let n = length-append f.done (stored_byte v ∷ []) in let h = f.place in omega arith;
      held =
          let r = w.room in
          put_store b₀ b at p (stored_byte v) f.done (f.done ++ (stored_byte v ∷ [])) f.held f.place refl (omega arith);
    }

    pub filled_itself : Tells Itself t i → Filled t from (i + 1) b₀ (set b p (get_or t i 0)) at (p + 1)
    filled_itself u =
        subst (λ (v : ℕ). Filled t from (i + 1) b₀ (set b p v) at (p + 1)) u.1 (filled_byte (get_or t i 0) (i + 1) u.0)
