-- Laws that the proofs cite: a string that is counted can be put into a buffer, and begins it then.
-- Assumes nothing.
use Rattle.std.specs.Prelude.{Some}
use mathlib.Core.Path.{◌≡◌, refl, sym, ap, ◌∙◌}
use mathlib.Core.List.{List}
use Prim.Native.Nat.{ℕ, ◌≤◌}
use native.Mathlib.Omega.{arith}
use lib.ListN.{length, take}
use lib.Seq.{length-take-le}
use Rattle.base.specs.Overwrite.{put_at}
use Rattle.base.proofs.OverwriteLaws.{length_put}
use Rattle.text.specs.declared.Content.{Content}
use Rattle.text.specs.Strings.{Read, whole, malformed, read_at, read_bytes, content_of}
use Rattle.contents.specs.Fits.{Fits}

-- the bytes that a string stands for have room in b
pub read_fits : (t b : List ℕ) (i : ℕ) (x : Content) → Some x ≡ content_of (read_at t i) → x.length ≤ length b → Fits b 0 t i x.length
unfolding content_of read_bytes
read_fits t b i x e l = by_read (read_at t i) refl e
  where
    by_read : (r : Read) → read_at t i ≡ r → Some x ≡ content_of r → Fits b 0 t i x.length
    by_read (whole s j) q w =
        let y : x ≡ record { length = length s; comma = j } = cc in
        let c : x.length ≡ length s = ap (λ (z : Content). z.length) y in
        record {
          whole = λ m. let z : whole s j ≡ malformed = sym q ∙ m in let f : ◌≡◌ {A = ℕ} 0 1 = cc in omega arith;
          counted = c ∙ ap (λ r. length (read_bytes r)) (sym q);
          room = omega arith;
        }
    by_read malformed q w =
        let f : ◌≡◌ {A = ℕ} 0 1 = cc in
        record { whole = λ m. omega arith; counted = omega arith; room = omega arith }

-- what is put there begins the buffer
pub put_first : (t b c : List ℕ) (i n : ℕ) → Fits b 0 t i n → c ≡ put_at b 0 (read_bytes (read_at t i))
    → n ≡ length (take n c)
put_first t b c i n f e =
    let m = f.counted in
    let r = f.room in
    let l : length c ≡ length b = ap length e ∙ length_put b 0 (read_bytes (read_at t i)) (omega arith) in
    sym (length-take-le n c (omega arith))
