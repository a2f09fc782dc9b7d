-- A whole number of 32 bits as an f32: by way of an f64, which holds it exactly. And the literal 1.0. Assumes nothing.
use Rattle.std.specs.Prelude.{◌≡◌, ℕ, ◌*◌, ◌^◌, ◌≤◌, Bool, false, pos, refl, Float}
use Rattle.std.proofs.Common.{ap, ◌∙◌, zero-lt-suc}
use Rattle.std.specs.Float.{nan, inf, fin, binary32, binary64}
use Rattle.std.specs.Float.Ieee.{up, down, round, of_int, of_bits}
use Rattle.std.specs.Float.Ieee.Fits.{down_pos}
use Rattle.std.specs.Float.Ieee.Scale.{round_same}
use Rattle.std.specs.Float.Ieee.Exact.{HasValue}
use Rattle.std.specs.Float.Ieee.Back.{round_whole}
use Rattle.float.specs.Fused.{narrow}

narrow_value : (x : Float) (s : Bool) (n : ℕ) → HasValue x s n 1 → narrow x ≡ round binary32 s n 1
unfolding narrow
narrow_value (fin t m e) s n v =
    ap (λ (b : Bool). round binary32 b (m * up e) (down e)) v.0 ∙ round_same binary32 s (m * up e) (down e) n 1 (down_pos e) (zero-lt-suc 0) v.1
narrow_value nan s n v = absurd v
narrow_value (inf t) s n v = absurd v

pub narrow_whole : (n : ℕ) → n ≤ 2 ^ 53 → narrow (of_int binary64 (pos n)) ≡ of_int binary32 (pos n)
unfolding of_int
narrow_whole n h = narrow_value (round binary64 false n 1) false n (round_whole binary64 false n h)

pub one_literal : of_bits binary32 1065353216 ≡ of_int binary32 (pos 1)
unfolding of_bits of_int
one_literal = refl

pub one_literal_64 : of_bits binary64 4607182418800017408 ≡ of_int binary64 (pos 1)
unfolding of_bits of_int
one_literal_64 = refl
