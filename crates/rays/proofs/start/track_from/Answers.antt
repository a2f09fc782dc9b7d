-- From the high face, or from the low one. Assumes nothing.
use Rattle.std.proofs.Common.{◌≡◌, ℕ, ◌^◌, ◌<◌, ◌≤◌, Bool, true, false, cond, ℤ, pos, negsuc, ◌+ℤ◌, sym, ap, ◌∙◌, arith, w32, to_z}
use lib.Ieee.{Float, binary32, add, sub, mul, div, le, of_int, of_bits}
use mir.Facts.{to_z_pos}
use Rattle.float.proofs.Literal.{zero_literal}
use Rattle.float.proofs.WholeLaws.{one_literal}
use Rattle.rays.specs.Open.{cell_at, magnitude, track_from}
use Rattle.rays.proofs.start.track_from.Goals as goal

-- what the code forms of the values of its calls, where `forth` says which face it takes
track_is : (forth : Bool) (p d t : Float) {n k : ℕ} {face number size : Float} → (pos k ≡ cell_at p n) × (k < n) → n ≤ 128
    → number ≡ of_int binary32 (pos n) → size ≡ magnitude d → le (of_bits binary32 0) d ≡ forth
    → face ≡ of_int binary32 (cond forth (pos k +ℤ pos 1) (pos k))
    → record {
      next = add binary32 t (div binary32 (sub binary32 (div binary32 face number) p) d);
      delta = div binary32 (of_bits binary32 1065353216) (mul binary32 size number);
      step = cond forth (pos 1) (negsuc 0);
      cell = to_z w32 k;
      cells = n;
    } ≡ track_from p d t n
unfolding track_from
track_is forth p d t {n} {k} {face} c most counted sized way faced =
    let small : k < 2 ^ 31 = omega (arith, c.1) in
    let way : forth ≡ le _ d = sym way ∙ ap (λ (z : Float). le z d) (zero_literal binary32) in
    let faced : face ≡ of_int binary32 (cond (le _ d) (cell_at p n +ℤ pos 1) (cell_at p n)) =
    faced ∙ (λ i. of_int binary32 (cond (way i) (c.0 i +ℤ pos 1) (c.0 i))) in
    λ i. record {
      next = add binary32 t (div binary32 (sub binary32 (div binary32 (faced i) (counted i)) p) d);
      delta = div binary32 (one_literal i) (mul binary32 (sized i) (counted i));
      step = cond (way i) (pos 1) (negsuc 0);
      cell = (to_z_pos w32 small ∙ c.0) i;
      cells = n;
    }

pub returns-then-d : goal.returns-then-d
returns-then-d c =
    track_is true _ _ _ c.cell_at-k.ensures c.requires.1 c.nearest_u32_to_f32-count.ensures c.magnitude.ensures c.if-d.true c.nearest_u32_to_f32.ensures

pub returns-else-d : goal.returns-else-d
returns-else-d c =
    track_is false _ _ _ c.cell_at-k.ensures c.requires.1 c.nearest_u32_to_f32-count.ensures c.magnitude.ensures c.if-d.false
    c.nearest_u32_to_f32-else-d.ensures
