-- The mix of eight voxels that are at most a figure of at most 2 ^ 126 is at most that figure times (1 + 2 ^ -20) plus 2 ^ -140. Over whole
-- numbers, in units of 2 ^ -149: 2 ^ -140 is 2 ^ 9 units. Assumes nothing.
use Rattle.std.specs.Prelude.{◌≡◌, refl, ℕ, ◌+◌, ◌*◌, ◌^◌, ◌≤◌, Bool, true, false, T, Float}
use Rattle.std.proofs.Common.{sym, subst, mul-le-mul_right, arith, lit≤}
use Rattle.std.specs.Float.{binary32}
use Rattle.std.specs.Float.Ieee.{sub, mul, lt, le, fits}
use Rattle.std.specs.Float.Ieee.Fits.{sub-fits}
use Rattle.std.specs.Float.Ieee.Scale.{finite}
use Rattle.float.specs.Zero.{+0}
use Rattle.float.proofs.Exactly.{unit}
use Rattle.float.proofs.Ordered.{le_through, not_lt→le, number_l, number_r}
use Rattle.float.proofs.Rising.{finite_between}
use Rattle.float.proofs.Blend.{Unit01}
use Rattle.float.specs.Units.{units_of}
use Rattle.float.proofs.Parts.{less_floor_01}
use Rattle.float.specs.Fused.{floor}
use Rattle.mix.specs.Mix.{lerp, along_z, along_y, mix, part}
use Rattle.mix.specs.Bounded.{ceiling, Mixed}
use Rattle.float.proofs.Rounded.{Sized}
use Rattle.float.proofs.Steps.{rest_step, mul_step, add_step}
use Rattle.mix.proofs.Most.{more, rest_fine, first_fine, second_fine, sum_fine, step_most}
use Rattle.float.proofs.Sizes.{sized_finite, sized_fits, units_is, units_le, units_top, low_of, size_le, mul_low, add_low, rest_low}

-- finite, not negative, and at most M units
pub record Held (x : Float) (M : ℕ) : Type 0 where
  pub size : ℕ
  pub sized : Sized binary32 x size
  pub most : size ≤ M
  pub low : T (le +0 x)

-- an f32 from 0 to 1
pub record Part (t : Float) : Type 0 where
  pub within : Unit01 t
  pub fit : T (fits binary32 t)

long : 2 ^ 49 ≤ 2 ^ 149
long = lit≤ tt

far : 2 ^ 149 * 2 ≤ 2 ^ 277
far = lit≤ tt

-- one step
pub lerp_held : (a b t : Float) (M : ℕ) → Held a M → Held b M → Part t → M * 4 ≤ 2 ^ 277 * 3
    → Held (lerp a b t) (more M)
unfolding lerp
lerp_held a b t M p q u m =
    let L = 2 ^ 149 in
    let O = 2 ^ 277 in
    let r = sub binary32 unit t in
    let (t', vt) = sized_fits binary32 t u.within.real u.fit in
    let lt' = low_of binary32 t t' vt u.within.low in
    let k : t' ≤ L = size_le binary32 t unit t' L vt refl lt' u.within.high in
    let (S, vs, ns) = rest_step binary32 t t' vt lt' k (rest_fine L O long far t') in
    let A = p.size in
    let B = q.size in
    let x = mul binary32 r a in
    let y = mul binary32 t b in
    let a_most = p.most in
    let b_most = q.most in
    let (U, vu, nu) = mul_step binary32 r a S A vs p.sized (first_fine L O long far A B M S t' a_most b_most k ns m) in
    let (W, vw, nw) = mul_step binary32 t b t' B vt q.sized (second_fine L O long far A B M S t' a_most b_most k ns m) in
    let (R, vr, nr) = add_step binary32 x y U W vu vw (sum_fine L O long far A B M S t' a_most b_most k ns U W nu nw m) in
    let r_low = rest_low binary32 t u.within.real u.within.high in
    record {
      size = R;
      sized = vr;
      most = step_most L O long far A B M S t' a_most b_most k ns U W nu nw R nr;
      low = add_low binary32 x y (sized_finite binary32 x U vu) (sized_finite binary32 y W vw)
          (mul_low binary32 r a (sized_finite binary32 r S vs) (sized_finite binary32 a A p.sized) r_low p.low)
          (mul_low binary32 t b u.within.real (sized_finite binary32 b B q.sized) u.within.low q.low);
    }

-- ---- three steps
room : (M O : ℕ) → 1048576 ≤ O → M * 4 ≤ O → (M * 4 ≤ O * 3) × (more M * 4 ≤ O * 3) × (more (more M) * 4 ≤ O * 3)
room M O h k = (omega arith, omega arith, omega arith)

thrice : (M R : ℕ) → R ≤ more (more (more M)) → R * 2 ^ 20 ≤ M * (2 ^ 20 + 1) + 2 ^ 29
thrice M R h = omega arith

pub mix_held : (v : Bool → Bool → Bool → Float) (tx ty tz : Float) (M : ℕ) → ((x y z : Bool) → Held (v x y z) M) → Part tx → Part ty → Part tz
    → M * 4 ≤ 2 ^ 277 → Held (mix v tx ty tz) (more (more (more M)))
unfolding mix along_y along_z
mix_held v tx ty tz M h px py pz m =
    let (a, b, c) = room M (2 ^ 277) (lit≤ tt) m in
    let z : (x y : Bool) → Held (lerp (v x y false) (v x y true) tz) (more M) =
    λ x y. lerp_held (v x y false) (v x y true) tz M (h x y false) (h x y true) pz a in
    let y : (x : Bool) → Held (lerp (lerp (v x false false) (v x false true) tz) (lerp (v x true false) (v x true true) tz) ty) (more (more M)) =
    λ x. lerp_held _ _ ty (more M) (z x false) (z x true) py b in
    lerp_held _ _ tx (more (more M)) (y false) (y true) px c

-- ---- the figure of a cell
-- a voxel that is finite and not negative, and that the figure F is not below
pub record Under (F w : Float) : Type 0 where
  pub real : T (finite w)
  pub fit : T (fits binary32 w)
  pub low : T (le +0 w)
  pub high : lt F w ≡ false

below_of_lem : (F w : Float) → T (le F ceiling) → Under F w → T (le w F)
below_of_lem F w c u = not_lt→le F w (number_l F ceiling c) (number_r +0 w u.low) u.high

pub mixed : (v : Bool → Bool → Bool → Float) (tx ty tz F : Float) → T (le F ceiling) → ((x y z : Bool) → Under F (v x y z))
    → Part tx → Part ty → Part tz → Mixed F (mix v tx ty tz)
mixed v tx ty tz F c u px py pz =
    done (mix v tx ty tz)
    (mix_held v tx ty tz (units_of F) (λ x y z. holds (v x y z) (u x y z)) px py pz (mul-le-mul_right 4 (units_top 126 F real low c)))
  where
    low : T (le +0 F)
    low = let w = u false false false in le_through +0 (v false false false) F w.low (below_of_lem F (v false false false) c w)

    real : T (finite F)
    real = finite_between +0 F ceiling tt tt low c

    holds : (w : Float) → Under F w → Held w (units_of F)
    holds w u =
        let (W, r) = sized_fits binary32 w u.real u.fit in
        record { size = W; sized = r; most = units_le w F W r (low_of binary32 w W r u.low) real (below_of_lem F w c u); low = u.low }

    done : (m : Float) → Held m (more (more (more (units_of F)))) → Mixed F m
    done m h = record {
      real = sized_finite binary32 m h.size h.sized;
      low = h.low;
      most =
          subst (λ (k : ℕ). k * 2 ^ 20 ≤ units_of F * (2 ^ 20 + 1) + 2 ^ 29) (sym (units_is m h.size h.sized))
          (thrice (units_of F) h.size h.most);
    }

-- ---- the part of a position
pub part_of : (p : Float) → T (finite p) → T (fits binary32 p) → Part (part p)
unfolding part
part_of p r h = record { within = less_floor_01 binary32 p r h; fit = sub-fits binary32 p (floor binary32 p) }
