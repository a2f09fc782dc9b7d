-- Floor and floor + 1 of a number between two whose own are coordinates are coordinates too. Assumes nothing.
use Rattle.std.specs.Prelude.{◌≡◌, Bool, true, false, ◌&&◌, T, ℤ, pos, refl, Float}
use Rattle.std.proofs.Common.{sym, ap, ◌∙◌}
use Rattle.std.proofs.Math.Path.{subst}
use Rattle.std.proofs.Math.IntN.{suc_ℤ}
use Rattle.std.specs.Float.{fin, binary64}
use Rattle.std.specs.Float.Ieee.{le, add, of_int, to_signed}
use Rattle.std.specs.Float.Ieee.Bits.{is_true}
use Rattle.std.specs.Float.Ieee.Fits.{and_i}
use Rattle.std.specs.Float.Ieee.Scale.{finite}
use Rattle.refusals.specs.Results.{ok, need}
use Rattle.float.specs.Fused.{floor}
use Rattle.float.specs.Coordinate.{coordinate}
use Rattle.float.specs.Zero.{+0}
use Rattle.float.specs.Integer.{floor_z}
use Rattle.float.proofs.Exactly.{unit, add_zero}
use Rattle.float.proofs.Numbers.{floor_fits}
use Rattle.float.proofs.Ordered.{le_through}
use Rattle.float.proofs.Rising.{add_rises, finite_between}
use Rattle.float.proofs.Middle.{Mid, add_left, le_self}
use Rattle.float.proofs.Floors.{Taken, taken, floor_rises, low_end, high_end}

abbrev one : Float
one = of_int binary64 (pos 1)

takes : (v : Float) → T (finite v) → T (le (fin true 1 (pos 31)) v) → T (le v (fin false 2147483647 (pos 0))) → coordinate v ≡ ok (to_signed 31 v)
unfolding coordinate of_int
takes v p l h =
    let low = le (fin true 1 (pos 31)) v in
    let high = le v (fin false 2147483647 (pos 0)) in
    ap (λ (b : Bool). need b 16 (ok (to_signed 31 v)))
    (is_true (finite v && low && high) (and_i (finite v && low) high (and_i (finite v) low p l) h))

one_is : one ≡ unit
unfolding of_int
one_is = refl

module _ (lo w hi : Float) (r : Mid lo w hi) (l h : ℤ) (below : coordinate (floor binary64 lo) ≡ ok l)
    (above : coordinate (add binary64 (floor binary64 hi) one) ≡ ok h) where
  first : Taken (floor binary64 lo) l
  first = taken (floor binary64 lo) l below

  last : Taken (add binary64 (floor binary64 hi) one) h
  last = taken (add binary64 (floor binary64 hi) one) h above

  from_low : T (le (floor binary64 lo) (floor binary64 w))
  from_low = floor_rises binary64 lo w r.first r.real r.rise

  to_high : T (le (floor binary64 w) (floor binary64 hi))
  to_high = floor_rises binary64 w hi r.real r.last r.on

  top_real : T (finite (floor binary64 hi))
  top_real = add_left binary64 (floor binary64 hi) one last.real

  floor_real : T (finite (floor binary64 w))
  floor_real =
      finite_between (floor binary64 lo) (floor binary64 w) (floor binary64 hi) first.real top_real from_low to_high

  one_real : T (finite one)
  one_real = subst (λ (x : Float). T (finite x)) (sym one_is) tt

  one_up : T (le +0 one)
  unfolding le
  one_up = subst (λ (x : Float). T (le +0 x)) (sym one_is) tt

  step : T (le (floor binary64 w) (add binary64 (floor binary64 w) one))
  step =
      let x = floor binary64 w in
      le_through x (add binary64 x +0) (add binary64 x one) (add_zero binary64 x +0 floor_real (floor_fits binary64 w) tt).1
      (add_rises binary64 x x +0 one floor_real floor_real tt one_real (le_self x floor_real) one_up)

  under_top : T (le (add binary64 (floor binary64 w) one) (add binary64 (floor binary64 hi) one))
  under_top =
      add_rises binary64 (floor binary64 w) (floor binary64 hi) one one floor_real top_real one_real one_real to_high (le_self one one_real)

  from_bottom : T (le (fin true 1 (pos 31)) (floor binary64 w))
  from_bottom = le_through (fin true 1 (pos 31)) (floor binary64 lo) (floor binary64 w) first.low from_low

  next_high : T (le (add binary64 (floor binary64 w) one) (fin false 2147483647 (pos 0)))
  next_high =
      le_through (add binary64 (floor binary64 w) one) (add binary64 (floor binary64 hi) one) (fin false 2147483647 (pos 0)) under_top
      last.high

  floor_taken : coordinate (floor binary64 w) ≡ ok (to_signed 31 (floor binary64 w))
  floor_taken =
      takes (floor binary64 w) floor_real from_bottom
      (le_through (floor binary64 w) (add binary64 (floor binary64 w) one) (fin false 2147483647 (pos 0)) step next_high)

  next_taken : coordinate (add binary64 (floor binary64 w) one) ≡ ok (to_signed 31 (add binary64 (floor binary64 w) one))
  next_taken =
      let x = add binary64 (floor binary64 w) one in
      takes x (finite_between (floor binary64 w) x (add binary64 (floor binary64 hi) one) floor_real last.real step under_top)
      (le_through (fin true 1 (pos 31)) (floor binary64 w) x from_bottom step) next_high

  pub floor_ok : coordinate (floor binary64 w) ≡ ok (floor_z w)
  floor_ok = floor_taken ∙ ap ok (low_end w (to_signed 31 (floor binary64 w)) floor_taken).1

  pub next_ok : coordinate (add binary64 (floor binary64 w) one) ≡ ok (suc_ℤ (floor_z w))
  next_ok = next_taken ∙ ap ok (high_end w (to_signed 31 (add binary64 (floor binary64 w) one)) next_taken).1
