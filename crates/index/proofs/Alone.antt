-- Each axis stands alone: where the map is diagonal, the two boxes of a cell are those that the axes give one by one, and a cell that some axis
-- refuses is refused by 16. Assumes nothing.
use Rattle.std.specs.Prelude.{◌≡◌, ℕ, ◌+◌, ℤ, T}
use Rattle.std.proofs.Math.Path.{refl}
use Rattle.std.proofs.Common.{sym, ap, ◌∙◌, inl, inr}
use Rattle.std.proofs.Math.Nat as NatL
use lib.Ieee.{Float, nan, inf, fin, binary32, binary64, add, sub, mul}
use Rattle.std.specs.Float.Ieee.Fits.{mul-fits}
use Rattle.std.specs.Float.Ieee.Scale.{finite}
use Rattle.refusals.specs.Results.{Result, ok, refused, bind}
use Rattle.refusals.specs.ResultLaws.{bind_ok, ok_injective, stopped}
use Rattle.float.specs.Fused.{fma, narrow, trunc, floor}
use Rattle.float.proofs.Floors.{taken}
use Rattle.float.proofs.Numbers.{narrow_fits, fma_fits}
use Rattle.float.proofs.Middle.{add_left, mul_left, fma_left, fma_last, sub_left}
use Rattle.float.proofs.Alike.{Alike, alike_through, narrow_zero, fma_plain, fma_none}
use Rattle.float.proofs.Zeros.{is_zero, mul_zero_right, fma_zero}
use Rattle.medium.specs.Medium.{Point, Medium, Axis, x_axis, y_axis, z_axis, on_point, on_coord, map_at, map_fault}
use Rattle.index.specs.Index.{world_to_index, majorant_index}
use Rattle.index.specs.Cells.{corner, Cells, cell_axis, cells_on, cell_corner, Ends, max_z, min_z, one, first_ends, second_ends}
use Rattle.index.specs.Axes.{Line, Both, corner_on, index_on, majorant_on, first_low, first_high, second_low, second_high, first_on, second_on, ends_on}
use Rattle.index.specs.Axes.{axis_ends, line_of, ends_at}
use Rattle.index.specs.Answers.{AxisEnds, axis_ends_of, both_of}
use Rattle.index.proofs.Corners.{corner_on_lem}
use Rattle.index.proofs.SameEnds.{first_low_same, first_high_same, second_low_same, second_high_same}
use Rattle.index.proofs.Middle.{Straight, straight}
use Rattle.index.proofs.Sixteen.{Only, only_bind, only_two}

-- ---- an end that is taken comes from a finite position
trunc_left : (x : Float) → T (finite (trunc binary64 x)) → T (finite x)
unfolding trunc
trunc_left nan h = h
trunc_left (inf s) h = h
trunc_left (fin s m e) h = tt

floor_left : (x : Float) → T (finite (floor binary64 x)) → T (finite x)
unfolding floor
floor_left nan h = h
floor_left (inf s) h = h
floor_left (fin s m e) h = tt

narrow_left : (x : Float) → T (finite (narrow x)) → T (finite x)
unfolding narrow
narrow_left nan h = h
narrow_left (inf s) h = h
narrow_left (fin s m e) h = tt

first_low_real : (v : Float) (z : ℤ) → first_low v ≡ ok z → T (finite v)
unfolding first_low
first_low_real v z e = sub_left binary64 v one (trunc_left (sub binary64 v one) (taken (trunc binary64 (sub binary64 v one)) z e).real)

first_high_real : (v : Float) (z : ℤ) → first_high v ≡ ok z → T (finite v)
unfolding first_high
first_high_real v z e = add_left binary64 v one (trunc_left (add binary64 v one) (taken (trunc binary64 (add binary64 v one)) z e).real)

second_low_real : (v : Float) (z : ℤ) → second_low v ≡ ok z → T (finite v)
unfolding second_low
second_low_real v z e = floor_left v (taken (floor binary64 v) z e).real

second_high_real : (v : Float) (z : ℤ) → second_high v ≡ ok z → T (finite v)
unfolding second_high
second_high_real v z e = floor_left v (add_left binary64 (floor binary64 v) one (taken (add binary64 (floor binary64 v) one) z e).real)

-- ---- the differences on the axes
record Near (m : Medium) (p : Point) : Type 0 where
  x : T (finite (narrow (sub binary64 p.x m.translation.x)))
  y : T (finite (narrow (sub binary64 p.y m.translation.y)))
  z : T (finite (sub binary64 p.z m.translation.z))

record NearF (m : Medium) (p : Point) : Type 0 where
  x : T (finite (sub binary32 p.x m.translation.x))
  y : T (finite (sub binary32 p.y m.translation.y))
  z : T (finite (sub binary32 p.z m.translation.z))

-- a finite position on any axis has finite differences on all
near : (m : Medium) (p : Point) (a : Axis) → T (finite (majorant_index m p a)) → Near m p
unfolding majorant_index
near m p a h =
    let dx = narrow (sub binary64 p.x m.translation.x) in
    let dy = narrow (sub binary64 p.y m.translation.y) in
    let dz = sub binary64 p.z m.translation.z in
    let w = narrow (mul binary64 dz (map_at m a 2)) in
    let v = fma binary32 dy (map_at m a 1) w in
    let i : T (finite v) = fma_last binary32 dx (map_at m a 0) v h in
    record {
      x = fma_left binary32 dx (map_at m a 0) v h;
      y = fma_left binary32 dy (map_at m a 1) w i;
      z = mul_left binary64 dz (map_at m a 2) (narrow_left (mul binary64 dz (map_at m a 2)) (fma_last binary32 dy (map_at m a 1) w i));
    }

near_f : (m : Medium) (p : Point) (a : Axis) → T (finite (world_to_index m p a)) → NearF m p
unfolding world_to_index
near_f m p a h =
    let dx = sub binary32 p.x m.translation.x in
    let dy = sub binary32 p.y m.translation.y in
    let dz = sub binary32 p.z m.translation.z in
    let w = mul binary32 dz (map_at m a 2) in
    let v = fma binary32 dy (map_at m a 1) w in
    let i : T (finite v) = fma_last binary32 dx (map_at m a 0) v h in
    record {
      x = fma_left binary32 dx (map_at m a 0) v h;
      y = fma_left binary32 dy (map_at m a 1) w i;
      z = mul_left binary32 dz (map_at m a 2) (fma_last binary32 dy (map_at m a 1) w i);
    }

-- the three rows, with x, y and z the differences: what the row's own axis gives, but for the sign of a zero
row_x : (x y w r p : Float) → T (finite x) → T (finite y) → T (finite r) → T (is_zero p) → T (is_zero w)
    → Alike (fma binary32 x r (fma binary32 y p w)) (mul binary32 x r)
row_x x y w r p X Y R P W = fma_plain binary32 x r (fma binary32 y p w) X R (fma_zero binary32 y p w Y P W)

row_y : (x y w r p : Float) → T (finite x) → T (finite y) → T (is_zero p) → T (finite r) → T (is_zero w)
    → Alike (fma binary32 x p (fma binary32 y r w)) (mul binary32 y r)
row_y x y w r p X Y P R W =
    alike_through (fma binary32 x p (fma binary32 y r w)) (fma binary32 y r w) (mul binary32 y r)
    (fma_none binary32 x p (fma binary32 y r w) X P (fma_fits binary32 y r w)) (fma_plain binary32 y r w Y R W)

row_z : (x y w p q : Float) → T (finite x) → T (finite y) → T (is_zero p) → T (is_zero q) → T (lib.Ieee.fits binary32 w)
    → Alike (fma binary32 x p (fma binary32 y q w)) w
row_z x y w p q X Y P Q W =
    alike_through (fma binary32 x p (fma binary32 y q w)) (fma binary32 y q w) w
    (fma_none binary32 x p (fma binary32 y q w) X P (fma_fits binary32 y q w)) (fma_none binary32 y q w Y Q W)

first_alike : (m : Medium) → Straight m → (p : Point) → Near m p → (a : Axis) → Alike (majorant_index m p a) (majorant_on (line_of m a) (on_point a p))
unfolding majorant_index majorant_on
first_alike m s p n a =
    let dx = narrow (sub binary64 p.x m.translation.x) in
    let dy = narrow (sub binary64 p.y m.translation.y) in
    let dz = sub binary64 p.z m.translation.z in
    let w : (r : Float) → T (is_zero r) → T (is_zero (narrow (mul binary64 dz r))) =
    λ r h. narrow_zero (mul binary64 dz r) (mul_zero_right binary64 dz r n.z h) in
    elim a as (λ b. Alike (majorant_index m p b) (majorant_on (line_of m b) (on_point b p))) [
      | x_axis ↦ row_x dx dy (narrow (mul binary64 dz (map_at m x_axis 2))) (map_at m x_axis 0) (map_at m x_axis 1) n.x n.y s.xx s.xy
          (w (map_at m x_axis 2) s.xz)
      | y_axis ↦ row_y dx dy (narrow (mul binary64 dz (map_at m y_axis 2))) (map_at m y_axis 1) (map_at m y_axis 0) n.x n.y s.yx s.yy
          (w (map_at m y_axis 2) s.yz)
      | z_axis ↦ row_z dx dy (narrow (mul binary64 dz (map_at m z_axis 2))) (map_at m z_axis 0) (map_at m z_axis 1) n.x n.y s.zx s.zy
          (narrow_fits (mul binary64 dz (map_at m z_axis 2)))
    ]

second_alike : (m : Medium) → Straight m → (p : Point) → NearF m p → (a : Axis) → Alike (world_to_index m p a) (index_on (line_of m a) (on_point a p))
unfolding world_to_index index_on
second_alike m s p n a =
    let dx = sub binary32 p.x m.translation.x in
    let dy = sub binary32 p.y m.translation.y in
    let dz = sub binary32 p.z m.translation.z in
    elim a as (λ b. Alike (world_to_index m p b) (index_on (line_of m b) (on_point b p))) [
      | x_axis ↦ row_x dx dy (mul binary32 dz (map_at m x_axis 2)) (map_at m x_axis 0) (map_at m x_axis 1) n.x n.y s.xx s.xy
          (mul_zero_right binary32 dz (map_at m x_axis 2) n.z s.xz)
      | y_axis ↦ row_y dx dy (mul binary32 dz (map_at m y_axis 2)) (map_at m y_axis 1) (map_at m y_axis 0) n.x n.y s.yx s.yy
          (mul_zero_right binary32 dz (map_at m y_axis 2) n.z s.yz)
      | z_axis ↦ row_z dx dy (mul binary32 dz (map_at m z_axis 2)) (map_at m z_axis 0) (map_at m z_axis 1) n.x n.y s.zx s.zy
          (mul-fits binary32 dz (map_at m z_axis 2))
    ]

-- an axis's own finite position has a finite difference
own : (m : Medium) (p : Point) → ((a : Axis) → T (finite (majorant_on (line_of m a) (on_point a p)))) → Near m p
unfolding majorant_on
own m p h = record {
  x = mul_left binary32 (narrow (sub binary64 p.x m.translation.x)) (map_at m x_axis 0) (h x_axis);
  y = mul_left binary32 (narrow (sub binary64 p.y m.translation.y)) (map_at m y_axis 1) (h y_axis);
  z =
      mul_left binary64 (sub binary64 p.z m.translation.z) (map_at m z_axis 2)
      (narrow_left (mul binary64 (sub binary64 p.z m.translation.z) (map_at m z_axis 2)) (h z_axis));
}

own_f : (m : Medium) (p : Point) → ((a : Axis) → T (finite (index_on (line_of m a) (on_point a p)))) → NearF m p
unfolding index_on
own_f m p h = record {
  x = mul_left binary32 (sub binary32 p.x m.translation.x) (map_at m x_axis 0) (h x_axis);
  y = mul_left binary32 (sub binary32 p.y m.translation.y) (map_at m y_axis 1) (h y_axis);
  z = mul_left binary32 (sub binary32 p.z m.translation.z) (map_at m z_axis 2) (h z_axis);
}

-- ---- the ends of two points
abbrev first_of : Medium → Point → Point → Axis → Result Ends
first_of m p q a =
    bind (first_low (majorant_index m p a)) (λ (l : ℤ). bind (first_high (majorant_index m q a)) (λ (h : ℤ).
    ok (record { lo = max_z l (on_coord a m.index_low); hi = min_z h (on_coord a m.index_high) })))

abbrev second_of : Medium → Point → Point → Axis → Result Ends
second_of m p q a =
    bind (second_low (world_to_index m p a)) (λ (l : ℤ). bind (second_high (world_to_index m q a)) (λ (h : ℤ).
    ok (record { lo = l; hi = h })))

abbrev own_of : Medium → Point → Point → Axis → Result Both
own_of m p q a = ends_on (line_of m a) (on_point a p) (on_point a q)

-- two steps that both gave a value
record Steps (r s : Result ℤ) (make : ℤ → ℤ → Ends) (e : Ends) : Type 0 where
  l : ℤ
  h : ℤ
  low : r ≡ ok l
  high : s ≡ ok h
  is : make l h ≡ e

steps : (r s : Result ℤ) (make : ℤ → ℤ → Ends) (e : Ends) → bind r (λ (l : ℤ). bind s (λ (h : ℤ). ok (make l h))) ≡ ok e → Steps r s make e
steps r s make e i =
    let (l, p, q) = bind_ok r (λ (l : ℤ). bind s (λ (h : ℤ). ok (make l h))) i in
    let (h, t, u) = bind_ok s (λ (h : ℤ). ok (make l h)) q in
    record { l = l; h = h; low = p; high = t; is = ok_injective u }

steps_back : (r s : Result ℤ) (make : ℤ → ℤ → Ends) (e : Ends) → Steps r s make e → bind r (λ (l : ℤ). bind s (λ (h : ℤ). ok (make l h))) ≡ ok e
steps_back r s make e i =
    ap (λ (r : Result ℤ). bind r (λ (l : ℤ). bind s (λ (h : ℤ). ok (make l h)))) i.low
    ∙ ap (λ (s : Result ℤ). bind s (λ (h : ℤ). ok (make i.l h))) i.high ∙ ap ok i.is

abbrev clipped : Line → ℤ → ℤ → Ends
clipped l a b = record { lo = max_z a l.index_low; hi = min_z b l.index_high }

abbrev plain : ℤ → ℤ → Ends
plain a b = record { lo = a; hi = b }

abbrev FirstOn : Line → Float → Float → Ends → Type 0
FirstOn l p q e = Steps (first_low (majorant_on l p)) (first_high (majorant_on l q)) (clipped l) e

abbrev SecondOn : Line → Float → Float → Ends → Type 0
SecondOn l p q e = Steps (second_low (index_on l p)) (second_high (index_on l q)) plain e

first_steps : (l : Line) (p q : Float) (e : Ends) → first_on l p q ≡ ok e → FirstOn l p q e
unfolding first_on
first_steps l p q e i = steps (first_low (majorant_on l p)) (first_high (majorant_on l q)) (clipped l) e i

second_steps : (l : Line) (p q : Float) (e : Ends) → second_on l p q ≡ ok e → SecondOn l p q e
unfolding second_on
second_steps l p q e i = steps (second_low (index_on l p)) (second_high (index_on l q)) plain e i

ends_split : (l : Line) (p q : Float) (e : Both) → ends_on l p q ≡ ok e → FirstOn l p q e.first × SecondOn l p q e.second
unfolding ends_on
ends_split l p q e i =
    let (f, x, j) = bind_ok (first_on l p q) (λ (f : Ends). bind (second_on l p q) (λ (s : Ends). ok (record { first = f; second = s }))) i in
    let (s, y, k) = bind_ok (second_on l p q) (λ (s : Ends). ok (record { first = f; second = s })) j in
    let o = ok_injective k in
    (first_steps l p q e.first (x ∙ ap (λ (e : Both). ok e.first) o), second_steps l p q e.second (y ∙ ap (λ (e : Both). ok e.second) o))

ends_join : (l : Line) (p q : Float) (f s : Ends) → FirstOn l p q f → SecondOn l p q s → ends_on l p q ≡ ok (record { first = f; second = s })
unfolding ends_on first_on second_on
ends_join l p q f s i j =
    ap (λ (r : Result Ends). bind r (λ (f : Ends). bind (second_on l p q) (λ (s : Ends). ok (record { first = f; second = s }))))
    (steps_back (first_low (majorant_on l p)) (first_high (majorant_on l q)) (clipped l) f i)
    ∙ ap (λ (r : Result Ends). bind r (λ (s : Ends). ok (record { first = f; second = s })))
    (steps_back (second_low (index_on l p)) (second_high (index_on l q)) plain s j)

module _ (m : Medium) (s : Straight m) (p q : Point) where
  -- an axis that both definitions take
  from_both : (a : Axis) (f g : Ends) → first_of m p q a ≡ ok f → second_of m p q a ≡ ok g → own_of m p q a ≡ ok (record { first = f; second = g })
  from_both a f g i j =
      let F = steps (first_low (majorant_index m p a)) (first_high (majorant_index m q a)) (clipped (line_of m a)) f i in
      let G = steps (second_low (world_to_index m p a)) (second_high (world_to_index m q a)) plain g j in
      let n = near m p a (first_low_real (majorant_index m p a) F.l F.low) in
      let o = near m q a (first_high_real (majorant_index m q a) F.h F.high) in
      let u = near_f m p a (second_low_real (world_to_index m p a) G.l G.low) in
      let v = near_f m q a (second_high_real (world_to_index m q a) G.h G.high) in
      ends_join (line_of m a) (on_point a p) (on_point a q) f g
      (record {
        l = F.l;
        h = F.h;
        low = sym (first_low_same (majorant_index m p a) (majorant_on (line_of m a) (on_point a p)) (first_alike m s p n a))
            ∙ F.low;
        high = sym (first_high_same (majorant_index m q a) (majorant_on (line_of m a) (on_point a q)) (first_alike m s q o a)) ∙ F.high;
        is = F.is;
      })
      (record {
        l = G.l;
        h = G.h;
        low = sym (second_low_same (world_to_index m p a) (index_on (line_of m a) (on_point a p)) (second_alike m s p u a))
            ∙ G.low;
        high = sym (second_high_same (world_to_index m q a) (index_on (line_of m a) (on_point a q)) (second_alike m s q v a)) ∙ G.high;
        is = G.is;
      })

  -- three axes that are taken one by one
  from_own : ((a : Axis) → (e : Both) × (own_of m p q a ≡ ok e)) → (a : Axis) (e : Both) → own_of m p q a ≡ ok e
      → (first_of m p q a ≡ ok e.first) × (second_of m p q a ≡ ok e.second)
  from_own h a e i =
      let part : (b : Axis) → FirstOn (line_of m b) (on_point b p) (on_point b q) (h b).0.first
      × SecondOn (line_of m b) (on_point b p) (on_point b q) (h b).0.second = λ b. ends_split (line_of m b) (on_point b p) (on_point b q) (h b).0 (h b).1 in
      let (F, G) = ends_split (line_of m a) (on_point a p) (on_point a q) e i in
      let n = own m p (λ b. first_low_real (majorant_on (line_of m b) (on_point b p)) (part b).0.l (part b).0.low) in
      let o = own m q (λ b. first_high_real (majorant_on (line_of m b) (on_point b q)) (part b).0.h (part b).0.high) in
      let u = own_f m p (λ b. second_low_real (index_on (line_of m b) (on_point b p)) (part b).1.l (part b).1.low) in
      let v = own_f m q (λ b. second_high_real (index_on (line_of m b) (on_point b q)) (part b).1.h (part b).1.high) in (
        steps_back (first_low (majorant_index m p a)) (first_high (majorant_index m q a)) (clipped (line_of m a)) e.first
            (record {
              l = F.l;
              h = F.h;
              low = first_low_same (majorant_index m p a) (majorant_on (line_of m a) (on_point a p)) (first_alike m s p n a)
                  ∙ F.low;
              high = first_high_same (majorant_index m q a) (majorant_on (line_of m a) (on_point a q)) (first_alike m s q o a) ∙ F.high;
              is = F.is;
            }),
        steps_back (second_low (world_to_index m p a)) (second_high (world_to_index m q a)) plain e.second
            (record {
              l = G.l;
              h = G.h;
              low = second_low_same (world_to_index m p a) (index_on (line_of m a) (on_point a p)) (second_alike m s p u a)
                  ∙ G.low;
              high = second_high_same (world_to_index m q a) (index_on (line_of m a) (on_point a q)) (second_alike m s q v a) ∙ G.high;
              is = G.is;
            }),
      )

-- ---- a value, or 16
pub only_first : (m : Medium) (n : Cells) (k : ℕ) (a : Axis) → Only (first_ends m n k a)
unfolding first_ends
only_first m n k a =
    only_two (trunc binary64 (sub binary64 (majorant_index m (cell_corner m n k 0) a) one))
    (trunc binary64 (add binary64 (majorant_index m (cell_corner m n k 1) a) one)) (clipped (line_of m a))

pub only_second : (m : Medium) (n : Cells) (k : ℕ) (a : Axis) → Only (second_ends m n k a)
unfolding second_ends
only_second m n k a =
    only_two (floor binary64 (world_to_index m (cell_corner m n k 0) a)) (add binary64 (floor binary64 (world_to_index m (cell_corner m n k 1) a)) one) plain

-- an axis by itself is refused by nothing but 16
pub axis_only : (l : Line) (n k : ℕ) → Only (axis_ends l n k)
unfolding axis_ends ends_on first_on second_on first_low first_high second_low second_high
axis_only l n k =
    let p = corner_on l.low l.high n k in
    let q = corner_on l.low l.high n (k + 1) in
    only_bind (first_on l p q) (λ (f : Ends). bind (second_on l p q) (λ (s : Ends). ok (record { first = f; second = s })))
    (only_two (trunc binary64 (sub binary64 (majorant_on l p) one)) (trunc binary64 (add binary64 (majorant_on l q) one)) (clipped l)) (λ f.
    only_bind (second_on l p q) (λ (s : Ends). ok (record { first = f; second = s }))
    (only_two (floor binary64 (index_on l p)) (add binary64 (floor binary64 (index_on l q)) one) plain) (λ s. inl (record { first = f; second = s }, refl)))

-- so what `axis_ends` answers tells the outcome
pub axis_told : (l : Line) (n k : ℕ) {r : AxisEnds} → r ≡ axis_ends_of (axis_ends l n k) → both_of r ≡ axis_ends l n k
axis_told l n k e = ap both_of e ∙ back (axis_ends l n k) (axis_only l n k)
  where
    back : (x : Result Both) → Only x → both_of (axis_ends_of x) ≡ x
    back (ok b) h = refl
    back (refused n) (inl (b, e)) = absurd (stopped e)
    back (refused n) (inr e) = ap (λ (x : Result Both). both_of (axis_ends_of x)) e ∙ sym e

-- ---- three axes
abbrev pub each_axis : {A B : Type 0} → (Axis → Result A) → (A → A → A → B) → Result B
each_axis {A} f make = bind (f x_axis) (λ (x : A). bind (f y_axis) (λ (y : A). bind (f z_axis) (λ (z : A). ok (make x y z))))

module _ {B C : Type 0} (F S : Axis → Result Ends) (make : Ends → Ends → Ends → B) (G : B → B → Result C) where
  abbrev both : Result C
  both = bind (each_axis F make) (λ (f : B). bind (each_axis S make) (λ (s : B). G f s))

  both_taken : (e : Axis → Both) → ((a : Axis) → (F a ≡ ok (e a).first) × (S a ≡ ok (e a).second))
      → both ≡ G (make (e x_axis).first (e y_axis).first (e z_axis).first) (make (e x_axis).second (e y_axis).second (e z_axis).second)
  both_taken e h = rw ((h x_axis).0, (h y_axis).0, (h z_axis).0, (h x_axis).1, (h y_axis).1, (h z_axis).1)

  -- an axis that is not taken in both boxes
  both_refused : ((a : Axis) → Only (F a)) → ((a : Axis) → Only (S a)) → (a : Axis) → ((f s : Ends) → F a ≡ ok f → S a ≡ ok s → ⊥) → both ≡ refused 16
  both_refused f s a h = elim (f x_axis) [
    | inr e ↦ rw e
    | inl x ↦ elim (f y_axis) [
      | inr e ↦ rw (x.1, e)
      | inl y ↦ elim (f z_axis) [
        | inr e ↦ rw (x.1, y.1, e)
        | inl z ↦ elim (s x_axis) [
          | inr e ↦ rw (x.1, y.1, z.1, e)
          | inl u ↦ elim (s y_axis) [
            | inr e ↦ rw (x.1, y.1, z.1, u.1, e)
            | inl v ↦ elim (s z_axis) [
              | inr e ↦ rw (x.1, y.1, z.1, u.1, v.1, e)
              | inl w ↦ absurd (none a h x y z u v w)
            ]
          ]
        ]
      ]
    ]
  ]
    where
      none : (a : Axis) → ((f s : Ends) → F a ≡ ok f → S a ≡ ok s → ⊥) → (e : Ends) × (F x_axis ≡ ok e) → (e : Ends) × (F y_axis ≡ ok e)
          → (e : Ends) × (F z_axis ≡ ok e) → (e : Ends) × (S x_axis ≡ ok e) → (e : Ends) × (S y_axis ≡ ok e) → (e : Ends) × (S z_axis ≡ ok e) → ⊥
      none x_axis h x y z u v w = h x.0 u.0 x.1 u.1
      none y_axis h x y z u v w = h y.0 v.0 y.1 v.1
      none z_axis h x y z u v w = h z.0 w.0 z.1 w.1

own_is : (m : Medium) (n : Cells) (k : ℕ) (a : Axis) → ends_at m n k a ≡ own_of m (cell_corner m n k 0) (cell_corner m n k 1) a
own_is m n k a =
    elim a as (λ b. ends_at m n k b ≡ own_of m (cell_corner m n k 0) (cell_corner m n k 1) b) [
      | x_axis ↦ go x_axis n.x
          (cell_axis n k x_axis)
      | y_axis ↦ go y_axis n.y (cell_axis n k y_axis)
      | z_axis ↦ go z_axis n.z (cell_axis n k z_axis)
    ]
  where
    go : (a : Axis) (N K : ℕ) → axis_ends (line_of m a) N K ≡ ends_on (line_of m a) (corner m a N (K + 0)) (corner m a N (K + 1))
    go a N K =
        is (line_of m a) N K ∙ ap (λ (v : Float). ends_on (line_of m a) v (corner_on (on_point a m.low) (on_point a m.high) N (K + 1)))
        (ap (corner_on (on_point a m.low) (on_point a m.high) N) (sym (NatL.add-zero K)) ∙ sym (corner_on_lem m a N (K + 0)))
        ∙ ap (ends_on (line_of m a) (corner m a N (K + 0))) (sym (corner_on_lem m a N (K + 1)))
      where
        is : (l : Line) (N K : ℕ) → axis_ends l N K ≡ ends_on l (corner_on l.low l.high N K) (corner_on l.low l.high N (K + 1))
        is l N K = unfold axis_ends in refl

first_is : (m : Medium) (n : Cells) (k : ℕ) (a : Axis) → first_ends m n k a ≡ first_of m (cell_corner m n k 0) (cell_corner m n k 1) a
unfolding first_ends first_low first_high
first_is m n k a = refl

second_is : (m : Medium) (n : Cells) (k : ℕ) (a : Axis) → second_ends m n k a ≡ second_of m (cell_corner m n k 0) (cell_corner m n k 1) a
unfolding second_ends second_low second_high
second_is m n k a = refl

-- a cell's two boxes, and what is made of them, by its axes one by one
pub boxes_alone : {B C : Type 0} (m : Medium) → map_fault m ≡ 0 → (n : Cells) (k : ℕ) (make : Ends → Ends → Ends → B) (G : B → B → Result C)
    → bind (each_axis (first_ends m n k) make) (λ (f : B). bind (each_axis (second_ends m n k) make) (λ (s : B). G f s))
    ≡ bind (ends_at m n k x_axis)
    (λ (x : Both). bind (ends_at m n k y_axis)
    (λ (y : Both). bind (ends_at m n k z_axis) (λ (z : Both). G (make x.first y.first z.first) (make x.second y.second z.second))))
boxes_alone {B} {C} m M n k make G = elim (only x_axis) [
  | inr e ↦ refuse x_axis e ∙ sym (rw e)
  | inl x ↦ elim (only y_axis) [
    | inr e ↦ refuse y_axis e ∙ sym (rw (x.1, e))
    | inl y ↦ elim (only z_axis) [
      | inr e ↦ refuse z_axis e ∙ sym (rw (x.1, y.1, e))
      | inl z ↦ take x y z ∙ sym (rw (x.1, y.1, z.1))
    ]
  ]
]
  where
    only : (a : Axis) → Only (ends_at m n k a)
    only a = axis_only (line_of m a) (cells_on n a) (cell_axis n k a)

    refuse : (a : Axis) → ends_at m n k a ≡ refused 16 → both (first_ends m n k) (second_ends m n k) make G ≡ refused 16
    refuse a e =
        both_refused (first_ends m n k) (second_ends m n k) make G (only_first m n k) (only_second m n k) a
        (λ f s i j. stopped (sym e ∙ own_is m n k a
        ∙ from_both m (straight m M) (cell_corner m n k 0) (cell_corner m n k 1) a f s (sym (first_is m n k a) ∙ i) (sym (second_is m n k a) ∙ j)))

    take : (x : (e : Both) × (ends_at m n k x_axis ≡ ok e)) (y : (e : Both) × (ends_at m n k y_axis ≡ ok e))
        (z : (e : Both) × (ends_at m n k z_axis ≡ ok e))
        → both (first_ends m n k) (second_ends m n k) make G
        ≡ G (make x.0.first y.0.first z.0.first) (make x.0.second y.0.second z.0.second)
    take x y z =
        let h : (a : Axis) → (e : Both)
        × (ends_at m n k a ≡ ok e) = λ a. elim a as (λ b. (e : Both) × (ends_at m n k b ≡ ok e)) [ x_axis ↦ x | y_axis ↦ y | z_axis ↦ z ] in
        let o : (a : Axis) → (e : Both) × (own_of m (cell_corner m n k 0) (cell_corner m n k 1) a ≡ ok e) = λ a. ((h a).0, sym (own_is m n k a) ∙ (h a).1) in
        both_taken (first_ends m n k) (second_ends m n k) make G (λ a. (h a).0)
        (λ a. let r = from_own m (straight m M) (cell_corner m n k 0) (cell_corner m n k 1) o a (h a).0 (o a).1 in
        (first_is m n k a ∙ r.0, second_is m n k a ∙ r.1))
