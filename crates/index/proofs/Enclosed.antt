-- Every point of the world box lies in a cell, for 1 to 2 ^ 24 cells on each axis, and the search finds one. Assumes nothing.
use Rattle.std.specs.Prelude.{◌≡◌, refl, ℕ, suc, ◌+◌, ◌*◌, ◌/◌, ◌%◌, ◌^◌, ◌≤◌, ◌<◌, Bool, true, false, cond, ◌&&◌, T, ltb, Float}
use Rattle.std.proofs.Common.{sym, ap, ◌∙◌, subst, mul_comm, mul_assoc, mul_left_comm, le_trans, le_of_eq, lt_irrefl, add-one, lit≤, ltb-true, lt-ltb, le-ltb}
use Rattle.std.proofs.Math.Nat.{div-div-eq-div-mul}
use Rattle.std.proofs.Math.Nat as NatL
use Rattle.std.proofs.Math.Arith.{digits_div, digits_mod, digits_lt}
use Rattle.std.specs.Float.{binary32}
use Rattle.std.specs.Float.Ieee.{lt, le, sub, fits}
use Rattle.std.specs.Float.Ieee.Scale.{finite}
use Rattle.medium.specs.Medium.{x_axis, y_axis, z_axis}
use Rattle.medium.specs.Medium.{Point, Medium, Axis, on_point, bounds_fault}
use Rattle.cells.specs.Counted.{Counted}
use Rattle.index.specs.Cells.{corner, Cells, cell_corner, cell_axis, cell_of, cells_on, Between, EnclosesIn}
use Rattle.index.specs.Axes.{corner_on}
use Rattle.index.specs.Found.{holds_on, cell_on, cell_at}
use Rattle.index.proofs.FoundLaws.{found_holds, found_some}
use Rattle.index.proofs.Corners.{corner_on_lem, on_axis}
use Rattle.refusals.specs.TestLaws.{and_l, and_r, and_i, and_same}
use Rattle.refusals.specs.FaultLaws.{unless_zero}
use Rattle.float.proofs.Tests.{yes}
use Rattle.std.specs.Float.Ieee.Bits.{is_true}

-- both corners of the world box fit binary32: they come from `narrow`
pub record Fitting (m : Medium) : Type 0 where
  pub low : (a : Axis) → T (fits binary32 (on_point a m.low))
  pub high : (a : Axis) → T (fits binary32 (on_point a m.high))

pub record Numbered (n : Cells) : Type 0 where
  pub some : (a : Axis) → 0 < cells_on n a
  pub few : (a : Axis) → cells_on n a ≤ 2 ^ 24

-- so are numbers of cells that pass
pub numbered : {n : Cells} → Counted n → Numbered n
numbered {n = n} N = record {
  some = λ a. elim a as (λ b. 0 < cells_on n b) [ x_axis ↦ N.x.some | y_axis ↦ N.y.some | z_axis ↦ N.z.some ];
  few = λ a. elim a as
      (λ b. cells_on n b ≤ 2 ^ 24) [ x_axis ↦ le_trans N.x.most (lit≤ tt) | y_axis ↦ le_trans N.y.most (lit≤ tt) | z_axis ↦ le_trans N.z.most (lit≤ tt) ];
}

bounds_finite : (m : Medium) (a : Axis) → bounds_fault m a ≡ 0 → T (finite (on_point a m.low)) × T (finite (on_point a m.high))
unfolding bounds_fault
bounds_finite m a e =
    let l = on_point a m.low in
    let h = on_point a m.high in
    let t : T (finite l && finite h) =
    and_l (finite l && finite h) (lt l h)
    (and_l (finite l && finite h && lt l h) (finite (sub binary32 h l)) (unless_zero (finite l && finite h && lt l h && finite (sub binary32 h l)) 3 e)) in
    (and_l (finite l) (finite h) t, and_r (finite l) (finite h) t)

-- ---- the number of a cell, and its three numbers on the axes
module _ (n : Cells) (x y z : ℕ) (X : x < n.x) (Y : y < n.y) (Z : z < n.z) where
  pub cell_x : cell_axis n (cell_of n x y z) x_axis ≡ x
  cell_x = digits_mod (z * n.y + y) X

  pub cell_y : cell_axis n (cell_of n x y z) y_axis ≡ y
  cell_y = ap (λ (k : ℕ). k % n.y) (digits_div (z * n.y + y) X) ∙ digits_mod z Y

  pub cell_z : cell_axis n (cell_of n x y z) z_axis ≡ z
  cell_z = sym (div-div-eq-div-mul (cell_of n x y z) n.x n.y) ∙ ap (λ (k : ℕ). k / n.y) (digits_div (z * n.y + y) X) ∙ digits_div z Y

  pub cell_lt : cell_of n x y z < n.x * n.y * n.z
  cell_lt = le_trans (digits_lt (digits_lt Z Y) X) (le_of_eq (turn n.x n.y n.z))
    where
      turn : (x y z : ℕ) → z * y * x ≡ x * y * z
      turn x y z = simp (mul_assoc, mul_comm, mul_left_comm)

-- ---- the search finds a cell that encloses the point

-- each axis has found a cell
abbrev pub Met : Medium → Cells → Point → Type 0
Met m n p = (a : Axis) → cell_on m n p a < cells_on n a

pub cell_met : (m : Medium) (n : Cells) (p : Point) → Met m n p → cell_at m n p ≡ cell_of n (cell_on m n p x_axis) (cell_on m n p y_axis) (cell_on m n p z_axis)
unfolding cell_at
cell_met m n p f = rw (lt-ltb (cell_on m n p x_axis) n.x (f x_axis), lt-ltb (cell_on m n p y_axis) n.y (f y_axis), lt-ltb (cell_on m n p z_axis) n.z (f z_axis))

-- an axis that has found none
pub cell_none : (m : Medium) (n : Cells) (p : Point) (a : Axis) → cells_on n a ≤ cell_on m n p a → cell_at m n p ≡ n.x * n.y * n.z
unfolding cell_at
cell_none m n p = λ a. elim a as (λ b. cells_on n b ≤ cell_on m n p b → cell_at m n p ≡ n.x * n.y * n.z) [
  | x_axis ↦ λ l. let e = le-ltb x n.x l in (λ i. pick (e i && ltb y n.y && ltb z n.z))
  | y_axis ↦ λ l. let e = le-ltb y n.y l in (λ i. pick (ltb x n.x && e i && ltb z n.z)) ∙ (λ i. pick (none (ltb x n.x) i && ltb z n.z))
  | z_axis ↦ λ l. let e = le-ltb z n.z l in (λ i. pick (ltb x n.x && ltb y n.y && e i)) ∙ (λ i. pick (none (ltb x n.x && ltb y n.y) i))
]
  where
    x : ℕ
    x = cell_on m n p x_axis

    y : ℕ
    y = cell_on m n p y_axis

    z : ℕ
    z = cell_on m n p z_axis

    pick : Bool → ℕ
    pick t = cond t (cell_of n x y z) (n.x * n.y * n.z)

    none : (t : Bool) → (t && false) ≡ false
    none true = refl
    none false = refl

-- a number below the count of cells is met on each axis
cell_below : (m : Medium) (n : Cells) (p : Point) → cell_at m n p < n.x * n.y * n.z → Met m n p
unfolding cell_at
cell_below m n p l = go (ltb x n.x) refl (ltb y n.y) refl (ltb z n.z) refl
  where
    x : ℕ
    x = cell_on m n p x_axis

    y : ℕ
    y = cell_on m n p y_axis

    z : ℕ
    z = cell_on m n p z_axis

    all : Bool → ℕ
    all t = cond t (cell_of n x y z) (n.x * n.y * n.z)

    go : (a : Bool) → ltb x n.x ≡ a → (b : Bool) → ltb y n.y ≡ b → (c : Bool) → ltb z n.z ≡ c → Met m n p
    go true i true j true k =
        λ a. elim a as (λ b. cell_on m n p b < cells_on n b) [ x_axis ↦ ltb-true x n.x i | y_axis ↦ ltb-true y n.y j | z_axis ↦ ltb-true z n.z k ]
    go false i b j c k = absurd (lt_irrefl _ (subst (λ (t : Bool). all (t && ltb y n.y && ltb z n.z) < n.x * n.y * n.z) i l))
    go true i false j c k = absurd (lt_irrefl _ (subst (λ (t : Bool). all (t && ltb z n.z) < n.x * n.y * n.z) (and_same i j) l))
    go true i true j false k = absurd (lt_irrefl _ (subst (λ (t : Bool). all t < n.x * n.y * n.z) (and_same (and_same i j) k) l))

-- the corners of the cell that was met
met_ends : (m : Medium) (n : Cells) (p : Point) (a : Axis) (i : ℕ) → i ≡ cell_on m n p a → cell_on m n p a < cells_on n a
    → (le (corner m a (cells_on n a) (i + 0)) (on_point a p) ≡ true) × (le (on_point a p) (corner m a (cells_on n a) (i + 1)) ≡ true)
met_ends m n p a i e l =
    let low = on_point a m.low in
    let high = on_point a m.high in
    let N = cells_on n a in
    let v = on_point a p in
    let t : T (holds_on low high N i v) = yes (ap (λ (k : ℕ). holds_on low high N k v) e ∙ found_holds low high N v l) in (
      ap (λ (c : Float). le c v) (corner_on_lem m a N (i + 0) ∙ ap (corner_on low high N) (NatL.add-zero i))
          ∙ is_true (le (corner_on low high N i) v) (and_l (le (corner_on low high N i) v) (le v (corner_on low high N (i + 1))) t),
      ap (le v) (corner_on_lem m a N (i + 1))
          ∙ is_true (le v (corner_on low high N (i + 1))) (and_r (le (corner_on low high N i) v) (le v (corner_on low high N (i + 1))) t),
    )

-- a number that is a cell's is that of one which encloses the point
pub cell_encloses : (m : Medium) (n : Cells) (p : Point) → cell_at m n p < n.x * n.y * n.z → EnclosesIn m n (cell_at m n p) p
cell_encloses m n p l =
    subst (λ (k : ℕ). EnclosesIn m n k p) (sym (cell_met m n p f)) (λ a. elim a as (λ b. (le (on_point b (cell_corner m n k 0)) (on_point b p) ≡ true)
    × (le (on_point b p) (on_point b (cell_corner m n k 1)) ≡ true)) [
      | x_axis ↦ met_ends m n p x_axis (cell_axis n k x_axis) (cell_x n x y z (f x_axis) (f y_axis) (f z_axis)) (f x_axis)
      | y_axis ↦ met_ends m n p y_axis (cell_axis n k y_axis) (cell_y n x y z (f x_axis) (f y_axis) (f z_axis)) (f y_axis)
      | z_axis ↦ met_ends m n p z_axis (cell_axis n k z_axis) (cell_z n x y z (f x_axis) (f y_axis) (f z_axis)) (f z_axis)
    ])
  where
    f : Met m n p
    f = cell_below m n p l

    x : ℕ
    x = cell_on m n p x_axis

    y : ℕ
    y = cell_on m n p y_axis

    z : ℕ
    z = cell_on m n p z_axis

    k : ℕ
    k = cell_of n x y z

-- of a point of the world box it is a cell's number
pub cell_found : (m : Medium) (n : Cells) → Numbered n → Fitting m → ((a : Axis) → bounds_fault m a ≡ 0) → (p : Point) → Between m.low m.high p
    → cell_at m n p < n.x * n.y * n.z
cell_found m n c f e p h =
    subst (λ (k : ℕ). k < n.x * n.y * n.z) (sym (cell_met m n p on))
    (cell_lt n (cell_on m n p x_axis) (cell_on m n p y_axis) (cell_on m n p z_axis) (on x_axis) (on y_axis) (on z_axis))
  where
    on : Met m n p
    on a =
        let low = on_point a m.low in
        let high = on_point a m.high in
        let N = cells_on n a in
        let v = on_point a p in
        let (k, K, l, r) =
        on_axis m a N (c.some a) (c.few a) ((bounds_finite m a (e a)).0, f.low a) ((bounds_finite m a (e a)).1, f.high a) v (yes (h a).0)
        (yes (h a).1) in
        let l₁ : T (le (corner_on low high N k) v) = subst (λ (x : Float). T (le x v)) (corner_on_lem m a N k) l in
        let r₁ : T (le v (corner_on low high N (k + 1))) =
        subst (λ (x : Float). T (le v x)) (corner_on_lem m a N (suc k) ∙ ap (corner_on low high N) (sym (add-one k))) r in
        found_some low high N v k K (is_true (holds_on low high N k v) (and_i (le (corner_on low high N k) v) (le v (corner_on low high N (k + 1))) l₁ r₁))

-- some cell encloses each point of the world box
pub enclosed : (m : Medium) (n : Cells) → Numbered n → Fitting m → ((a : Axis) → bounds_fault m a ≡ 0) → (p : Point) → Between m.low m.high p
    → (k : ℕ) × (k < n.x * n.y * n.z) × EnclosesIn m n k p
enclosed m n c f e p h = let l = cell_found m n c f e p h in (cell_at m n p, l, cell_encloses m n p l)
