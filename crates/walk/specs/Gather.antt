-- What is gathered over a zone adds up along cuts at the borders of cells: what every loop over the cells of a node rests on. Assumes nothing.
use Rattle.std.specs.Prelude.{ℕ, ◌+◌, ◌-◌, ◌*◌, ◌/◌, ◌%◌, ◌≤◌, ◌<◌, ◌≡◌}
use native.Mathlib.Nat.{one-mul, mul_assoc}
use Rattle.std.proofs.Common.{arith, sym, ap, ◌∙◌, subst}
use Rattle.sparse_grid.specs.Count.{sum, split_lt, sum_same}
use Rattle.boxes.specs.Most.{Inside}
use Rattle.walk.specs.Walk.{Zone}
use Rattle.walk.specs.Sums.{sum_none, sum_add, sum_more, sum_const}

-- ---- zones cut across an axis

abbrev pub zone : ℕ → ℕ → ℕ → ℕ → ℕ → ℕ → Zone
zone x0 x1 y0 y1 z0 z1 = record { x0 = x0; x1 = x1; y0 = y0; y1 = y1; z0 = z0; z1 = z1 }

abbrev pub along_x : Zone → ℕ → ℕ → Zone
along_x q a e = zone a e q.y0 q.y1 q.z0 q.z1

abbrev pub along_y : Zone → ℕ → ℕ → Zone
along_y q a e = zone q.x0 q.x1 a e q.z0 q.z1

abbrev pub along_z : Zone → ℕ → ℕ → Zone
along_z q a e = zone q.x0 q.x1 q.y0 q.y1 a e

-- f adds up along cuts at multiples of s, and gives nothing for an empty zone
pub record Gathers (s : ℕ) (f : Zone → ℕ) : Type 0 where
  pub none_x : (q : Zone) (a : ℕ) → f (along_x q a a) ≡ 0
  pub none_y : (q : Zone) (a : ℕ) → f (along_y q a a) ≡ 0
  pub none_z : (q : Zone) (a : ℕ) → f (along_z q a a) ≡ 0
  pub cut_x : (q : Zone) (a t e : ℕ) → a ≤ s * t → s * t ≤ e → f (along_x q a e) ≡ f (along_x q a (s * t)) + f (along_x q (s * t) e)
  pub cut_y : (q : Zone) (a t e : ℕ) → a ≤ s * t → s * t ≤ e → f (along_y q a e) ≡ f (along_y q a (s * t)) + f (along_y q (s * t) e)
  pub cut_z : (q : Zone) (a t e : ℕ) → a ≤ s * t → s * t ≤ e → f (along_z q a e) ≡ f (along_z q a (s * t)) + f (along_z q (s * t) e)

-- what adds up along any cut does so along these
pub coarser : (s : ℕ) (f : Zone → ℕ) → Gathers 1 f → Gathers s f
coarser s f g =
    let one : (t : ℕ) → 1 * (s * t) ≡ s * t = λ t. one-mul (s * t) in record {
      none_x = g.none_x;
      none_y = g.none_y;
      none_z = g.none_z;
      cut_x = λ q a t e h k. subst (λ (m : ℕ). f (along_x q a e) ≡ f (along_x q a m) + f (along_x q m e)) (one t)
          (g.cut_x q a (s * t) e (omega (arith, one t)) (omega (arith, one t)));
      cut_y = λ q a t e h k. subst (λ (m : ℕ). f (along_y q a e) ≡ f (along_y q a m) + f (along_y q m e)) (one t)
          (g.cut_y q a (s * t) e (omega (arith, one t)) (omega (arith, one t)));
      cut_z = λ q a t e h k. subst (λ (m : ℕ). f (along_z q a e) ≡ f (along_z q a m) + f (along_z q m e)) (one t)
          (g.cut_z q a (s * t) e (omega (arith, one t)) (omega (arith, one t)));
    }

-- two gathered together
pub beside : (s : ℕ) (f h : Zone → ℕ) → Gathers s f → Gathers s h → Gathers s (λ q. f q + h q)
beside s f h g o = record {
  none_x = λ q a. let u = g.none_x q a in let v = o.none_x q a in omega arith;
  none_y = λ q a. let u = g.none_y q a in let v = o.none_y q a in omega arith;
  none_z = λ q a. let u = g.none_z q a in let v = o.none_z q a in omega arith;
  cut_x = λ q a t e l m. let u = g.cut_x q a t e l m in let v = o.cut_x q a t e l m in omega arith;
  cut_y = λ q a t e l m. let u = g.cut_y q a t e l m in let v = o.cut_y q a t e l m in omega arith;
  cut_z = λ q a t e l m. let u = g.cut_z q a t e l m in let v = o.cut_z q a t e l m in omega arith;
}

-- ---- a turn of a loop: from `at`, which is the start or a border, to `next`

module _ (s : ℕ) (f : Zone → ℕ) (g : Gathers s f) (p : 0 < s) (q : Zone) (lo at next acc part : ℕ) (l : lo ≤ at) (m : at ≤ next) where
  pub turn_x : (lo < at → at % s ≡ 0) → acc ≡ f (along_x q lo at) → part ≡ f (along_x q at next) → acc + part ≡ f (along_x q lo next)
  turn_x b e h = split_lt lo at (λ k. later (b k)) (λ k. first (omega arith))
    where
      later : at % s ≡ 0 → acc + part ≡ f (along_x q lo next)
      later z =
          let d = native.Mathlib.Nat.div-add-mod at s in
          let w : s * (at / s) ≡ at = omega arith in
          let c = subst (λ (k : ℕ). f (along_x q lo next) ≡ f (along_x q lo k) + f (along_x q k next)) w
          (g.cut_x q lo (at / s) next (omega arith) (omega arith)) in
          omega arith

      first : lo ≡ at → acc + part ≡ f (along_x q lo next)
      first z = let c = g.none_x q at in let u = ap (λ (k : ℕ). f (along_x q k at)) z in let v = ap (λ (k : ℕ). f (along_x q k next)) z in omega arith

  pub turn_y : (lo < at → at % s ≡ 0) → acc ≡ f (along_y q lo at) → part ≡ f (along_y q at next) → acc + part ≡ f (along_y q lo next)
  turn_y b e h = split_lt lo at (λ k. later (b k)) (λ k. first (omega arith))
    where
      later : at % s ≡ 0 → acc + part ≡ f (along_y q lo next)
      later z =
          let d = native.Mathlib.Nat.div-add-mod at s in
          let w : s * (at / s) ≡ at = omega arith in
          let c = subst (λ (k : ℕ). f (along_y q lo next) ≡ f (along_y q lo k) + f (along_y q k next)) w
          (g.cut_y q lo (at / s) next (omega arith) (omega arith)) in
          omega arith

      first : lo ≡ at → acc + part ≡ f (along_y q lo next)
      first z = let c = g.none_y q at in let u = ap (λ (k : ℕ). f (along_y q k at)) z in let v = ap (λ (k : ℕ). f (along_y q k next)) z in omega arith

  pub turn_z : (lo < at → at % s ≡ 0) → acc ≡ f (along_z q lo at) → part ≡ f (along_z q at next) → acc + part ≡ f (along_z q lo next)
  turn_z b e h = split_lt lo at (λ k. later (b k)) (λ k. first (omega arith))
    where
      later : at % s ≡ 0 → acc + part ≡ f (along_z q lo next)
      later z =
          let d = native.Mathlib.Nat.div-add-mod at s in
          let w : s * (at / s) ≡ at = omega arith in
          let c = subst (λ (k : ℕ). f (along_z q lo next) ≡ f (along_z q lo k) + f (along_z q k next)) w
          (g.cut_z q lo (at / s) next (omega arith) (omega arith)) in
          omega arith

      first : lo ≡ at → acc + part ≡ f (along_z q lo next)
      first z = let c = g.none_z q at in let u = ap (λ (k : ℕ). f (along_z q k at)) z in let v = ap (λ (k : ℕ). f (along_z q k next)) z in omega arith

-- ---- a sum over the coordinates adds up along any cut

unfoldable pub run : ℕ → ℕ → (ℕ → ℕ) → ℕ
run lo hi f = sum (hi - lo) (λ i. f (lo + i))

unfoldable pub tally : (ℕ → ℕ → ℕ → ℕ) → Zone → ℕ
tally f q = run q.x0 q.x1 (λ x. run q.y0 q.y1 (λ y. run q.z0 q.z1 (λ z. f x y z)))

pub run_none : (a : ℕ) (f : ℕ → ℕ) → run a a f ≡ 0
unfolding run
run_none a f = let e : a - a ≡ 0 = omega arith in ap (λ (n : ℕ). sum n (λ i. f (a + i))) e ∙ sum_none _

pub run_same : (lo hi : ℕ) (f g : ℕ → ℕ) → ((t : ℕ) → lo ≤ t → t < hi → g t ≡ f t) → run lo hi g ≡ run lo hi f
unfolding run
run_same lo hi f g h = sum_same (hi - lo) _ _ (λ i l. h (lo + i) (omega arith) (omega arith))

pub run_add : (lo hi : ℕ) (f g : ℕ → ℕ) → run lo hi (λ t. f t + g t) ≡ run lo hi f + run lo hi g
unfolding run
run_add lo hi f g = sum_add (hi - lo) (λ i. f (lo + i)) (λ i. g (lo + i))

pub run_const : (lo hi c : ℕ) → run lo hi (λ t. c) ≡ (hi - lo) * c
unfolding run
run_const lo hi c = sum_const (hi - lo) c

pub run_cut : (lo m hi : ℕ) (f : ℕ → ℕ) → lo ≤ m → m ≤ hi → run lo hi f ≡ run lo m f + run m hi f
unfolding run
run_cut lo m hi f h k =
    let e : hi - lo ≡ m - lo + (hi - m) = omega arith in
    let w : lo + (m - lo) ≡ m = omega arith in
    ap (λ (n : ℕ). sum n (λ i. f (lo + i))) e ∙ sum_more (m - lo) (hi - m) (λ i. f (lo + i))
    ∙ ap (λ (n : ℕ). sum (m - lo) (λ i. f (lo + i)) + n) (sum_same (hi - m) _ _ (λ t l. ap f (omega arith)))

nothing : (lo hi : ℕ) → run lo hi (λ t. 0) ≡ 0
nothing lo hi = run_const lo hi 0 ∙ native.Mathlib.Nat.mul-zero (hi - lo)

pub tally_gathers : (f : ℕ → ℕ → ℕ → ℕ) → Gathers 1 (tally f)
unfolding tally
tally_gathers f = record {
  none_x = λ q a. run_none a _;
  none_y = λ q a. run_same q.x0 q.x1 (λ x. 0) _ (λ x l h. run_none a _) ∙ nothing q.x0 q.x1;
  none_z = λ q a. run_same q.x0 q.x1 (λ x. 0) _ (λ x l h. run_same q.y0 q.y1 (λ y. 0) _ (λ y k j. run_none a _) ∙ nothing q.y0 q.y1)
      ∙ nothing q.x0 q.x1;
  cut_x = λ q a t e h k. run_cut a (1 * t) e _ h k;
  cut_y = λ q a t e h k. run_same q.x0 q.x1 _ _ (λ x l j. run_cut a (1 * t) e _ h k) ∙ run_add q.x0 q.x1 _ _;
  cut_z = λ q a t e h k. run_same q.x0 q.x1 _ _
      (λ x l j. run_same q.y0 q.y1 _ _ (λ y m o. run_cut a (1 * t) e _ h k) ∙ run_add q.y0 q.y1 _ _) ∙ run_add q.x0 q.x1 _ _;
}

-- how many coordinates a zone has
abbrev pub volume : Zone → ℕ
volume q = (q.x1 - q.x0) * (q.y1 - q.y0) * (q.z1 - q.z0)

-- the places of a zone
abbrev pub At : Zone → ℕ → ℕ → ℕ → Type 0
At q = Inside q.x0 q.x1 q.y0 q.y1 q.z0 q.z1

pub tally_same : (f g : ℕ → ℕ → ℕ → ℕ) (q : Zone) → ((x y z : ℕ) → At q x y z → g x y z ≡ f x y z) → tally g q ≡ tally f q
unfolding tally
tally_same f g q h = run_same q.x0 q.x1 _ _
    (λ x a b. run_same q.y0 q.y1 _ _
    (λ y c d. run_same q.z0 q.z1 _ _ (λ z e k. h x y z (record { x_low = a; x_high = b; y_low = c; y_high = d; z_low = e; z_high = k }))))

pub tally_add : (f g : ℕ → ℕ → ℕ → ℕ) (q : Zone) → tally (λ x y z. f x y z + g x y z) q ≡ tally f q + tally g q
unfolding tally
tally_add f g q = run_same q.x0 q.x1 _ _
    (λ x a b. run_same q.y0 q.y1 _ _ (λ y c d. run_add q.z0 q.z1 _ _) ∙ run_add q.y0 q.y1 _ _) ∙ run_add q.x0 q.x1 _ _

-- a tile counts for the coordinates that it covers
pub tally_flat : (f : ℕ → ℕ → ℕ → ℕ) (q : Zone) (c : ℕ) → ((x y z : ℕ) → At q x y z → f x y z ≡ c) → tally f q ≡ volume q * c
unfolding tally
tally_flat f q c h =
    tally_same (λ x y z. c) f q h
    ∙ run_same q.x0 q.x1 _ _
    (λ x a b. run_same q.y0 q.y1 _ _ (λ y d e. run_const q.z0 q.z1 c) ∙ run_const q.y0 q.y1 ((q.z1 - q.z0) * c))
    ∙ run_const q.x0 q.x1 ((q.y1 - q.y0) * ((q.z1 - q.z0) * c))
    ∙ sym (mul_assoc ((q.x1 - q.x0) * (q.y1 - q.y0)) (q.z1 - q.z0) c ∙ mul_assoc (q.x1 - q.x0) (q.y1 - q.y0) ((q.z1 - q.z0) * c))
