-- A sum over the places of a box, root by root: each root that the box meets adds the part in its block, and what no root has is the background's.
-- Assumes nothing.
use Rattle.std.specs.Prelude.{ℕ, suc, ◌+◌, ◌-◌, ◌*◌, ◌/◌, ◌≤◌, ◌<◌, ◌≡◌, T, eqb}
use Rattle.std.proofs.Math.Nat.{mul-zero, mul-one, one-mul, zero-mul}
use native.Mathlib.Omega.{arith}
use Rattle.std.proofs.Math.Path.{refl, sym, ap}
use Rattle.std.proofs.Common.{◌∙◌, subst, eqb-true, eq-eqb, ne_eqb}
use mathlib.Core.Bool.{Bool, true, false, cond, ◌&&◌, ◌||◌}
use Rattle.layout.specs.Coordinates.{Coord, same_block}
use Rattle.sparse_grid.specs.Tables.{Grid, block_at}
use Rattle.sparse_grid.specs.Validate.{earlier}
use Rattle.sparse_grid.specs.BiasedLaws.{eq_z_back}
use Rattle.boxes.specs.RangeMax.{Clip, corner, block_at_place}
use Rattle.walk.specs.Walk.{Zone}
use Rattle.walk.specs.Sums.{sum_right}
use Rattle.walk.specs.Gather.{zone, run, run_same, run_const, run_cut, tally, tally_same, tally_add, tally_flat, volume, At}

-- over the places whose block one of the first i roots has
unfoldable pub met_tally : Grid → ℕ → (ℕ → ℕ → ℕ → ℕ) → Zone → ℕ
met_tally g i f q = tally (λ x y z. cond (earlier g i (block_at_place x y z)) (f x y z) 0) q

-- ---- the part in a block

run_nil : (lo hi : ℕ) (f : ℕ → ℕ) → ((t : ℕ) → lo ≤ t → t < hi → f t ≡ 0) → run lo hi f ≡ 0
run_nil lo hi f h = run_same lo hi (λ t. 0) f h ∙ run_const lo hi 0 ∙ mul-zero (hi - lo)

run_only : (lo a e hi : ℕ) (P : ℕ → Bool) (f : ℕ → ℕ) → lo ≤ a → a ≤ e → e ≤ hi → ((t : ℕ) → a ≤ t → t < e → P t ≡ true)
    → ((t : ℕ) → lo ≤ t → t < a → P t ≡ false) → ((t : ℕ) → e ≤ t → t < hi → P t ≡ false)
    → run lo hi (λ t. cond (P t) (f t) 0) ≡ run a e f
run_only lo a e hi P f h k l on low high =
    let g : ℕ → ℕ = λ t. cond (P t) (f t) 0 in
    let u = run_cut lo a hi g h (omega arith) in let v = run_cut a e hi g k l in
    let x = run_nil lo a g (λ t i j. ap (λ (b : Bool). cond b (f t) 0) (low t i j)) in
    let y = run_same a e f g (λ t i j. ap (λ (b : Bool). cond b (f t) 0) (on t i j)) in
    let z = run_nil e hi g (λ t i j. ap (λ (b : Bool). cond b (f t) 0) (high t i j)) in
    omega arith

-- a test that does not change stands before the sum
pull : (A : Bool) (lo hi : ℕ) (P : ℕ → Bool) (f : ℕ → ℕ)
    → run lo hi (λ t. cond (A && P t) (f t) 0) ≡ cond A (run lo hi (λ t. cond (P t) (f t) 0)) 0
pull true lo hi P f = refl
pull false lo hi P f = run_nil lo hi (λ t. 0) (λ t i j. refl)

abbrev in_block : ℕ → ℕ → ℕ → ℕ → ℕ → ℕ → Bool
in_block a b c x y z = eqb a (x / 4096) && eqb b (y / 4096) && eqb c (z / 4096)

one_axis : (b lo hi a e : ℕ) (f : ℕ → ℕ) → a ≤ e → Clip b lo hi a e → run lo hi (λ t. cond (eqb b (t / 4096)) (f t) 0) ≡ run a e f
one_axis b lo hi a e f l c =
    run_only lo a e hi (λ t. eqb b (t / 4096)) f c.low l c.high
    (λ t i j. eq-eqb b (t / 4096) (omega (arith, c.block_low, c.block_high)))
    (λ t i j. ne_eqb b (t / 4096) (λ w. let r = c.all t i (let h = c.high in omega arith) (sym w) in omega (arith, r.0, r.1)))
    (λ t i j. ne_eqb b (t / 4096) (λ w. let r = c.all t (let h = c.low in omega arith) j (sym w) in omega (arith, r.0, r.1)))

block_tally : (f : ℕ → ℕ → ℕ → ℕ) (q : Zone) (a b c ax ex ay ey az ez : ℕ) → ax ≤ ex → ay ≤ ey → az ≤ ez
    → Clip a q.x0 q.x1 ax ex → Clip b q.y0 q.y1 ay ey → Clip c q.z0 q.z1 az ez
    → tally (λ x y z. cond (in_block a b c x y z) (f x y z) 0) q ≡ tally f (zone ax ex ay ey az ez)
unfolding tally
block_tally f q a b c ax ex ay ey az ez lx ly lz cx cy cz =
    run_same q.x0 q.x1 (λ x. cond (eqb a (x / 4096)) (run ay ey (λ y. run az ez (λ z. f x y z))) 0) _ (λ x i j.
    run_same q.y0 q.y1 (λ y. cond (eqb a (x / 4096) && eqb b (y / 4096)) (run az ez (λ z. f x y z)) 0) _ (λ y k l.
    pull (eqb a (x / 4096) && eqb b (y / 4096)) q.z0 q.z1 (λ z. eqb c (z / 4096)) (λ z. f x y z)
    ∙ ap (λ (n : ℕ). cond (eqb a (x / 4096) && eqb b (y / 4096)) n 0) (one_axis c q.z0 q.z1 az ez (λ z. f x y z) lz cz))
    ∙ pull (eqb a (x / 4096)) q.y0 q.y1 (λ y. eqb b (y / 4096)) (λ y. run az ez (λ z. f x y z))
    ∙ ap (λ (n : ℕ). cond (eqb a (x / 4096)) n 0) (one_axis b q.y0 q.y1 ay ey (λ y. run az ez (λ z. f x y z)) ly cy))
    ∙ one_axis a q.x0 q.x1 ax ex (λ x. run ay ey (λ y. run az ez (λ z. f x y z))) lx cx

-- ---- one root more

same_corners : (a b c x y z : ℕ) → same_block (corner a b c) (corner x y z) ≡ (eqb a x && eqb b y && eqb c z)
same_corners a b c x y z = rw (eq_z_back 524288 a x, eq_z_back 524288 b y, eq_z_back 524288 c z)

and_true : (a b : Bool) → (a && b) ≡ true → (a ≡ true) × (b ≡ true)
and_true true b h = (refl, h)
and_true false b h = absurd (subst T (sym h) tt)

or_cond : (E S : Bool) (v : ℕ) → (S ≡ true → E ≡ false) → cond (E || S) v 0 ≡ cond E v 0 + cond S v 0
or_cond true true v h = absurd (mathlib.Core.Bool.true≢false (h refl))
or_cond true false v h = omega arith
or_cond false S v h = omega arith

module _ (g : Grid) (i a b c : ℕ) (here : block_at g i ≡ corner a b c) where
  more : (x y z : ℕ) → earlier g (suc i) (block_at_place x y z) ≡ (earlier g i (block_at_place x y z) || in_block a b c x y z)
  unfolding earlier
  more x y z = ap (λ (t : Bool). earlier g i (block_at_place x y z) || t) (ap (λ (k : Coord). same_block k (block_at_place x y z)) here
      ∙ same_corners a b c (x / 4096) (y / 4096) (z / 4096))

  -- its block is none of those before
  fresh : earlier g i (block_at g i) ≡ false → (x y z : ℕ) → in_block a b c x y z ≡ true → earlier g i (block_at_place x y z) ≡ false
  fresh new x y z h =
      let p = and_true (eqb a (x / 4096) && eqb b (y / 4096)) (eqb c (z / 4096)) h in
      let r = and_true (eqb a (x / 4096)) (eqb b (y / 4096)) p.0 in
      let ex = eqb-true a (x / 4096) r.0 in let ey = eqb-true b (y / 4096) r.1 in let ez = eqb-true c (z / 4096) p.1 in
      let e : block_at_place x y z ≡ corner a b c = λ j. corner (sym ex j) (sym ey j) (sym ez j) in
      ap (earlier g i) (e ∙ sym here) ∙ new

  parted : (f : ℕ → ℕ → ℕ → ℕ) (q : Zone) → earlier g i (block_at g i) ≡ false
      → met_tally g (suc i) f q ≡ met_tally g i f q + tally (λ x y z. cond (in_block a b c x y z) (f x y z) 0) q
  unfolding met_tally
  parted f q new =
      tally_same _ _ q (λ x y z s. ap (λ (t : Bool). cond t (f x y z) 0) (more x y z)
      ∙ or_cond (earlier g i (block_at_place x y z)) (in_block a b c x y z) (f x y z) (fresh new x y z))
      ∙ tally_add _ _ q

  -- a root that the box meets adds the part in its block
  pub root_meets : (f : ℕ → ℕ → ℕ → ℕ) (q : Zone) (ax ex ay ey az ez : ℕ) → earlier g i (block_at g i) ≡ false → ax ≤ ex → ay ≤ ey
      → az ≤ ez
      → Clip a q.x0 q.x1 ax ex → Clip b q.y0 q.y1 ay ey → Clip c q.z0 q.z1 az ez
      → met_tally g (suc i) f q ≡ met_tally g i f q + tally f (zone ax ex ay ey az ez)
  root_meets f q ax ex ay ey az ez new lx ly lz cx cy cz = parted f q new
      ∙ ap (λ (n : ℕ). met_tally g i f q + n) (block_tally f q a b c ax ex ay ey az ez lx ly lz cx cy cz)

  -- one that it misses adds nothing
  pub root_misses : (f : ℕ → ℕ → ℕ → ℕ) (q : Zone)
      → ((x y z : ℕ) → At q x y z → (a ≡ x / 4096) × (b ≡ y / 4096) × (c ≡ z / 4096) → ⊥) → met_tally g (suc i) f q ≡ met_tally g i f q
  unfolding met_tally
  root_misses f q out = tally_same _ _ q
      (λ x y z s. ap (λ (t : Bool). cond t (f x y z) 0) (more x y z ∙ off x y z s ∙ or_false_right (earlier g i (block_at_place x y z))))
    where
      or_false_right : (t : Bool) → (t || false) ≡ t
      or_false_right true = refl
      or_false_right false = refl

      off : (x y z : ℕ) → At q x y z → (earlier g i (block_at_place x y z) || in_block a b c x y z) ≡ (earlier g i (block_at_place x y z) || false)
      off x y z s = ap (λ (t : Bool). earlier g i (block_at_place x y z) || t) (go (in_block a b c x y z) refl)
        where
          go : (t : Bool) → in_block a b c x y z ≡ t → t ≡ false
          go true e =
              let p = and_true (eqb a (x / 4096) && eqb b (y / 4096)) (eqb c (z / 4096)) e in
              let r = and_true (eqb a (x / 4096)) (eqb b (y / 4096)) p.0 in
              absurd (out x y z s (eqb-true a (x / 4096) r.0, eqb-true b (y / 4096) r.1, eqb-true c (z / 4096) p.1))
          go false e = refl

-- ---- before the first root and after the last

run_right : (lo hi c : ℕ) (f : ℕ → ℕ) → run lo hi (λ t. f t * c) ≡ run lo hi f * c
unfolding run
run_right lo hi c f = sum_right (hi - lo) c (λ i. f (lo + i))

tally_right : (f : ℕ → ℕ → ℕ → ℕ) (c : ℕ) (q : Zone) → tally (λ x y z. f x y z * c) q ≡ tally f q * c
unfolding tally
tally_right f c q =
    run_same q.x0 q.x1 _ _ (λ x i j. run_same q.y0 q.y1 _ _ (λ y k l. run_right q.z0 q.z1 c (λ z. f x y z))
    ∙ run_right q.y0 q.y1 c (λ y. run q.z0 q.z1 (λ z. f x y z)))
    ∙ run_right q.x0 q.x1 c (λ x. run q.y0 q.y1 (λ y. run q.z0 q.z1 (λ z. f x y z)))

module _ (g : Grid) (q : Zone) where
  pub roots_none : (f : ℕ → ℕ → ℕ → ℕ) → met_tally g 0 f q ≡ 0
  unfolding met_tally earlier
  roots_none f = tally_flat _ q 0 (λ x y z s. refl) ∙ mul-zero (volume q)

  -- what no root has is the background's
  pub roots_all : (n : ℕ) (f : ℕ → ℕ → ℕ → ℕ) (c : ℕ)
      → ((x y z : ℕ) → At q x y z → earlier g n (block_at_place x y z) ≡ false → f x y z ≡ c)
      → tally f q ≡ met_tally g n f q + (volume q - met_tally g n (λ x y z. 1) q) * c
  unfolding met_tally
  roots_all n f c h =
      let rest = tally (λ x y z. cond (earlier g n (block_at_place x y z)) 0 1) q in
      let a : tally f q ≡ tally (λ x y z. cond (earlier g n (block_at_place x y z)) (f x y z) 0) q + tally
      (λ x y z. cond (earlier g n (block_at_place x y z)) 0 1 * c) q
      = tally_same _ _ q (λ x y z s. either (earlier g n (block_at_place x y z)) (f x y z) (h x y z s)) ∙ tally_add _ _ q in
      let b : tally (λ x y z. cond (earlier g n (block_at_place x y z)) 0 1 * c) q ≡ rest * c = tally_right
      (λ x y z. cond (earlier g n (block_at_place x y z)) 0 1) c q in
      let d : volume q * 1 ≡ tally (λ x y z. cond (earlier g n (block_at_place x y z)) 1 0) q + rest
      = sym (tally_flat _ q 1 (λ x y z s. both (earlier g n (block_at_place x y z)))) ∙ tally_add _ _ q in
      let e : volume q - tally (λ x y z. cond (earlier g n (block_at_place x y z)) 1 0) q ≡ rest = let o = mul-one (volume q) in omega arith in
      a ∙ ap (λ (k : ℕ). tally (λ x y z. cond (earlier g n (block_at_place x y z)) (f x y z) 0) q + k) (b ∙ ap (λ (k : ℕ). k * c) (sym e))
    where
      either : (E : Bool) (v : ℕ) → (E ≡ false → v ≡ c) → v ≡ cond E v 0 + cond E 0 1 * c
      either true v k = let z = zero-mul c in omega arith
      either false v k = let e = k refl in let o = one-mul c in omega arith

      both : (E : Bool) → cond E 1 0 + cond E 0 1 ≡ 1
      both true = refl
      both false = refl
