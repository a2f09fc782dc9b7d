-- A row of values one by one: what stands at its places. Assumes nothing.
use Rattle.std.proofs.Common.{◌≡◌, ℕ, ◌+◌, ◌-◌, ◌*◌, ◌<◌, List, length, get_or, sym, ap, ◌∙◌, subst, arith}
use lib.Ieee.{Float, of_bits, binary32}
use Rattle.float.specs.Zero.{+0}
use Rattle.float.proofs.Literal.{zero_literal}
use Rattle.float.proofs.Plain.{up_plain}
use Rattle.medium.specs.Medium.{z_axis}
use Rattle.boxes.specs.Boxes.{greater}
use Rattle.boxes.specs.Most.{Most}
use Rattle.boxes.proofs.MostLaws.{most_none, most_flat, most_up, zero_beside, join_z}
use Rattle.walk.specs.Walk.{Zone}
use Rattle.walk.specs.Gather.{At, volume}
use Rattle.majorant.specs.declared.part.Part as Code
use Rattle.majorant.specs.Walks.{Within, Places, along, zone_of}

module _ (values : List Float) (p : Code.Part) (w : Within 1 1 8 p) where
  -- what a row of them has at a place
  abbrev pub read : Places
  read x y z = get_or values (z - p.z.lo) +0

  -- the places before the one at i, and that one
  abbrev pub before : ℕ → Zone
  before i = along z_axis (zone_of p) p.z.lo (p.z.lo + i)

  abbrev pub place : ℕ → Zone
  place i = along z_axis (zone_of p) (p.z.lo + i) (p.z.lo + (i + 1))

  pub at_place : (i x y z : ℕ) → At (place i) x y z → read x y z ≡ get_or values i +0
  at_place i x y z s = ap (λ (n : ℕ). get_or values n +0) (omega (arith, s.z_low, s.z_high))

  pub one_place : (i : ℕ) → 1 ≡ volume (place i)
  one_place i =
      let a : p.x.hi - p.x.lo ≡ 1 = omega (arith, w.x_in, w.full.x_some) in
      let b : p.y.hi - p.y.lo ≡ 1 = omega (arith, w.y_in, w.full.y_some) in
      let c : p.z.lo + (i + 1) - (p.z.lo + i) ≡ 1 = omega arith in
      λ t. sym a t * sym b t * sym c t

  pub whole : {n : ℕ} → n ≡ p.z.hi - p.z.lo → before n ≡ zone_of p
  whole {n} e = let h : p.z.lo + n ≡ p.z.hi = omega (arith, w.full.z_some) in ap (along z_axis (zone_of p) p.z.lo) h

  -- what has these values has what the row has
  pub reads_as : (f : Places) → length values ≡ p.z.hi - p.z.lo
      → ((i : ℕ) → i < length values → f p.x.lo p.y.lo (p.z.lo + i) ≡ get_or values i +0)
      → (x y z : ℕ) → At (zone_of p) x y z → read x y z ≡ f x y z
  reads_as f e h x y z s =
      let a : p.x.lo ≡ x = omega (arith, w.x_in, s.x_low, s.x_high) in
      let b : p.y.lo ≡ y = omega (arith, w.y_in, s.y_low, s.y_high) in
      let c : p.z.lo + (z - p.z.lo) ≡ z = omega (arith, s.z_low) in
      sym (h (z - p.z.lo) (omega (arith, s.z_low, s.z_high))) ∙ (λ t. f (a t) (b t) (c t))

  -- ---- the greatest

  pub most_first : Most read (At (before 0)) (of_bits binary32 0)
  most_first = subst (λ (r : Float). Most read (At (before 0)) r) (sym (zero_literal binary32)) (most_none (λ x y z s. omega (arith, s.z_low, s.z_high)))

  pub most_next : (i : ℕ) {m r : Float} → Most read (At (before i)) m → r ≡ greater m (get_or values i +0) → Most read (At (before (i + 1))) r
  most_next i {m} h e =
      join_z (omega arith) (omega arith) h
      (most_flat (get_or values i +0) (at_place i) p.x.lo p.y.lo (p.z.lo + i)
      (record { x_low = omega arith; x_high = w.full.x_some; y_low = omega arith; y_high = w.full.y_some; z_low = omega arith; z_high = omega arith }))
      (e ∙ sym (zero_beside (up_plain m (most_up h)) (get_or values i +0)))
