-- The claim of the density between voxels, proved. Assumes nothing.
use Rattle.std.specs.Prelude.{◌≡◌, refl, ◌⊎◌, List, Bool, true, false, not, ◌&&◌, cond, ℕ, ◌<◌, T, get_or, Float}
use Rattle.std.proofs.Common.{sym, ap, ◌∙◌, subst, inl, inr}
use Rattle.std.proofs.Math.IntN.{suc_ℤ}
use Rattle.std.specs.Float.{nan, inf, fin, binary32}
use Rattle.std.specs.Float.Ieee.{lt, le, fits, is_nan}
use Rattle.std.specs.Float.Ieee.Bits.{of_bits-fits}
use Rattle.std.specs.Float.Ieee.Scale.{finite}
use Rattle.refusals.specs.Results.{Result, ok, bind, need}
use Rattle.refusals.specs.ResultLaws.{bind_ok}
use Rattle.refusals.specs.Faults.{◌then◌, unless, passing}
use Rattle.refusals.specs.FaultLaws.{then_zero, passing_ok}
use Rattle.refusals.proofs.FaultSteps.{passing_on}
use Rattle.float.specs.Zero.{+0}
use Rattle.float.specs.Integer.{floor_z}
use Rattle.float.proofs.Numbers.{fma_fits}
use Rattle.float.proofs.Ordered.{not_lt→le}
use Rattle.layout.specs.Coordinates.{Coord, Signed32}
use Rattle.layout.specs.Walk.{walk, voxel}
use Rattle.sparse_grid.specs.Tables.{Grid}
use Rattle.sparse_grid.specs.Validate.{validate, density_fault}
use Rattle.sparse_grid.specs.Lookup.{value_in, read_in}
use Rattle.sparse_grid.proofs.Values.{read_kept}
use Rattle.cells.specs.Cells.{Cells, cell_count}
use Rattle.medium.specs.Medium.{Point, Medium, Axis, x_axis, y_axis, z_axis, on_coord, bounds_fault, index_fault, map_fault, medium_fault, each}
use Rattle.medium.specs.Alike.{Alike, alike_but_box}
use Rattle.nanovdb.specs.Decode.{medium_of}
use Rattle.nanovdb.specs.Passed.{density_passed}
use Rattle.nanovdb.proofs.Lookups.{reads}
use Rattle.index.specs.Cells.{Ends, first_ends, second_ends, Between, EnclosesIn, AroundIn}
use Rattle.index.specs.Index.{world_to_index}
use Rattle.index.specs.Sides.{sides_of}
use Rattle.index.proofs.SideLaws.{floors, sides_taken}
use Rattle.boxes.specs.Boxes.{Box, box_maximum}
use Rattle.majorant.specs.Figures.{box_of, figure, figures}
use Rattle.majorant.specs.Build.{build}
use Rattle.majorant.proofs.Accepted.{into_parts}
use Rattle.majorant.proofs.Bounded.{built, bounded}
use Rattle.mix.specs.Mix.{mix, part}
use Rattle.mix.specs.Density.{outside_fault, corner_of, mix_between, density_by, mix_fault, density_at}
use Rattle.mix.specs.Bounded.{ceiling, Mixed}
use Rattle.mix.proofs.MixLaws.{Part, Under, mixed, part_of}
use Rattle.claim.proofs.Theorem.{demand3}
use Rattle.claim.proofs.Points.{encloses_alike}
use Rattle.claim.specs.Mixed.{DemandA7}

-- ---- a cell with a figure has ends of its second box on each axis
boxed : (f : Axis → Result Ends) (s : Box) → box_of f ≡ ok s → (a : Axis) → (r : Ends) × (f a ≡ ok r)
boxed f s e a =
    let (x, p, q) = bind_ok (f x_axis) (λ (x : Ends). bind (f y_axis) (λ (y : Ends). bind (f z_axis) (λ (z : Ends). ok (made x y z)))) e in
    let (y, r, t) = bind_ok (f y_axis) (λ (y : Ends). bind (f z_axis) (λ (z : Ends). ok (made x y z))) q in
    let (z, u, v) = bind_ok (f z_axis) (λ (z : Ends). ok (made x y z)) t in
    elim a as (λ b. (r : Ends) × (f b ≡ ok r)) [ x_axis ↦ (x, p) | y_axis ↦ (y, r) | z_axis ↦ (z, u) ]
  where
    made : Ends → Ends → Ends → Box
    made x y z = record { lo = record { x = x.lo; y = y.lo; z = z.lo }; hi = record { x = x.hi; y = y.hi; z = z.hi } }

second_ends_lem : (maximum : Box → Float) (m : Medium) (n : Cells) (k : ℕ) (v : Float) → figure maximum m n k ≡ ok v → (a : Axis)
    → (r : Ends) × (second_ends m n k a ≡ ok r)
unfolding figure
second_ends_lem maximum m n k v e a =
    let (f, x, q) = bind_ok (box_of (first_ends m n k))
    (λ (f : Box). bind (box_of (second_ends m n k)) (λ (s : Box). need (not (lt (maximum f) (maximum s))) 17 (ok (maximum f)))) e in
    let (s, y, t) = bind_ok (box_of (second_ends m n k)) (λ (s : Box). need (not (lt (maximum f) (maximum s))) 17 (ok (maximum f))) q in
    boxed (second_ends m n k) s y a

-- ---- the faults before the mix
build_mapped : (g : Grid) (m : Medium) (l : List Float) → build g m ≡ ok l → map_fault m ≡ 0
unfolding build
build_mapped g m l e =
    let p = passing_ok (validate g then density_fault g then medium_fault m) (figures (box_maximum (read_in g)) m m.cells (cell_count m.cells)) e in
    let q = (then_zero (density_fault g) (medium_fault m) (then_zero (validate g) (density_fault g then medium_fault m) p.0).1).1 in
    (then_zero (each (index_fault m)) (map_fault m) (then_zero (each (bounds_fault m)) (each (index_fault m) then map_fault m) q).1).1

none_of : (f : Axis → ℕ) → ((a : Axis) → f a ≡ 0) → each f ≡ 0
none_of f h = λ i. h x_axis i then h y_axis i then h z_axis i

inside_none : (m : Medium) (p : Point) → Between m.low m.high p → (a : Axis) → outside_fault m p a ≡ 0
inside_none m p h a = λ i. unless ((h a).0 i && (h a).1 i) 24

moved : (M m : Medium) (p : Point) → Alike M m → Between M.low M.high p → Between m.low m.high p
moved M m p B h = subst (λ (x : Point). Between x m.high p) (sym B.low) (subst (λ (x : Point). Between M.low x p) (sym B.high) h)

-- a medium alike gives the same density: neither the index box nor the cells are read
by_alike : (read : Coord → Float) (m k : Medium) (p : Point) → Alike m k → density_by read k p ≡ density_by read m p
unfolding density_by mix_between world_to_index
by_alike read m k p A = ap (λ (x : Medium). density_by read x p) (alike_but_box A)

at_alike : (g : Grid) (m k : Medium) (p : Point) → Alike m k → density_at g k p ≡ density_at g m p
unfolding density_at density_by mix_between world_to_index bounds_fault map_fault
at_alike g m k p A = ap (λ (x : Medium). density_at g x p) (alike_but_box A)

-- ---- the eight voxels
floors_on : Medium → Point → Axis → Ends
floors_on m p a = floors (world_to_index m p a)

eight_at : Medium → Point → Bool → Bool → Bool → Coord
unfolding floors_on
eight_at m p x y z = corner_of (floors_on m p x_axis) (floors_on m p y_axis) (floors_on m p z_axis) x y z

eight_around : (m : Medium) (p : Point) (x y z : Bool) → AroundIn m p (eight_at m p x y z)
unfolding floors_on eight_at
eight_around m p x y z = λ a. elim a as (λ b. (on_coord b (eight_at m p x y z) ≡ floor_z (world_to_index m p b))
    ⊎ (on_coord b (eight_at m p x y z)
    ≡ suc_ℤ (floor_z (world_to_index m p b)))) [ x_axis ↦ either x_axis x | y_axis ↦ either y_axis y | z_axis ↦ either z_axis z ]
  where
    either : (a : Axis) (o : Bool)
        → (cond o (suc_ℤ (floor_z (world_to_index m p a))) (floor_z (world_to_index m p a)) ≡ floor_z (world_to_index m p a))
        ⊎ (cond o (suc_ℤ (floor_z (world_to_index m p a))) (floor_z (world_to_index m p a)) ≡ suc_ℤ (floor_z (world_to_index m p a)))
    either a false = inl refl
    either a true = inr refl

-- the mix between the floors and the next
mix_at : (Coord → Float) → Medium → Point → Float
mix_at read m p = mix_between read m p (floors_on m p x_axis) (floors_on m p y_axis) (floors_on m p z_axis)

by_floors : (read : Coord → Float) (m : Medium) (p : Point) → Between m.low m.high p
    → ((a : Axis) → sides_of (world_to_index m p a) ≡ ok (floors_on m p a)) → density_by read m p ≡ ok (mix_at read m p)
unfolding density_by mix_at
by_floors read m p h s =
    (λ i. passing (none_of (outside_fault m p) (inside_none m p h) i) (joined (sides_of (world_to_index m p x_axis)) (sides_of (world_to_index m p y_axis))
    (sides_of (world_to_index m p z_axis))))
    ∙ (λ i. joined (s x_axis i) (s y_axis i) (s z_axis i))
  where
    joined : Result Ends → Result Ends → Result Ends → Result Float
    joined x y z = bind x (λ (i : Ends). bind y (λ (j : Ends). bind z (λ (k : Ends). ok (mix_between read m p i j k))))

index_fits : (m : Medium) (p : Point) (a : Axis) → T (fits binary32 (world_to_index m p a))
unfolding world_to_index
index_fits m p a = fma_fits binary32 _ _ _

finite_number : (v : Float) → T (finite v) → T (not (is_nan v))
unfolding is_nan
finite_number nan h = elim h [ ]
finite_number (inf _) h = elim h [ ]
finite_number (fin s m e) h = tt

-- two readers that agree on the eight voxels mix alike
same_mix : (read other : Coord → Float) (m : Medium) (p : Point) → ((c : Coord) → AroundIn m p c → read c ≡ other c)
    → mix_at read m p ≡ mix_at other m p
unfolding mix_at mix_between eight_at
same_mix read other m p h =
    λ i. mix (λ x y z. h (eight_at m p x y z) (eight_around m p x y z) i)
    (part (world_to_index m p x_axis)) (part (world_to_index m p y_axis)) (part (world_to_index m p z_axis))

-- from a figure that is at least the eight voxels, and a finite index position
mixed_at : (read : Coord → Float) (m : Medium) (p : Point) (F : Float) → T (le F ceiling)
    → ((a : Axis) → T (finite (world_to_index m p a))) → ((c : Coord) → AroundIn m p c → Under F (read c))
    → Mixed F (mix_at read m p)
unfolding mix_at mix_between eight_at
mixed_at read m p F top real under =
    mixed (λ x y z. read (eight_at m p x y z)) (part (world_to_index m p x_axis)) (part (world_to_index m p y_axis)) (part (world_to_index m p z_axis)) F top
    (λ x y z. under (eight_at m p x y z) (eight_around m p x y z)) (of x_axis) (of y_axis) (of z_axis)
  where
    of : (a : Axis) → Part (part (world_to_index m p a))
    of a = part_of (world_to_index m p a) (real a) (index_fits m p a)

pub demand_a7 : DemandA7
unfolding floors_on
demand_a7 b bytes q t d m A places l into p h =
    let g = t.grid in
    let M = medium_of b in
    let n = m.cells in
    let e = (into_parts g m places into).1 in
    let (passed, dense) = density_passed b q t d in
    let B : Alike M m = subst (λ (x : Medium). Alike x m) passed.medium A in
    let G = built g m l e in
    let turned : (k : ℕ) → EnclosesIn M n k p → EnclosesIn m n k p = λ k i. subst (λ (X : Type 0). X) (sym (encloses_alike M m B n k p)) i in
    let (k₀, K₀, i₀) = ((demand3 b bytes q t d).figures m A places l into p h).enclosed in
    let taken : (k : ℕ) → k < cell_count n → EnclosesIn m n k p → (a : Axis)
    → T (finite (world_to_index m p a)) × (sides_of (world_to_index m p a) ≡ ok (floors (world_to_index m p a))) = λ k K i a.
    let (r, z) = second_ends_lem (box_maximum (read_in g)) m n k (get_or l k +0) (G.figure k K) a in
    sides_taken m n k a r G.scale z p i in
    let small : (c : Coord) → AroundIn m p c → Signed32 c = λ c r. (bounded g m l e p k₀ K₀ (turned k₀ i₀) c r).0 in
    let same : (c : Coord) → AroundIn m p c → voxel b c ≡ read_in g c = λ c r. sym (ap value_in (reads b bytes q t d c (small c r)).0) in
    let inside = moved M m p B h in
    let sides : (a : Axis) → sides_of (world_to_index m p a) ≡ ok (floors (world_to_index m p a)) = λ a. (taken k₀ K₀ (turned k₀ i₀) a).1 in
    let fault : mix_fault g m ≡ 0 = λ i. passed.valid i then dense i then none_of (bounds_fault m) G.bounds i then build_mapped g m l e i in
    let under : (k : ℕ) → k < cell_count n → EnclosesIn m n k p → (c : Coord) → AroundIn m p c → Under (get_or l k +0) (read_in g c) = λ k K i c r.
    let is = same c r in
    let real : T (finite (read_in g c)) = subst (λ (x : Float). T (finite x)) is (reads b bytes q t d c (small c r)).1 in
    record {
      real = real;
      fit = subst (λ (x : Float). T (fits binary32 x)) is (of_bits-fits binary32 (walk b c).bits);
      low = not_lt→le (read_in g c) +0 (finite_number (read_in g c) real) (finite_number +0 tt) (read_kept g dense c);
      high = (bounded g m l e p k K i c r).1;
    } in
    record {
      density = mix_at (read_in g) m p;
      answered = λ k C. at_alike g m k p C ∙ at_floors g m p fault (by_floors (read_in g) m p inside sides);
      walked =
          sym (by_alike (voxel b) M m p B) ∙ by_floors (voxel b) m p inside sides ∙ ap ok (same_mix (voxel b) (read_in g) m p same);
      bounded = λ k K i top.
          mixed_at (read_in g) m p (get_or l k +0) top (λ a. (taken k K (turned k i) a).0) (under k K (turned k i));
    }
  where
    at_floors : (g : Grid) (m : Medium) (p : Point) {r : Result Float} → mix_fault g m ≡ 0 → density_by (read_in g) m p ≡ r → density_at g m p ≡ r
    at_floors g m p z e = unfold density_at in passing_on (mix_fault g m) (density_by (read_in g) m p) z ∙ e
