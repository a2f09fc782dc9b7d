-- The second and the third part of the one claim, of an accepted grid whose lookups read what the walk reads. Assumes nothing.
use Rattle.std.specs.Prelude.{◌≡◌, List, ℕ, ◌+◌, ◌^◌, false, T, get_or, Float}
use Rattle.std.proofs.Common.{sym, ap, ◌∙◌, subst}
use Rattle.std.specs.Float.{binary32, binary64}
use Rattle.std.specs.Float.Ieee.{of_bits, lt, fits}
use Rattle.float.specs.Integer.{floor_z}
use Rattle.nanovdb.specs.Passed.{density_passed}
use Rattle.sparse_grid.specs.Lookup.{lookup}
use Rattle.float.proofs.Numbers.{narrow_fits}
use Rattle.float.specs.Zero.{+0}
use Rattle.float.proofs.Floors.{mag_between}
use Rattle.medium.specs.Medium.{x_axis, y_axis, z_axis}
use Rattle.refusals.specs.Faults.{passing}
use Rattle.layout.specs.Bytes.{u64_at}
use Rattle.layout.specs.Coordinates.{Coord, Signed32}
use Rattle.layout.specs.Walk.{voxel}
use Rattle.sparse_grid.specs.Lookup.{read_in}
use Rattle.medium.specs.Medium.{Point, Medium, Axis, on_point, on_coord}
use Rattle.medium.specs.Alike.{Alike, alike_but_box}
use Rattle.nanovdb.specs.Nodes.{Places}
use Rattle.nanovdb.specs.Decode.{Accepted, decode_density, medium_of, medium_at}
use Rattle.nanovdb.specs.Agreement.{ReadsAs}
use Rattle.index.specs.Cells.{corner, Cells, cell_axis, cell_corner, Between, AroundIn, EnclosesIn}
use Rattle.index.specs.Index.{world_to_index}
use Rattle.majorant.specs.Build.{build_into, public_maximum}
use Rattle.majorant.proofs.Accepted.{into_parts}
use Rattle.index.proofs.Enclosed.{Fitting, numbered, enclosed}
use Rattle.boxes.specs.Boxes.{Box, Greatest, box_maximum}
use Rattle.boxes.proofs.Maximum.{greatest, max_same}
use Rattle.majorant.proofs.Bounded.{bounded, built}
use Rattle.claim.specs.Claim.{Inside, Bounds, Holds}
use Rattle.refusals.specs.Results.{ok}

-- ---- a medium alike has the same corners and the same map
corner_alike : (m n : Medium) → Alike m n → (a : Axis) (c k : ℕ) → corner n a c k ≡ corner m a c k
unfolding corner
corner_alike m n A a c k = ap (λ (x : Medium). corner x a c k) (alike_but_box A)

index_alike : (m n : Medium) → Alike m n → (p : Point) (a : Axis) → world_to_index n p a ≡ world_to_index m p a
unfolding world_to_index
index_alike m n A p a = ap (λ (x : Medium). world_to_index x p a) (alike_but_box A)

cell_alike : (m n : Medium) → Alike m n → (c : Cells) (k o : ℕ) → cell_corner n c k o ≡ cell_corner m c k o
cell_alike m n A c k o = λ i. record {
  x = corner_alike m n A x_axis c.x (cell_axis c k x_axis + o) i;
  y = corner_alike m n A y_axis c.y (cell_axis c k y_axis + o) i;
  z = corner_alike m n A z_axis c.z (cell_axis c k z_axis + o) i;
}

-- the test on `Encloses`, both ways
pub encloses_alike : (m n : Medium) → Alike m n → (c : Cells) (k : ℕ) (p : Point) → EnclosesIn n c k p ≡ EnclosesIn m c k p
encloses_alike m n A c k p = λ i. Between (cell_alike m n A c k 0 i) (cell_alike m n A c k 1 i) p

around_alike : (m n : Medium) → Alike m n → (p : Point) (c : Coord) → AroundIn n p c ≡ AroundIn m p c
around_alike m n A p c = λ i. (a : Axis)
    → mathlib.Core.Logic.◌⊎◌ (on_coord a c ≡ floor_z (index_alike m n A p a i)) (on_coord a c ≡ lib.IntN.suc_ℤ (floor_z (index_alike m n A p a i)))

-- ---- the corners and the map in the bytes
pub fitting : (b : List ℕ) → Fitting (medium_of b)
unfolding medium_of medium_at
fitting b = record {
  low = λ a. elim a as (λ c. T (fits binary32 (on_point c (medium_of b).low))) [
    | x_axis ↦ narrow_fits (of_bits binary64 (u64_at b 560))
    | y_axis ↦ narrow_fits (of_bits binary64 (u64_at b 568))
    | z_axis ↦ narrow_fits (of_bits binary64 (u64_at b 576))
  ];
  high = λ a. elim a as (λ c. T (fits binary32 (on_point c (medium_of b).high))) [
    | x_axis ↦ narrow_fits (of_bits binary64 (u64_at b 584))
    | y_axis ↦ narrow_fits (of_bits binary64 (u64_at b 592))
    | z_axis ↦ narrow_fits (of_bits binary64 (u64_at b 600))
  ];
}

-- the third field of `Holds`, from the first: one argument over the three numbers of cells
pub points : (b : List ℕ) (q : Places) (t : Accepted) → decode_density b q ≡ ok t → ((c : Coord) → Signed32 c → read_in t.grid c ≡ voxel b c)
    → (m : Medium) → Alike t.medium m → (places : ℕ) (l : List Float) → build_into t.grid m places ≡ ok l
    → (p : Point) → Inside b p → Bounds b m.cells l p
points b q t d same m A places l into p h =
    let M = medium_of b in
    let n = m.cells in
    let (T, e) = into_parts t.grid m places into in
    let B : Alike M m = subst (λ (x : Medium). Alike x m) (density_passed b q t d).0.medium A in
    let G = built t.grid m l e in
    record {
      enclosed = (let (k, K, i) = enclosed m n (numbered T.count) (held M m B (fitting b)) G.bounds p
          (moved M m B h) in (k, K, subst (λ (X : Type 0). X) (encloses_alike M m B n k p) i));
      bounded = λ k K i c r.
          let (s, f) = bounded t.grid m l e p k K (subst (λ (X : Type 0). X) (sym (encloses_alike M m B n k p)) i) c
          (subst (λ (X : Type 0). X) (sym (around_alike M m B p c)) r) in
          (s, subst (λ (x : Float). lt (get_or l k +0) x ≡ false) (same c s) f);
    }
  where
    held : (M m : Medium) → Alike M m → Fitting M → Fitting m
    held M m B F = record {
      low = subst (λ (x : Point). (a : Axis) → T (fits binary32 (on_point a x))) (sym B.low) F.low;
      high = subst (λ (x : Point). (a : Axis) → T (fits binary32 (on_point a x))) (sym B.high) F.high;
    }

    moved : (M m : Medium) → Alike M m → Between M.low M.high p → Between m.low m.high p
    moved M m B h = subst (λ (x : Point). Between x m.high p) (sym B.low) (subst (λ (x : Point). Between M.low x p) (sym B.high) h)

-- the second field of `Holds`, from the first
pub maxima : (b : List ℕ) (q : Places) (t : Accepted) → decode_density b q ≡ ok t → ((c : Coord) → Signed32 c → read_in t.grid c ≡ voxel b c)
    → (x : Box) → Signed32 x.lo → Signed32 x.hi → (public_maximum t.grid x ≡ ok (box_maximum (voxel b) x))
    × Greatest (voxel b) x (box_maximum (voxel b) x)
unfolding public_maximum
maxima b q t d same x l h = (
  ap (λ (n : ℕ). passing n (ok (box_maximum (read_in t.grid) x))) (density_passed b q t d).0.valid
      ∙ ap ok (max_same (read_in t.grid) (voxel b) x (λ c i. same c (record {
        x = mag_between x.lo.x c.x x.hi.x (2 ^ 31) i.x_low.le i.x_high.le l.x h.x;
        y = mag_between x.lo.y c.y x.hi.y (2 ^ 31) i.y_low.le i.y_high.le l.y h.y;
        z = mag_between x.lo.z c.z x.hi.z (2 ^ 31) i.z_low.le i.z_high.le l.z h.z;
      }))),
  greatest (voxel b) x,
)

-- all that is left of the claim is that a lookup reads what the walk reads
pub holds : (b : List ℕ) (q : Places) (t : Accepted) → decode_density b q ≡ ok t → ((c : Coord) → Signed32 c → ReadsAs b c (lookup t.grid c))
    → ((c : Coord) → Signed32 c → read_in t.grid c ≡ voxel b c) → Holds b t
holds b q t d reads same = record { lookups = reads; maxima = maxima b q t d same; figures = points b q t d same }
