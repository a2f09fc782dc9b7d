-- Eight voxels in one cube of 8: what is read from the spot of one of them is what each lookup reads. Assumes nothing.
use Rattle.std.proofs.Common.{subst, w32, to_z, of_z}
use Rattle.std.proofs.lemmas.Int.{to_z-of_z}
use Rattle.std.specs.Int.Signed.{mag}
use Rattle.std.specs.Prelude.{◌<◌}
use mathlib.Core.Path.{◌≡◌, refl, sym, ap, ◌∙◌}
use mathlib.Core.Bool.{Bool, true, false, cond}
use lib.IntN.{ℤ}
use lib.Signed.{shr_z}
use lib.Ieee.{Float}
use Rattle.layout.specs.Coordinates.{Coord}
use Rattle.std.specs.Prelude.{Ok, Err, Result as Answer}
use Rattle.refusals.specs.declared.Refusal.{Refusal}
use Rattle.sparse_grid.specs.declared.lookup.Spot.{Spot}
use Rattle.sparse_grid.specs.declared.lookup.Spot.TheVariants.{Leaf, Value}
use Rattle.sparse_grid.specs.Tables.{Grid}
use Rattle.sparse_grid.specs.Lookup.{value_in, read_in, lookup}
use Rattle.sparse_grid.specs.Answers.{at}
use Rattle.sparse_grid.specs.Spots.{leaves_of, Cube}
use Rattle.sparse_grid.specs.Ends.{found_by}
use Rattle.mix.specs.declared.point.Side.{Side}
use Rattle.mix.specs.Mix.{lerp}
use Rattle.mix.specs.Density.{corner_of}
use Rattle.mix.specs.Inner.{ends_in, read_from, on_z, on_x}

-- both sides lie in one cube
abbrev pub Shares : Side → Type 0
Shares s = shr_z s.lo 8 ≡ shr_z s.hi 8

on_side : (lo hi : ℤ) → shr_z lo 8 ≡ shr_z hi 8 → (o : Bool) → shr_z (cond o hi lo) 8 ≡ shr_z lo 8
on_side lo hi e false = refl
on_side lo hi e true = sym e

pub corner_cube : (i j k : Side) → Shares i → Shares j → Shares k → (x y z : Bool)
    → Cube (corner_of (ends_in i) (ends_in j) (ends_in k) x y z) (at i.lo j.lo k.lo)
corner_cube i j k p q r x y z = record { x = on_side i.lo i.hi p x; y = on_side j.lo j.hi q y; z = on_side k.lo k.hi r z }

-- from where a lookup ended, the leaves alone tell what is read
from_leaves : (g : Grid) (s : Answer Spot Refusal) (c : Coord) → read_from (leaves_of g.leaf_values) s c ≡ read_from g s c
from_leaves g (Ok (Leaf k)) c = refl
from_leaves g (Ok (Value v l)) c = refl
from_leaves g (Err e) c = refl

pub as_looked_up : (g : Grid) (s : Answer Spot Refusal) (c : Coord) → found_by g s c ≡ lookup g c
    → read_from (leaves_of g.leaf_values) s c ≡ read_in g c
as_looked_up g s c e = from_leaves g s c ∙ ap value_in e

-- two readers that agree on the eight mix alike
pub on_same : (read other : Coord → Float) (i j k : Side)
    → ((x y z : Bool) → let c = corner_of (ends_in i) (ends_in j) (ends_in k) x y z in read c ≡ other c) → on_x read i j k ≡ on_x other i j k
on_same read other i j k h =
    λ t. lerp
    (lerp (lerp (h false false false t) (h false false true t) k.t) (lerp (h false true false t) (h false true true t) k.t) j.t)
    (lerp (lerp (h true false false t) (h true false true t) k.t) (lerp (h true true false t) (h true true true t) k.t) j.t)
    i.t

-- a coordinate that locals hold as bits
abbrev held : ℤ → ℤ
held z = to_z w32 (of_z w32 z)

seen : (z : ℤ) → mag z < 2147483648 → held z ≡ z
seen z h = to_z-of_z w32 z (record { sfits = h })

pub held_cube : (d : Coord) (x y z : ℤ) → mag x < 2147483648 → mag y < 2147483648 → mag z < 2147483648
    → Cube d (at x y z) → Cube d (at (held x) (held y) (held z))
held_cube d x y z f g h = subst (Cube d) (λ t. at (sym (seen x f) t) (sym (seen y g) t) (sym (seen z h) t))

pub on_held : (read : Coord → Float) (i j k : Side) → mag i.lo < 2147483648 → mag i.hi < 2147483648 → mag j.lo < 2147483648 → mag j.hi < 2147483648
    → lerp (lerp (on_z read (held i.lo) (held j.lo) k) (on_z read (held i.lo) (held j.hi) k) j.t)
    (lerp (on_z read (held i.hi) (held j.lo) k) (on_z read (held i.hi) (held j.hi) k) j.t) i.t ≡ on_x read i j k
on_held read i j k f g h l =
    λ t. lerp (lerp (on_z read (seen i.lo f t) (seen j.lo h t) k) (on_z read (seen i.lo f t) (seen j.hi l t) k) j.t)
    (lerp (on_z read (seen i.hi g t) (seen j.lo h t) k) (on_z read (seen i.hi g t) (seen j.hi l t) k) j.t) i.t
