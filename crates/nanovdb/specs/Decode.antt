-- decode_scalar_grid and decode_density_grid as a whole: the header, the tree, and the record that comes back.
use Rattle.std.specs.Prelude.{ℕ, ◌+◌, ◌^◌, ◌/◌, List, [], ◌∷◌, map, Bool, ◌&&◌, ◌||◌, ℤ, eqb, ltb, leb, length, Float}
use Rattle.refusals.specs.Results.{Result, ok, bind}
use Rattle.refusals.specs.Faults.{◌then◌, unless, passing}
use Rattle.float.specs.Zero.{+0}
use Rattle.float.specs.Fused.{narrow}
use Rattle.layout.specs.Bytes.{u32_at, u64_at, i32_at, f32_at, f64_at}
use Rattle.sparse_grid.specs.declared.Entry.{Entry}
use Rattle.sparse_grid.specs.declared.Entry.TheVariants.{Child, Tile}
use Rattle.sparse_grid.specs.Tables.{Grid}
use Rattle.sparse_grid.specs.Validate.{validate, density_fault}
use Rattle.cells.specs.Cells.{Cells, cells}
use Rattle.medium.specs.Medium.{Medium, make_medium, each, bounds_fault, index_fault, map_fault}
use Rattle.nanovdb.specs.Nodes.{Places}
use Rattle.nanovdb.specs.Tree.{Root, Roots, tree}

-- an f64 of the world box, rounded to f32
abbrev pub bound_at : List ℕ → ℕ → Float
bound_at b at = narrow (f64_at b at)

-- a decode writes 64 cells on each axis
abbrev pub cells64 : Cells
cells64 = cells 64 64 64

-- what the header, the map and the index box of a root at `root` say of the medium
unfoldable pub medium_at : List ℕ → ℕ → Medium
medium_at b root =
    make_medium
    (record { x = bound_at b 560; y = bound_at b 568; z = bound_at b 576 })
    (record { x = bound_at b 584; y = bound_at b 592; z = bound_at b 600 })
    (record { x = i32_at b root; y = i32_at b (root + 4); z = i32_at b (root + 8) })
    (record { x = i32_at b (root + 12); y = i32_at b (root + 16); z = i32_at b (root + 20) })
    (f32_at b 332 ∷ f32_at b 336 ∷ f32_at b 340 ∷ f32_at b 344 ∷ f32_at b 348 ∷ f32_at b 352 ∷ f32_at b 356 ∷ f32_at b 360 ∷ f32_at b 364 ∷ [])
    (record { x = f32_at b 368; y = f32_at b 372; z = f32_at b 376 })
    cells64

-- the root stands at 672 plus the u64 at 696
abbrev pub root_place : List ℕ → ℕ
root_place b = 672 + u64_at b 696

unfoldable pub medium_of : List ℕ → Medium
unfolding medium_at
medium_of b = medium_at b (root_place b)

-- the two marks that a grid may begin with: "NanoVDB0", and "NanoVDB1" of newer exporters
abbrev pub mark_passes : ℕ → Bool
mark_passes mark = eqb mark 0x304244566f6e614e || eqb mark 0x314244566f6e614e

-- the header passes (3): mark, major version 32, size, type Float, class unknown or fog volume, and an index below the count
unfoldable pub header_passes : List ℕ → Bool
header_passes b =
    mark_passes (u64_at b 0) && eqb (u32_at b 16 / 2 ^ 21) 32 && eqb (u64_at b 32) (length b) && eqb (u32_at b 636) 1
    && (eqb (u32_at b 632) 0 || eqb (u32_at b 632) 2) && ltb 0 (u32_at b 28) && ltb (u32_at b 24) (u32_at b 28)

-- an entry in lent tables: a link and a value
abbrev pub link_of : Entry → ℕ
link_of (Child k) = k + 1
link_of (Tile v) = 0

abbrev pub value_of : Entry → Float
value_of (Child k) = +0
value_of (Tile v) = v

unfoldable pub blocks_of : List Root → List ℤ
blocks_of [] = []
blocks_of (r ∷ rs) = r.x ∷ r.y ∷ r.z ∷ blocks_of rs

-- the tables of a tree that has been read
unfoldable pub tables_of : List ℕ → Roots → Grid
unfolding blocks_of
tables_of b r = record {
  background = f32_at b (root_place b + 28);
  blocks = blocks_of r.roots;
  root_links = map (λ (e : Root). link_of e.entry) r.roots;
  root_values = map (λ (e : Root). value_of e.entry) r.roots;
  upper_links = map link_of r.state.upper;
  upper_values = map value_of r.state.upper;
  lower_links = map link_of r.state.lower;
  lower_values = map value_of r.state.lower;
  leaf_values = r.state.leaf;
}

-- what comes back: the accepted grid is the used parts of the lent tables
pub record Accepted : Type 0 where
  pub grid : Grid
  pub medium : Medium

-- what is tested before the tree is read: 1, 2, 3, 4
unfoldable pub bytes_fault : List ℕ → ℕ
unfolding header_passes medium_of
bytes_fault b = unless (ltb (length b) (2 ^ 32)) 1 then unless (leb 672 (length b)) 2 then unless (header_passes b) 3 then each (bounds_fault (medium_of b))

-- what is tested of the tree that has been read: validate, 13, 14
unfoldable pub tree_fault : Accepted → ℕ
tree_fault t = validate t.grid then map_fault t.medium then each (index_fault t.medium)

-- everything but 15, after 18, which looks at the lent tables
unfoldable pub decode_scalar : List ℕ → Places → Result Accepted
unfolding tree tables_of medium_of bytes_fault tree_fault
decode_scalar b p =
    passing (bytes_fault b)
    (bind (tree b p) (λ (r : Roots).
    let t : Accepted = record { grid = tables_of b r; medium = medium_of b } in
    passing (tree_fault t) (ok t)))

-- and then 15
unfoldable pub decode_density : List ℕ → Places → Result Accepted
unfolding decode_scalar
decode_density b p = bind (decode_scalar b p) (λ (t : Accepted). passing (density_fault t.grid) (ok t))
