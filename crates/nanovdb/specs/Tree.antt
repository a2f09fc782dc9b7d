-- The tiles of the root, and the tree as a whole.
use Rattle.std.specs.Prelude.{ℕ, zero, suc, ◌+◌, ◌*◌, ◌^◌, ◌%◌, ◌/◌, List, [], ◌∷◌, ◌++◌, Bool, cond, ◌&&◌, ℤ, eqb, ltb, leb, length}
use Rattle.refusals.specs.Results.{Result, ok, bind, need}
use Rattle.layout.specs.Bytes.{signed, u32_at, u64_at, i64_at, f32_at}
use Rattle.sparse_grid.specs.declared.Entry.{Entry}
use Rattle.sparse_grid.specs.declared.Entry.TheVariants.{Child, Tile}
use Rattle.nanovdb.specs.Nodes.{Places, State, empty, claim, child_target, Read, node}

-- the root record of a tile: its block and its entry
pub record Root : Type 0 where
  pub x : ℤ
  pub y : ℤ
  pub z : ℤ
  pub entry : Entry

pub record Roots : Type 0 where
  pub roots : List Root
  pub state : State

-- a 20-bit field of a key, from bit k on
abbrev pub field : ℕ → ℕ → ℤ
field key k = signed 20 (key / 2 ^ k % 2 ^ 20)

-- bits 20, 41 and those from 62 on are 0
abbrev pub key_passes : ℕ → Bool
key_passes key = ltb key (2 ^ 62) && eqb (key / 2 ^ 20 % 2) 0 && eqb (key / 2 ^ 41 % 2) 0

abbrev pub root_of : ℕ → Entry → Root
root_of key e = record { x = field key 42; y = field key 21; z = field key 0; entry = e }

-- tile i of the root: 7, 8, and then its node
abbrev pub tile_read : List ℕ → Places → ℕ → ℕ → Roots → Result Roots
tile_read b p root i r =
    let at = root + 64 + 32 * i in
    let key = u64_at b at in
    need (key_passes key) 7
    (cond (eqb (u64_at b (at + 8)) 0)
    (ok (record { roots = r.roots ++ (root_of key (Tile (f32_at b (at + 20))) ∷ []); state = r.state }))
    (bind (child_target root (i64_at b (at + 8))) (λ (target : ℕ).
    bind (node 2 b p target r.state) (λ (n : Read).
    ok (record { roots = r.roots ++ (root_of key (Child n.number) ∷ []); state = n.state })))))

-- the first n tiles
unfoldable pub tiles_read : List ℕ → Places → ℕ → ℕ → State → Result Roots
unfolding node
tiles_read b p root zero t = ok (record { roots = []; state = t })
tiles_read b p root (suc n) t = bind (tiles_read b p root n t) (tile_read b p root n)

-- header span 5, 9; count field 5; root span 5, 6, 9; tile count 9; the tiles; 10
unfoldable pub tree : List ℕ → Places → Result Roots
unfolding claim tiles_read
tree b p =
    bind (claim b p empty (record { start = 0; end = 736; level = 3; number = 0 })) (λ (h : State).
    let root = 672 + u64_at b 696 in
    let count = u32_at b (root + 24) in
    need (leb (root + 28) (length b)) 5
    (bind (claim b p h (record { start = root; end = root + 64 + 32 * count; level = 3; number = 0 })) (λ (t : State).
    need (leb count p.roots) 9
    (bind (tiles_read b p root count t) (λ (r : Roots).
    need (eqb r.state.leaf_nodes (u32_at b 704) && eqb r.state.lower_nodes (u32_at b 708) && eqb r.state.upper_nodes (u32_at b 712)) 10
    (ok r))))))
