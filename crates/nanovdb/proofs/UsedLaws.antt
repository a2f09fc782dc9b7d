-- The used parts of the tables that an accepted decode leaves are the accepted grid's. Assumes nothing.
use Rattle.std.specs.Prelude.{◌≡◌, refl, List, ◌&&◌, ℕ, ◌-◌, ◌*◌, ◌/◌, ◌%◌, ◌^◌, ◌≤◌, T, eqb, ltb, pos, length, take, replicate}
use Rattle.std.proofs.Common.{sym, ap, ◌∙◌, arith, eqb→eq, length-append}
use Rattle.refusals.specs.Results.{Result, ok}
use Rattle.refusals.specs.FaultLaws.{unless_zero, passing_ok}
use Rattle.refusals.specs.TestLaws.{and_l, and_r}
use Rattle.float.specs.Zero.{+0}
use Rattle.lent.specs.Padded.{padded}
use Rattle.lent.proofs.PaddedLaws.{padded_take}
use Rattle.sparse_grid.specs.Tables.{Grid, grid_of}
use Rattle.sparse_grid.specs.Validate.{shape_fault, validate}
use Rattle.sparse_grid.specs.Sound.{Sound, sound, shaped}
use Rattle.nanovdb.specs.Nodes.{Places}
use Rattle.nanovdb.specs.Decode.{Accepted, decode_scalar, decode_density}
use Rattle.nanovdb.specs.Lent.{Lent, lent_fault, places_of, decode_into, answer_of, filled, Used, used_of}
use Rattle.nanovdb.specs.Passed.{scalar_passed, density_passed}

-- the first n places of a table that holds n things are those, and there are n
part : {A : Type 0} (places : ℕ) (z : A) (l : List A) (n : ℕ) → length l ≡ n → take n (padded places z l) ≡ l
part places z l n h = ap (λ (k : ℕ). take k (padded places z l)) (sym h) ∙ padded_take places z l

room : {A : Type 0} (places : ℕ) (z : A) (l : List A) (n : ℕ) → length l ≡ n → n ≤ length (padded places z l)
unfolding padded
room places z l n h = omega (arith, h, length-append l (replicate (places - length l) z))

-- a grid that passed `validate` has whole nodes
record Nodes (g : Grid) : Type 0 where
  upper : length g.upper_links ≡ 32768 * (length g.upper_links / 32768)
  lower : length g.lower_links ≡ 4096 * (length g.lower_links / 4096)
  leaf : length g.leaf_values ≡ 512 * (length g.leaf_values / 512)

nodes : (g : Grid) → validate g ≡ 0 → Nodes g
unfolding shape_fault
nodes g v =
    let u = eqb (length g.upper_links % 32768) 0 in
    let l = eqb (length g.lower_links % 4096) 0 in
    let f = eqb (length g.leaf_values % 512) 0 in
    let r = ltb (length g.root_links) (2 ^ 32) in
    let s = ltb (length g.upper_links) (2 ^ 32) in
    let t = ltb (length g.lower_links) (2 ^ 32) in
    let w = ltb (length g.leaf_values) (2 ^ 32) in
    let all = unless_zero (u && l && f && r && s && t && w) 17 (shaped g v) in
    let to_t = and_l (u && l && f && r && s && t) w all in
    let to_s = and_l (u && l && f && r && s) t to_t in
    let first : T (u && l && f) = and_l (u && l && f) r (and_l (u && l && f && r) s to_s) in
    let two = and_l (u && l) f first in
    record {
      upper = omega (arith, eqb→eq (length g.upper_links % 32768) 0 (and_l u l two));
      lower = omega (arith, eqb→eq (length g.lower_links % 4096) 0 (and_r u l two));
      leaf = omega (arith, eqb→eq (length g.leaf_values % 512) 0 (and_r (u && l) f first));
    }

module _ (l : Lent) (t : Accepted) (valid : validate t.grid ≡ 0) where
  S : Sound t.grid
  S = sound t.grid valid

  N : Nodes t.grid
  N = nodes t.grid valid

  upper_values_size : length t.grid.upper_values ≡ 32768 * (length t.grid.upper_links / 32768)
  upper_values_size = sym S.upper ∙ N.upper

  lower_values_size : length t.grid.lower_values ≡ 4096 * (length t.grid.lower_links / 4096)
  lower_values_size = sym S.lower ∙ N.lower

  used_is : used_of (answer_of (ok t)) (filled l t.grid) ≡ t.grid
  used_is = λ i. grid_of t.grid.background
      (part l.blocks (pos 0) t.grid.blocks (3 * length t.grid.root_links) S.blocks i)
      (part l.root_links 0 t.grid.root_links (length t.grid.root_links) refl i)
      (part l.root_values +0 t.grid.root_values (length t.grid.root_links) (sym S.roots) i)
      (part l.upper_links 0 t.grid.upper_links (32768 * (length t.grid.upper_links / 32768)) N.upper i)
      (part l.upper_values +0 t.grid.upper_values (32768 * (length t.grid.upper_links / 32768)) upper_values_size i)
      (part l.lower_links 0 t.grid.lower_links (4096 * (length t.grid.lower_links / 4096)) N.lower i)
      (part l.lower_values +0 t.grid.lower_values (4096 * (length t.grid.lower_links / 4096)) lower_values_size i)
      (part l.leaf_values +0 t.grid.leaf_values (512 * (length t.grid.leaf_values / 512)) N.leaf i)

  used_fits : Used (answer_of (ok t)) (filled l t.grid)
  used_fits = record {
    blocks = room l.blocks (pos 0) t.grid.blocks (3 * length t.grid.root_links) S.blocks;
    root_links = room l.root_links 0 t.grid.root_links (length t.grid.root_links) refl;
    root_values = room l.root_values +0 t.grid.root_values (length t.grid.root_links) (sym S.roots);
    upper_links = room l.upper_links 0 t.grid.upper_links (32768 * (length t.grid.upper_links / 32768)) N.upper;
    upper_values = room l.upper_values +0 t.grid.upper_values (32768 * (length t.grid.upper_links / 32768)) upper_values_size;
    lower_links = room l.lower_links 0 t.grid.lower_links (4096 * (length t.grid.lower_links / 4096)) N.lower;
    lower_values = room l.lower_values +0 t.grid.lower_values (4096 * (length t.grid.lower_links / 4096)) lower_values_size;
    leaf_values = room l.leaf_values +0 t.grid.leaf_values (512 * (length t.grid.leaf_values / 512)) N.leaf;
  }

-- a decode into lent tables that accepts is one into their places
accepts_by : (decode : List ℕ → Places → Result Accepted) (b : List ℕ) (l : Lent) (t : Accepted) → decode_into decode b l ≡ ok t
    → decode b (places_of l) ≡ ok t
unfolding decode_into
accepts_by decode b l t e = (passing_ok (lent_fault l) (decode b (places_of l)) e).1

pub accepts : (b : List ℕ) (l : Lent) (t : Accepted) → decode_into decode_density b l ≡ ok t → decode_density b (places_of l) ≡ ok t
accepts = accepts_by decode_density

pub scalar_accepts : (b : List ℕ) (l : Lent) (t : Accepted) → decode_into decode_scalar b l ≡ ok t → decode_scalar b (places_of l) ≡ ok t
scalar_accepts = accepts_by decode_scalar

module _ (b : List ℕ) (l : Lent) (t : Accepted) (e : decode_into decode_density b l ≡ ok t) where
  valid_grid : validate t.grid ≡ 0
  valid_grid = (density_passed b (places_of l) t (accepts b l t e)).0.valid

  -- the used parts of what an accepted decode leaves, as its answer counts them, are the accepted grid
  pub used_parts : used_of (answer_of (ok t)) (filled l t.grid) ≡ t.grid
  used_parts = used_is l t valid_grid

  -- and they lie within the tables
  pub used_room : Used (answer_of (ok t)) (filled l t.grid)
  used_room = used_fits l t valid_grid

-- the same of a scalar grid
module _ (b : List ℕ) (l : Lent) (t : Accepted) (e : decode_into decode_scalar b l ≡ ok t) where
  valid_scalar : validate t.grid ≡ 0
  valid_scalar = (scalar_passed b (places_of l) t (scalar_accepts b l t e)).valid

  pub scalar_parts : used_of (answer_of (ok t)) (filled l t.grid) ≡ t.grid
  scalar_parts = used_is l t valid_scalar

  pub scalar_room : Used (answer_of (ok t)) (filled l t.grid)
  scalar_room = used_fits l t valid_scalar
