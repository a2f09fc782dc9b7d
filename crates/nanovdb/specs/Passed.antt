-- What an accepted decode passed, and what it hands back. Assumes nothing.
use Rattle.std.specs.Prelude.{◌≡◌, List, ℕ, ◌^◌, ltb, leb, length}
use Rattle.std.proofs.Common.{sym, ap, subst}
use Rattle.refusals.specs.Results.{Result, ok, bind}
use Rattle.refusals.specs.ResultLaws.{ok_injective, bind_ok}
use Rattle.refusals.specs.Faults.{◌then◌, unless, passing}
use Rattle.refusals.specs.FaultLaws.{passing_ok, then_zero}
use Rattle.sparse_grid.specs.Tables.{Grid}
use Rattle.sparse_grid.specs.Validate.{validate, density_fault, validate_density}
use Rattle.medium.specs.Medium.{each, bounds_fault, index_fault, map_fault}
use Rattle.nanovdb.specs.Nodes.{Places}
use Rattle.nanovdb.specs.Tree.{Roots, tree}
use Rattle.nanovdb.specs.Decode.{tables_of, Accepted, medium_of, header_passes, bytes_fault, tree_fault, decode_scalar, decode_density}

pub record Passed (b : List ℕ) (p : Places) (t : Accepted) : Type 0 where
  pub roots : Roots
  pub read : tree b p ≡ ok roots
  pub grid : t.grid ≡ tables_of b roots
  pub medium : t.medium ≡ medium_of b
  pub valid : validate t.grid ≡ 0
  pub bounds : each (bounds_fault (medium_of b)) ≡ 0
  pub mapped : map_fault (medium_of b) ≡ 0
  pub index : each (index_fault (medium_of b)) ≡ 0

pub scalar_passed : (b : List ℕ) (p : Places) (t : Accepted) → decode_scalar b p ≡ ok t → Passed b p t
unfolding decode_scalar bytes_fault tree_fault
scalar_passed b p t e =
    let m = medium_of b in
    let (start, e₁) = passing_ok (bytes_fault b) (bind (tree b p) last) e in
    let (f₁, g₁) = then_zero (unless (ltb (length b) (2 ^ 32)) 1)
    (unless (leb 672 (length b)) 2 then unless (header_passes b) 3 then each (bounds_fault m)) start in
    let (f₂, g₂) = then_zero (unless (leb 672 (length b)) 2) (unless (header_passes b) 3 then each (bounds_fault m)) g₁ in
    let (f₃, bounds) = then_zero (unless (header_passes b) 3) (each (bounds_fault m)) g₂ in
    let (r, read, e₂) = bind_ok (tree b p) last e₁ in
    let (faults, e₃) = passing_ok (validate (tables_of b r) then map_fault m then each (index_fault m)) (ok (record { grid = tables_of b r; medium = m })) e₂ in
    let (valid, g₃) = then_zero (validate (tables_of b r)) (map_fault m then each (index_fault m)) faults in
    let (mapped, index) = then_zero (map_fault m) (each (index_fault m)) g₃ in
    let is = sym (ok_injective e₃) in
    let grid : t.grid ≡ tables_of b r = ap (λ (a : Accepted). a.grid) is in
    record {
      roots = r;
      read = read;
      grid = grid;
      medium = ap (λ (a : Accepted). a.medium) is;
      valid = subst (λ (g : Grid). validate g ≡ 0) (sym grid) valid;
      bounds = bounds;
      mapped = mapped;
      index = index;
    }
  where
    last : Roots → Result Accepted
    last = λ (r : Roots). let t : Accepted = record { grid = tables_of b r; medium = medium_of b } in passing (tree_fault t) (ok t)

pub density_passed : (b : List ℕ) (p : Places) (t : Accepted) → decode_density b p ≡ ok t → Passed b p t × (density_fault t.grid ≡ 0)
unfolding decode_density
density_passed b p t e =
    let (s, scalar, e₁) = bind_ok (decode_scalar b p) (λ (s : Accepted). passing (density_fault s.grid) (ok s)) e in
    let (dense, e₂) = passing_ok (density_fault s.grid) (ok s) e₁ in
    let is = ok_injective e₂ in
    (scalar_passed b p t (subst (λ (x : Accepted). decode_scalar b p ≡ ok x) is scalar), subst (λ (x : Accepted). density_fault x.grid ≡ 0) is dense)

-- an accepted decode passes validate_density
pub accepted_valid : (b : List ℕ) (p : Places) (t : Accepted) → decode_density b p ≡ ok t → validate_density t.grid ≡ 0
unfolding validate_density
accepted_valid b p t e = let (q, dense) = density_passed b p t e in rw (q.valid, dense)
