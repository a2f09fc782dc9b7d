-- What a lookup reads fits an f32, where what the tables hold does; and so does a box maximum. Assumes nothing.
use Rattle.std.specs.Prelude.{ℕ, zero, suc, ◌+◌, ◌*◌, Bool, true, false, cond, T, List, length, ℤ, pos, ◌+ℤ◌, ◌==◌, nat_le, slice_index, slice_index_or, Float}
use Rattle.std.proofs.Common.{sym, subst}
use Rattle.std.proofs.Math.ListN.{get_or-eq_default}
use Rattle.std.specs.Float.{nan, binary32}
use Rattle.std.specs.Float.Ieee.{lt, fits}
use Rattle.std.specs.Float.Ieee.Fits.{cond-fits}
use Rattle.refusals.proofs.ListLaws.{get_d_any}
use Rattle.float.specs.Zero.{+0}
use Rattle.layout.specs.Coordinates.{Coord, slot, block_of, same_block}
use Rattle.sparse_grid.specs.Tables.{Grid, entry_of, block_at}
use Rattle.sparse_grid.specs.Validate.{pair_fault}
use Rattle.sparse_grid.specs.Lookup.{Found, refused, lookup, roots_from, root_entry, upper_entry, lower_entry, upper_at, lower_at, leaf_at, value_in, read_in}
use Rattle.sparse_grid.specs.Count.{split_lt}
use Rattle.boxes.specs.Boxes.{Box, greatest_run, span, box_maximum}

abbrev pub Fine : List Float → Type 0
Fine xs = (i : ℕ) → T (fits binary32 (slice_index_or xs i +0))

pub zero_fits : T (fits binary32 +0)
unfolding fits
zero_fits = tt

pick : (b : Bool) (p q : Found) → T (fits binary32 (value_in p)) → T (fits binary32 (value_in q)) → T (fits binary32 (value_in (cond b p q)))
pick true p q h k = h
pick false p q h k = k

module _ (g : Grid) (c : Coord) (back : T (fits binary32 g.background)) (roots : Fine g.root_values) (upper : Fine g.upper_values)
    (lower : Fine g.lower_values) (leaf : Fine g.leaf_values) where
  leaf_fits : (k : ℕ) → T (fits binary32 (value_in (leaf_at g k c)))
  leaf_fits k = pick (nat_le (512 * (k + 1)) (length g.leaf_values)) _ (refused 11) (leaf (512 * k + slot 8 1 c)) zero_fits

  lower_entry_lem : (l : ℕ) (v : Float) → T (fits binary32 v) → T (fits binary32 (value_in (lower_entry g c (entry_of l v))))
  lower_entry_lem zero v h = h
  lower_entry_lem (suc j) v h = leaf_fits j

  lower_fits : (k : ℕ) → T (fits binary32 (value_in (lower_at g k c)))
  lower_fits k =
      pick (nat_le (4096 * (k + 1)) (length g.lower_links)) _ (refused 11)
      (lower_entry_lem (slice_index g.lower_links (4096 * k + slot 16 8 c)) _ (lower (4096 * k + slot 16 8 c))) zero_fits

  upper_entry_lem : (l : ℕ) (v : Float) → T (fits binary32 v) → T (fits binary32 (value_in (upper_entry g c (entry_of l v))))
  upper_entry_lem zero v h = h
  upper_entry_lem (suc j) v h = lower_fits j

  upper_fits : (k : ℕ) → T (fits binary32 (value_in (upper_at g k c)))
  upper_fits k =
      pick (nat_le (32768 * (k + 1)) (length g.upper_links)) _ (refused 11)
      (upper_entry_lem (slice_index g.upper_links (32768 * k + slot 32 128 c)) _ (upper (32768 * k + slot 32 128 c))) zero_fits

  root_entry_lem : (l : ℕ) (v : Float) → T (fits binary32 v) → T (fits binary32 (value_in (root_entry g c (entry_of l v))))
  root_entry_lem zero v h = h
  root_entry_lem (suc j) v h = upper_fits j

  roots_fit : (n i : ℕ) → T (fits binary32 (value_in (roots_from g n i c)))
  unfolding roots_from
  roots_fit zero i = back
  roots_fit (suc n) i =
      pick (same_block (block_at g i) (block_of c)) _ (roots_from g n (i + 1) c) (root_entry_lem (slice_index g.root_links i) _ (roots i)) (roots_fit n (i + 1))

  pub read_fits : T (fits binary32 (read_in g c))
  unfolding lookup
  read_fits = pick (pair_fault g == 0) (roots_from g (length g.root_links) 0 c) (refused (pair_fault g)) (roots_fit (length g.root_links) 0) zero_fits

-- a slice's own fact, with another value past its end
pub fine : (xs : List Float) → ((i : ℕ) → T (fits binary32 (slice_index_or xs i nan))) → Fine xs
fine xs h i =
    split_lt i (length xs) (λ l. subst (λ (v : Float). T (fits binary32 v)) (get_d_any xs i nan +0 l) (h i))
    (λ l. subst (λ (v : Float). T (fits binary32 v)) (sym (get_or-eq_default xs +0 l)) zero_fits)

-- ---- the greatest of what fits, fits

run_fits : (n : ℕ) (from : ℤ) (f : ℤ → Float) → ((z : ℤ) → T (fits binary32 (f z))) → T (fits binary32 (greatest_run n from f))
unfolding greatest_run
run_fits zero from f h = zero_fits
run_fits (suc n) from f h =
    cond-fits binary32 (lt (greatest_run n from f) (f (from +ℤ pos n))) (f (from +ℤ pos n)) (greatest_run n from f) (h (from +ℤ pos n)) (run_fits n from f h)

pub box_fits : (read : Coord → Float) (b : Box) → ((c : Coord) → T (fits binary32 (read c))) → T (fits binary32 (box_maximum read b))
unfolding box_maximum
box_fits read b h =
    run_fits (span b.lo.x b.hi.x)
    b.lo.x _ (λ x. run_fits (span b.lo.y b.hi.y)
    b.lo.y _ (λ y. run_fits (span b.lo.z b.hi.z) b.lo.z _ (λ z. h (record { x = x; y = y; z = z }))))
