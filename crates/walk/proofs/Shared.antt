-- A valid grid whose roots share one upper node, its entries one lower node, and those one leaf: eight roots around the origin. Assumes nothing.
use Rattle.std.specs.Prelude.{ℕ, zero, suc, ◌/◌, ◌<◌, ◌≡◌, refl, List, [], ◌∷◌, ℤ, pos, negsuc, length, get_or, replicate}
use Rattle.std.proofs.Common.{arith, ap, ◌∙◌, subst}
use Rattle.std.specs.Float.Ieee.{eq}
use Rattle.std.proofs.lemmas.List.{length-replicate, get_or-replicate}
use Rattle.refusals.specs.Faults.{◌then◌, first_fault}
use Rattle.float.specs.Zero.{+0}
use Rattle.sparse_grid.specs.Tables.{Grid, grid_of, entry_at}
use Rattle.sparse_grid.specs.Validate.{value_fault, entry_fault, entries_fault, values_fault, earlier, root_fault, pair_fault, shape_fault, validate}
use Rattle.sparse_grid.specs.declared.Entry.TheVariants.{Child}

-- n times a
unfoldable pub filled : {A : Type 0} → ℕ → A → List A
filled n a = replicate n a

pub filled_length : {A : Type 0} (n : ℕ) (a : A) → length (filled n a) ≡ n
unfolding filled
filled_length n a = length-replicate n a

pub filled_at : {A : Type 0} (n i : ℕ) (a d : A) → i < n → get_or (filled n a) i d ≡ a
unfolding filled
filled_at n i a d h = get_or-replicate n i a d h

abbrev -1ℤ : ℤ
-1ℤ = negsuc 0

abbrev 0ℤ : ℤ
0ℤ = pos 0

-- the blocks -1 and 0 on each axis, z fastest
abbrev pub eight_blocks : List ℤ
eight_blocks =
    -1ℤ ∷ -1ℤ ∷ -1ℤ ∷ -1ℤ ∷ -1ℤ ∷ 0ℤ ∷ -1ℤ ∷ 0ℤ ∷ -1ℤ ∷ -1ℤ ∷ 0ℤ ∷ 0ℤ
    ∷ 0ℤ ∷ -1ℤ ∷ -1ℤ ∷ 0ℤ ∷ -1ℤ ∷ 0ℤ ∷ 0ℤ ∷ 0ℤ ∷ -1ℤ ∷ 0ℤ ∷ 0ℤ ∷ 0ℤ ∷ []

abbrev pub eight : {A : Type 0} → A → List A
eight a = a ∷ a ∷ a ∷ a ∷ a ∷ a ∷ a ∷ a ∷ []

-- every link is 1: the first node of the level below
unfoldable pub shared_grid : Grid
shared_grid = grid_of +0 eight_blocks (eight 1) (eight +0) (filled 32768 1) (filled 32768 +0) (filled 4096 1) (filled 4096 +0) (filled 512 +0)

-- ---- it is valid

then_none : (a b : ℕ) → a ≡ 0 → b ≡ 0 → (a then b) ≡ 0
then_none a b h k = rw (h, k)

no_fault : (n : ℕ) (f : ℕ → ℕ) → ((i : ℕ) → i < n → f i ≡ 0) → first_fault n f ≡ 0
unfolding first_fault
no_fault zero f h = refl
no_fault (suc n) f h = then_none (first_fault n f) (f n) (no_fault n f (λ i l. h i (omega arith))) (h n (omega arith))

child_passes : entry_fault 1 1 +0 ≡ 0
unfolding eq
child_passes = refl

zero_passes : value_fault +0 ≡ 0
zero_passes = refl

filled_passes : (n : ℕ) → entries_fault 1 (filled n 1) (filled n +0) ≡ 0
filled_passes n = no_fault (length (filled {A = ℕ} n 1)) _
    (λ i l. let k : i < n = subst (λ (m : ℕ). i < m) (filled_length {A = ℕ} n 1) l in
    rw (filled_at {A = ℕ} n i 1 0 k, filled_at n i +0 +0 k) child_passes)

leaf_passes : (n : ℕ) → values_fault (filled n +0) ≡ 0
leaf_passes n = no_fault (length (filled n +0)) _
    (λ i l. let k : i < n = subst (λ (m : ℕ). i < m) (filled_length n +0) l in rw (filled_at n i +0 +0 k) zero_passes)

pairs_pass : pair_fault shared_grid ≡ 0
unfolding pair_fault shared_grid
pairs_pass = simp filled_length

shape_passes : shape_fault shared_grid ≡ 0
unfolding shape_fault shared_grid
shape_passes = simp filled_length

roots_pass : first_fault (length shared_grid.root_links) (root_fault shared_grid) ≡ 0
unfolding shared_grid first_fault root_fault earlier eq
roots_pass = simp filled_length

uppers_pass : entries_fault (length shared_grid.lower_links / 4096) shared_grid.upper_links shared_grid.upper_values ≡ 0
unfolding shared_grid
uppers_pass = ap (λ (k : ℕ). entries_fault (k / 4096) (filled 32768 1) (filled 32768 +0)) (filled_length {A = ℕ} 4096 1) ∙ filled_passes 32768

lowers_pass : entries_fault (length shared_grid.leaf_values / 512) shared_grid.lower_links shared_grid.lower_values ≡ 0
unfolding shared_grid
lowers_pass = ap (λ (k : ℕ). entries_fault (k / 512) (filled 4096 1) (filled 4096 +0)) (filled_length 512 +0) ∙ filled_passes 4096

rest_passes : (value_fault shared_grid.background then values_fault shared_grid.leaf_values) ≡ 0
unfolding shared_grid
rest_passes = then_none (value_fault +0) (values_fault (filled 512 +0)) zero_passes (leaf_passes 512)

pub shared_valid : validate shared_grid ≡ 0
unfolding validate
shared_valid = then_none _ _ pairs_pass
    (then_none _ _ shape_passes (then_none _ _ roots_pass (then_none _ _ uppers_pass (then_none _ _ lowers_pass rest_passes))))

-- ---- every entry is the first child

pub lower_child : (i : ℕ) → i < 4096 → entry_at shared_grid.lower_links shared_grid.lower_values i ≡ Child 0
unfolding shared_grid
lower_child i l = rw (filled_at {A = ℕ} 4096 i 1 0 l)

pub upper_child : (i : ℕ) → i < 32768 → entry_at shared_grid.upper_links shared_grid.upper_values i ≡ Child 0
unfolding shared_grid
upper_child i l = rw (filled_at {A = ℕ} 32768 i 1 0 l)
