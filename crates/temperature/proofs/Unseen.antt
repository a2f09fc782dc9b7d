-- Nothing that comes of the density grid sees the temperature: records that differ in it alone give equal tables, rays, positions and mixes. Assumes nothing.
use Rattle.std.specs.Prelude.{ℕ, zero, suc, ◌≡◌, refl, List, [], ◌∷◌, ◌++◌, Float}
use Rattle.std.proofs.Common.{sym, ap, ◌∙◌}
use Rattle.refusals.specs.Results.{ok, bind}
use Rattle.refusals.specs.Faults.{◌then◌, passing}
use Rattle.sparse_grid.specs.Tables.{Grid}
use Rattle.sparse_grid.specs.Validate.{validate, density_fault}
use Rattle.sparse_grid.specs.Lookup.{read_in}
use Rattle.cells.specs.Cells.{Cells, cell_count, table_fault}
use Rattle.medium.specs.Medium.{Point, Medium, Axis, bounds_fault, index_fault, map_fault, medium_fault}
use Rattle.index.specs.Index.{world_to_index, majorant_index}
use Rattle.index.specs.Cells.{corner, first_ends, second_ends}
use Rattle.index.specs.Answers.{index_bits}
use Rattle.rays.specs.Open.{Beam, open_ray}
use Rattle.mix.specs.Density.{density_at, density_by, mix_between}
use Rattle.boxes.specs.Boxes.{Box, box_maximum}
use Rattle.majorant.specs.Figures.{figure, figures}
use Rattle.majorant.specs.Build.{build, build_into}
use Rattle.temperature.specs.Unseen.{OfTheRest, ButTemperature}

-- such a function does not tell them apart
pub unseen : {A : Type 0} (f : Medium → A) → OfTheRest f → (m n : Medium) → ButTemperature m n → f m ≡ f n
unseen f rest m n e = rest m ∙ ap f e ∙ sym (rest n)

-- ---- the faults of a record, and index positions

pub bounds_unseen : (a : Axis) → OfTheRest (λ (m : Medium). bounds_fault m a)
unfolding bounds_fault
bounds_unseen a m = refl

pub fault_unseen : OfTheRest medium_fault
unfolding bounds_fault index_fault map_fault
fault_unseen m = refl

pub position_unseen : (p : Point) → OfTheRest (λ (m : Medium). index_bits m p)
unfolding index_bits map_fault world_to_index
position_unseen p m = refl

-- ---- a build

first_unseen : (n : Cells) (k : ℕ) (a : Axis) → OfTheRest (λ (m : Medium). first_ends m n k a)
unfolding first_ends majorant_index corner
first_unseen n k a m = refl

second_unseen : (n : Cells) (k : ℕ) (a : Axis) → OfTheRest (λ (m : Medium). second_ends m n k a)
unfolding second_ends world_to_index corner
second_unseen n k a m = refl

figure_unseen : (maximum : Box → Float) (n : Cells) (k : ℕ) → OfTheRest (λ (m : Medium). figure maximum m n k)
unfolding figure first_ends second_ends majorant_index world_to_index corner
figure_unseen maximum n k m = refl

figures_unseen : (maximum : Box → Float) (n : Cells) (c : ℕ) → OfTheRest (λ (m : Medium). figures maximum m n c)
unfolding figures
figures_unseen maximum n zero m = refl
figures_unseen maximum n (suc c) m = λ i.
    bind (figures_unseen maximum n c m i) (λ (l : List Float).
    bind (figure_unseen maximum n c m i) (λ (v : Float). ok (l ++ (v ∷ []))))

pub build_unseen : (g : Grid) → OfTheRest (build g)
unfolding build bounds_fault index_fault map_fault
build_unseen g m =
    ap (passing (validate g then density_fault g then medium_fault m)) (figures_unseen (box_maximum (read_in g)) m.cells (cell_count m.cells) m)

-- ---- together: a build's number and table, an opened ray, from which every piece comes without the record, a position and a mix

pub record Same (m n : Medium) : Type 1 where
  pub tables : (g : Grid) (places : ℕ) → build_into g m places ≡ build_into g n places
  pub rays : (b : Beam) (places : ℕ) → open_ray m b places ≡ open_ray n b places
  pub positions : (p : Point) → index_bits m p ≡ index_bits n p
  pub mixes : (g : Grid) (p : Point) → density_at g m p ≡ density_at g n p
  pub others : {A : Type 0} (f : Medium → A) → OfTheRest f → f m ≡ f n

into_unseen : (g : Grid) (places : ℕ) → OfTheRest (λ (m : Medium). build_into g m places)
unfolding build_into
into_unseen g places m = ap (passing (table_fault m.cells places)) (build_unseen g m)

ray_unseen : (b : Beam) (places : ℕ) → OfTheRest (λ (m : Medium). open_ray m b places)
unfolding open_ray bounds_fault
ray_unseen b places m = refl

mix_unseen : (g : Grid) (p : Point) → OfTheRest (λ (m : Medium). density_at g m p)
unfolding density_at density_by mix_between bounds_fault map_fault world_to_index
mix_unseen g p m = refl

pub temperature_unseen : (m n : Medium) → ButTemperature m n → Same m n
temperature_unseen m n e = record {
  tables = λ g places. unseen (λ (m : Medium). build_into g m places) (into_unseen g places) m n e;
  rays = λ b places. unseen (λ (m : Medium). open_ray m b places) (ray_unseen b places) m n e;
  positions = λ p. unseen (λ (m : Medium). index_bits m p) (position_unseen p) m n e;
  mixes = λ g p. unseen (λ (m : Medium). density_at g m p) (mix_unseen g p) m n e;
  others = λ f rest. unseen f rest m n e;
}
