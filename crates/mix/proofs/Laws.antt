-- What the code answers: the position on an axis from its bits, the medium that passed, and the densities of a list. Assumes nothing.
use Rattle.std.specs.Prelude.{◌≡◌, refl, ℕ, suc, ◌+◌, ◌*◌, ◌≤◌, ◌<◌, List, [], ◌∷◌, ◌++◌, Float, length, get_or, eqb, Ok, Err, Result as Answer}
use Rattle.std.specs.Float.{binary32}
use Rattle.std.specs.Float.Ieee.{to_bits, of_bits}
use Rattle.std.proofs.Common.{sym, ap, ◌∙◌, arith, le_of_eq, add-one, take, set, length-set}
use lib.Dec.{eqb→eq}
use lib.Seq.{take-suc-set, take_all}
use Rattle.refusals.specs.Results.{Result, ok, refused, bind, number_of, value_or}
use Rattle.refusals.specs.declared.Refusal.{Refusal}
use Rattle.refusals.specs.Numbers.{number, fault_of}
use Rattle.refusals.proofs.Exits.{number_some}
use Rattle.refusals.specs.ResultLaws.{stopped, ok_injective, run_more, run_stop}
use Rattle.refusals.specs.Faults.{◌then◌, unless, passing}
use Rattle.refusals.specs.FaultLaws.{then_zero, unless_zero}
use Rattle.refusals.proofs.FaultSteps.{passing_stop, passing_on}
use Rattle.float.proofs.Numbers.{fma_fits}
use Rattle.float.proofs.Patterns.{read_back}
use Rattle.float.proofs.WholeLaws.{one_literal}
use Rattle.sparse_grid.specs.Tables.{Grid}
use Rattle.sparse_grid.specs.Validate.{validate, density_fault}
use Rattle.sparse_grid.specs.Lookup.{read_in}
use Rattle.layout.specs.Coordinates.{Coord}
use Rattle.medium.specs.Medium.{Point, Medium, Axis, x_axis, y_axis, z_axis, each, bounds_fault, map_fault}
use Rattle.index.specs.Cells.{Ends}
use Rattle.index.specs.Index.{world_to_index}
use Rattle.index.specs.Sides.{sides_of}
use Rattle.index.specs.Answers.{index_bits}
use Rattle.mix.specs.declared.point.Side.{Side}
use Rattle.mix.specs.Mix.{along_z, along_y, mix, part}
use Rattle.mix.specs.Density.{outside_fault, corner_of, mix_between, density_by, mix_fault, point_at, densities_of, densities_into}
use Rattle.mix.specs.Inner.{Sided, as_sided, sided_at, on_x}

-- the literal 1.0
pub ruleset ones = (one_literal)

pub map_passed : (g : Grid) (m : Medium) → mix_fault g m ≡ 0 → map_fault m ≡ 0
map_passed g m z =
    let medium = each (bounds_fault m) then map_fault m in
    let rest = density_fault g then medium in
    (then_zero (each (bounds_fault m)) (map_fault m) (then_zero (density_fault g) medium (then_zero (validate g) rest z).1).1).1

-- ---- a point

abbrev bits_of : Medium → Point → Axis → ℕ
bits_of m p a = to_bits binary32 (world_to_index m p a)

-- the position on an axis is what its bits say
index_back : (m : Medium) (p : Point) (a : Axis) → of_bits binary32 (bits_of m p a) ≡ world_to_index m p a
unfolding world_to_index
index_back m p a = read_back binary32 (bits_of m p a) (world_to_index m p a) refl (fma_fits binary32 _ _ _)

abbrev pub side : List ℕ → ℕ → Result Sided
side bits i = sided_at (of_bits binary32 (get_or bits i 0))

module _ (read : Coord → Float) where
  mixed : Sided → Sided → Sided → Float
  mixed i j k = mix (λ x y z. read (corner_of i.ends j.ends k.ends x y z)) i.t j.t k.t

  -- the mix between the sides of three axes, or the first refusal
  pub joined : Result Sided → Result Sided → Result Sided → Result Float
  joined x y z = bind x (λ (i : Sided). bind y (λ (j : Sided). bind z (λ (k : Sided). ok (mixed i j k))))

  pub join_x : (n : ℕ) (y z : Result Sided) → refused n ≡ joined (refused n) y z
  unfolding joined
  join_x n y z = refl

  pub join_y : (i : Side) (n : ℕ) (z : Result Sided) → refused n ≡ joined (ok (as_sided i)) (refused n) z
  unfolding joined
  join_y i n z = refl

  pub join_z : (i j : Side) (n : ℕ) → refused n ≡ joined (ok (as_sided i)) (ok (as_sided j)) (refused n)
  unfolding joined
  join_z i j n = refl

  pub join_all : (i j k : Side) → ok (on_x read i j k) ≡ joined (ok (as_sided i)) (ok (as_sided j)) (ok (as_sided k))
  unfolding joined mixed mix along_y along_z
  join_all i j k = refl

  module _ (m : Medium) (p : Point) (sound : map_fault m ≡ 0) where
    has_bits : index_bits m p ≡ ok (bits_of m p x_axis ∷ bits_of m p y_axis ∷ bits_of m p z_axis ∷ [])
    unfolding index_bits
    has_bits = passing_on (map_fault m) _ sound

    pub no_bits : {n : ℕ} → refused n ≡ index_bits m p → ⊥
    no_bits e = stopped (e ∙ has_bits)

    with_part : Float → Result Ends → Result Sided
    with_part t r = bind r (λ (e : Ends). ok (record { ends = e; t = t }))

    chained : (x y z : Result Ends)
        → joined (with_part (part (world_to_index m p x_axis)) x) (with_part (part (world_to_index m p y_axis)) y)
        (with_part (part (world_to_index m p z_axis)) z)
        ≡ bind x (λ (i : Ends). bind y (λ (j : Ends). bind z (λ (k : Ends). ok (mix_between read m p i j k))))
    unfolding joined mixed with_part mix_between
    chained (refused n) y z = refl
    chained (ok i) (refused n) z = refl
    chained (ok i) (ok j) (refused n) = refl
    chained (ok i) (ok j) (ok k) = refl

    -- inside the box, the sides of the bits decide
    pub sides_known : {l : List ℕ} → 0 ≡ each (outside_fault m p) → ok l ≡ index_bits m p
        → joined (side l 0) (side l 1) (side l 2) ≡ density_by read m p
    unfolding with_part density_by sided_at
    sides_known {l} inside e =
        ap (λ (l : List ℕ). joined (side l 0) (side l 1) (side l 2)) (ok_injective (e ∙ has_bits))
        ∙ (λ t. joined (sided_at (index_back m p x_axis t)) (sided_at (index_back m p y_axis t)) (sided_at (index_back m p z_axis t)))
        ∙ chained (sides_of (world_to_index m p x_axis)) (sides_of (world_to_index m p y_axis)) (sides_of (world_to_index m p z_axis))
        ∙ sym (passing_on (each (outside_fault m p)) _ (sym inside))

-- ---- a list of points

module _ (density : Point → Result Float) (points : List Float) where
  step : ℕ → List Float → Result (List Float)
  step i l = bind (density (point_at points i)) (λ (v : Float). ok (l ++ (v ∷ [])))

  next : (n : ℕ) → densities_of density points (suc n) ≡ bind (densities_of density points n) (step n)
  unfolding densities_of step
  next n = refl

  -- after i of n points: their densities are the first i places
  pub record Filled (t : List Float) (n i : ℕ) : Type 0 where
    pub most : i ≤ n
    pub long : length t ≡ n
    pub run : densities_of density points i ≡ ok (take i t)

  pub filled_none : (t : List Float) → Filled t (length t) 0
  unfolding densities_of
  filled_none t = record { most = omega arith; long = refl; run = refl }

  pub filled_more : {t : List Float} {n i : ℕ} (v : Float) → Filled t n i → i < n → ok v ≡ density (point_at points i)
      → Filled (set t i v) n (i + 1)
  unfolding step
  filled_more {t} {n} {i} v h l gives =
      let long : i < length t = omega (arith, h.long) in
      record {
        most = omega arith;
        long = length-set t i v ∙ h.long;
        run =
            run_more (densities_of density points) step next i (take i t) (take i t ++ (v ∷ [])) h.run
            (λ j. bind (sym gives j) (λ (w : Float). ok (take i t ++ (w ∷ []))))
            ∙ ap ok (sym (ap (λ (k : ℕ). take k (set t i v)) (add-one i) ∙ take-suc-set t i v long));
      }

  pub filled_stop : {t : List Float} {n i : ℕ} (f : ℕ) → Filled t n i → i < n → refused f ≡ density (point_at points i)
      → (f ≡ 0 → ⊥) → passing f (ok t) ≡ densities_of density points n
  unfolding step
  filled_stop {t} {n} {i} f h l gives z =
      passing_stop f (ok t) z
      ∙ sym (run_stop (densities_of density points) step next i n f (take i t) h.run
      (λ j. bind (sym gives j) (λ (w : Float). ok (take i t ++ (w ∷ [])))) l)

  pub filled_end : {t : List Float} {n i : ℕ} → Filled t n i → n ≤ i → ok t ≡ densities_of density points n
  filled_end {t} {n} {i} h l =
      let e : i ≡ n = omega (arith, h.most) in
      ap ok (sym (take_all i t (le_of_eq (h.long ∙ sym e)))) ∙ sym h.run ∙ ap (densities_of density points) e

-- ---- what a test and the list it leaves say
module _ {A : Type 0} {d : Result (List Float)} (t : List Float) where
  pub number_said : (r : Answer A Refusal) → passing (fault_of r) (ok t) ≡ d → fault_of r ≡ number_of d
  number_said (Ok u) h = ap number_of h
  number_said (Err e) h = ap number_of (sym (passing_stop (number e) (ok t) (number_some e)) ∙ h)

  pub values_said : (r : Answer A Refusal) (z : List Float) → fault_of r ≡ 0 → passing (fault_of r) (ok t) ≡ d → t ≡ value_or z d
  values_said r z o h = ap (value_or z) (sym (passing_on (fault_of r) (ok t) o) ∙ h)

  pub zeros_said : (r : Answer A Refusal) (z : List Float) → (fault_of r ≡ 0 → ⊥) → passing (fault_of r) (ok t) ≡ d → z ≡ value_or z d
  zeros_said r z o h = ap (value_or z) (sym (passing_stop (fault_of r) (ok t) o) ∙ h)

module _ (g : Grid) (m : Medium) (points : List Float) (places : ℕ) where
  abbrev list_fault : ℕ
  list_fault = unless (eqb (length points) (3 * places)) 18 then mix_fault g m

  -- a list that passes is three numbers to a place, and the map is sound
  pub list_passed : 0 ≡ list_fault → (map_fault m ≡ 0) × (length points ≡ 3 * places)
  list_passed e =
      let p = then_zero (unless (eqb (length points) (3 * places)) 18) (mix_fault g m) (sym e) in
      (map_passed g m p.1, eqb→eq (length points) (3 * places) (unless_zero (eqb (length points) (3 * places)) 17 p.0))

  pub list_stops : (n : ℕ) (t : List Float) → n ≡ list_fault → (n ≡ 0 → ⊥) → passing n (ok t) ≡ densities_into g m points places
  unfolding densities_into
  list_stops n t e h =
      passing_stop n (ok t) h
      ∙ sym (passing_stop n (densities_of (density_by (read_in g) m) points places) h)
      ∙ ap (λ (k : ℕ). passing k (densities_of (density_by (read_in g) m) points places)) e
