-- How long the text of the classes can be: 65,536 bytes hold it. Assumes nothing.
use Rattle.std.specs.Prelude.{◌≡◌, refl, Bool, true, false, cond, [], ℕ, ◌^◌, ◌≤◌, ◌<◌, ℤ, eqb, leb, length}
use Rattle.std.proofs.Common.{mul-le-mul, arith, leb→le, eqb-true}
use Rattle.refusals.specs.Faults.{◌then◌, unless}
use Rattle.refusals.specs.FaultLaws.{then_zero, unless_zero}
use Rattle.sparse_grid.specs.Tables.{Grid}
use Rattle.sparse_grid.specs.Lookup.{read_in}
use Rattle.sparse_grid.specs.Count.{sum}
use Rattle.nanovdb.specs.Decode.{Accepted}
use Rattle.boxes.specs.Boxes.{Box, span}
use Rattle.walk.specs.Classes.{class_count, box_size, side_fault, sides_fault}
use Rattle.walk.proofs.ClassLaws.{class_size, total_size}
use Rattle.report.specs.Report.{refused_line}
use Rattle.report.specs.ClassReport.{class_word, total_word, limits, index_box, class_line, class_lines, total_line, count_lines, class_text}
use Rattle.report.specs.Room.{Roomy, Within, within, both, end, number_room, refused_room}

-- ---- a box whose sides pass has at most 2^60 coordinates

side_most : (lo hi : ℤ) → side_fault lo hi ≡ 0 → span lo hi ≤ 1048576
side_most lo hi e = leb→le (span lo hi) 1048576 (unless_zero (leb (span lo hi) 1048576) 24 e)

pub size_most : (b : Box) → sides_fault b ≡ 0 → box_size b ≤ 1152921504606846976
size_most b e =
    let p = then_zero (side_fault b.lo.x b.hi.x) (side_fault b.lo.y b.hi.y then side_fault b.lo.z b.hi.z) e in
    let q = then_zero (side_fault b.lo.y b.hi.y) (side_fault b.lo.z b.hi.z) p.1 in
    mul-le-mul (mul-le-mul (side_most b.lo.x b.hi.x p.0) (side_most b.lo.y b.hi.y q.0))
    (side_most b.lo.z b.hi.z q.1)

-- 25 is the only number of the sides
then_most : (a b n : ℕ) → a ≤ n → b ≤ n → (a then b) ≤ n
then_most a b n h k = go (eqb a 0)
  where
    go : (t : Bool) → cond t b a ≤ n
    go true = k
    go false = h

unless_most : (t : Bool) → unless t 25 ≤ 25
unless_most true = omega arith
unless_most false = omega arith

sides_most : (b : Box) → sides_fault b ≤ 25
sides_most b =
    let s : (lo hi : ℤ) → side_fault lo hi ≤ 25 = λ lo hi. unless_most (leb (span lo hi) 1048576) in
    then_most (side_fault b.lo.x b.hi.x) (side_fault b.lo.y b.hi.y then side_fault b.lo.z b.hi.z) 25
    (s b.lo.x b.hi.x)
    (then_most (side_fault b.lo.y b.hi.y) (side_fault b.lo.z b.hi.z) 25 (s b.lo.y b.hi.y) (s b.lo.z b.hi.z))

-- ---- the lines

class_room : (k n : ℕ) → k < 2 ^ 64 → n < 2 ^ 64 → Within (class_line k n) 48
unfolding class_line class_word
class_room k n h m = both (within class_word 5 (omega arith)) (both (number_room k h) (both (number_room n m) end))

total_room : (n : ℕ) → n < 2 ^ 64 → Within (total_line n) 27
unfolding total_line total_word
total_room n h = both (within total_word 5 (omega arith)) (both (number_room n h) end)

count_room : (count : ℕ → ℕ) → ((k : ℕ) → count k < 2 ^ 64) → sum 3 count < 2 ^ 64 → Within (count_lines count) 171
unfolding count_lines class_lines
count_room count h s =
    both
    (both (both (both (within [] 0 (omega arith)) (class_room 0 (count 0) (omega arith) (h 0))) (class_room 1 (count 1) (omega arith) (h 1)))
    (class_room 2 (count 2) (omega arith) (h 2)))
    (total_room (sum 3 count) s)

by_sides_room : (g : Grid) (b : Box) (x : Bool) → eqb (sides_fault b) 0 ≡ x
    → length (cond x (count_lines (class_count (read_in g) limits b)) (refused_line (sides_fault b))) ≤ 65536
by_sides_room g b true e =
    let m = size_most b (eqb-true (sides_fault b) 0 e) in
    let each : (k : ℕ) → class_count (read_in g) limits b k < 2 ^ 64 = λ k. omega (arith, m, class_size (read_in g) limits b k) in
    omega (arith, (count_room (class_count (read_in g) limits b) each (omega (arith, m, total_size (read_in g) limits b))).most)
by_sides_room g b false e = omega (arith, (refused_room (sides_fault b) (omega (arith, sides_most b))).most)

class_text_room : (n : ℕ) (t : Accepted) → length (class_text n t) ≤ 65536
unfolding class_text
class_text_room n t = let b = index_box t.medium in by_sides_room t.grid b (eqb (sides_fault b) 0) refl

pub class_text_roomy : Roomy class_text
class_text_roomy b bytes size t e counted few = class_text_room (length b) t
