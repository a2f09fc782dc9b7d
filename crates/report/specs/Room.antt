-- How long the text can be: 65,536 bytes hold it. Assumes nothing.
use Rattle.std.specs.Prelude.{◌≡◌, refl, Bool, true, false, cond, List, ◌++◌, ℕ, zero, suc, ◌+◌, ◌-◌, ◌*◌, ◌/◌, ◌^◌, ◌≤◌, ◌<◌, ℤ, pos, negsuc, T, ltb, leb, length, get_or, Float}
use Rattle.std.proofs.Common.{sym, subst, arith, leb→le, length-append, ltb-true, ltb-false, leb-true}
use Rattle.std.specs.Int.Signed.{mag}
use Rattle.std.specs.Float.{binary32}
use Rattle.std.specs.Float.Ieee.{to_bits}
use Rattle.refusals.specs.Results.{ok}
use Rattle.refusals.specs.FaultLaws.{passing_ok}
use Rattle.refusals.specs.TestLaws.{and_l}
use Rattle.float.specs.Zero.{+0}
use Rattle.layout.specs.Bytes.{signed}
use Rattle.layout.specs.FieldLaws.{u32_below}
use Rattle.layout.specs.Coordinates.{Coord, Signed32}
use Rattle.sparse_grid.specs.Tables.{Grid, block_at}
use Rattle.sparse_grid.specs.Validate.{block_in}
use Rattle.sparse_grid.specs.Sound.{sound}
use Rattle.medium.specs.Medium.{Medium}
use Rattle.nanovdb.specs.Decode.{Accepted, medium_of, root_place, decode_density}
use Rattle.nanovdb.specs.Passed.{density_passed}
use Rattle.nanovdb.specs.Lent.{lent_fault, places_of, Answer, answer_of, decode_into}
use Rattle.text.specs.Lengths.{decimal_length, signed_length, sixteens_length}
use Rattle.report.specs.Report.{grid_word, nodes_word, box_word, back_word, root_word, refused_word, newline, number, coordinate, triple, bits}
use Rattle.report.specs.Report.{grid_line, nodes_line, box_line, back_line, root_line, root_lines, refused_line, long_line, lent, Says, grid_text}

-- the counts and the number of an answer that the code holds are u64
pub record Counted (a : Answer) : Type 0 where
  pub number : a.number < 2 ^ 64
  pub upper : a.upper < 2 ^ 64
  pub lower : a.lower < 2 ^ 64
  pub leaf : a.leaf < 2 ^ 64

-- 65,536 bytes hold what a text says of an accepted grid
abbrev pub Roomy : Says → Type 0
Roomy text = (b : List ℕ) → ((i : ℕ) → get_or b i 0 < 256) → length b ≤ 32768 → (t : Accepted) → decode_into decode_density b lent ≡ ok t
    → Counted (answer_of (ok t)) → (answer_of (ok t)).roots ≤ 999 → length (text (length b) t) ≤ 65536

-- l has at most n bytes
pub record Within (l : List ℕ) (n : ℕ) : Type 0 where
  pub most : length l ≤ n

pub within : (l : List ℕ) (n : ℕ) → length l ≤ n → Within l n
within l n h = record { most = h }

-- two texts, one after the other
pub both : {xs ys : List ℕ} {m n : ℕ} → Within xs m → Within ys n → Within (xs ++ ys) (m + n)
both {xs} {ys} h k = record { most = omega (arith, h.most, k.most, length-append xs ys) }

pub end : Within newline 1
end = within newline 1 (omega arith)

-- ---- the parts of a line

pub number_room : (n : ℕ) → n < 2 ^ 64 → Within (number n) 21
unfolding number
number_room n h = within (number n) 21 (omega (arith, decimal_length 20 n (omega arith) (omega arith)))

coordinate_room : (z : ℤ) → mag z < 2 ^ 31 → Within (coordinate z) 12
unfolding coordinate
coordinate_room z h = within (coordinate z) 12 (omega (arith, signed_length 10 z (omega arith) (omega arith)))

triple_room : (c : Coord) → Signed32 c → Within (triple c) 36
unfolding triple
triple_room c s = both (coordinate_room c.x s.x) (both (coordinate_room c.y s.y) (coordinate_room c.z s.z))

bits_room : (v : Float) → Within (bits v) 9
unfolding bits
bits_room v = within (bits v) 9 (omega (arith, sixteens_length 8 (to_bits binary32 v)))

-- ---- the lines

grid_room : (n : ℕ) → n < 2 ^ 64 → Within (grid_line n) 26
unfolding grid_line grid_word
grid_room n h = both (within grid_word 4 (omega arith)) (both (number_room n h) end)

nodes_room : (r u l f : ℕ) → r ≤ 999 → u < 2 ^ 64 → l < 2 ^ 64 → f < 2 ^ 64 → Within (nodes_line r u l f) 90
unfolding nodes_line nodes_word
nodes_room r u l f hr hu hl hf =
    both (within nodes_word 5 (omega arith))
    (both (number_room r (omega arith)) (both (number_room u hu) (both (number_room l hl) (both (number_room f hf) end))))

box_room : (m : Medium) → Signed32 m.index_low → Signed32 m.index_high → Within (box_line m) 76
unfolding box_line box_word
box_room m l h = both (within box_word 3 (omega arith)) (both (triple_room m.index_low l) (both (triple_room m.index_high h) end))

back_room : (v : Float) → Within (back_line v) 14
unfolding back_line back_word
back_room v = both (within back_word 4 (omega arith)) (both (bits_room v) end)

root_room : (c : Coord) (v : Float) → Signed32 c → Within (root_line c v) 50
unfolding root_line root_word
root_room c v s = both (within root_word 4 (omega arith)) (both (triple_room c s) (both (bits_room v) end))

roots_room : (g : Grid) (n : ℕ) → ((i : ℕ) → i < n → Signed32 (block_at g i)) → length (root_lines g n) ≤ 50 * n
unfolding root_lines
roots_room g zero h = omega arith
roots_room g (suc n) h =
    omega (
      arith,
      length-append (root_lines g n) (root_line (block_at g n) (get_or g.root_values n +0)),
      roots_room g n (λ i l. h i (omega arith)),
      (root_room (block_at g n) (get_or g.root_values n +0) (h n (omega arith))).most,
    )

pub refused_room : (n : ℕ) → n < 2 ^ 64 → Within (refused_line n) 29
unfolding refused_line refused_word
refused_room n h = both (within refused_word 7 (omega arith)) (both (number_room n h) end)

pub long_room : length long_line ≤ 65536
unfolding long_line
long_room = omega arith

-- ---- what an accepted grid holds

signed_mag : (u : ℕ) → u < 2 ^ 32 → mag (signed 32 u) < 2 ^ 31
unfolding signed
signed_mag u h = by_test (ltb u 2147483648) refl
  where
    by_test : (t : Bool) → ltb u 2147483648 ≡ t → mag (cond t (pos u) (negsuc (4294967296 - (u + 1)))) < 2147483648
    by_test true e = ltb-true u 2147483648 e
    by_test false e = omega (arith, ltb-false u 2147483648 e)

block_mag : (z : ℤ) → block_in z ≡ true → mag z < 2 ^ 31
block_mag (pos n) e = omega (arith, leb-true n 524287 e)
block_mag (negsuc n) e = omega (arith, leb→le n 524287 (and_l (leb n 524287) true (subst T (sym e) tt)))

low_corner : (b : List ℕ) → ((i : ℕ) → get_or b i 0 < 256) → Signed32 (medium_of b).index_low
unfolding medium_of
low_corner b h =
    let at = root_place b in
    record {
      x = signed_mag _ (u32_below b at h);
      y = signed_mag _ (u32_below b (at + 4) h);
      z = signed_mag _ (u32_below b (at + 8) h);
    }

high_corner : (b : List ℕ) → ((i : ℕ) → get_or b i 0 < 256) → Signed32 (medium_of b).index_high
unfolding medium_of
high_corner b h =
    let at = root_place b in
    record {
      x = signed_mag _ (u32_below b (at + 12) h);
      y = signed_mag _ (u32_below b (at + 16) h);
      z = signed_mag _ (u32_below b (at + 20) h);
    }

-- ---- the text of a grid

pub grid_text_room : Roomy grid_text
unfolding grid_text decode_into
grid_text_room b bytes size t e counted few =
    let g = t.grid in
    let q = (density_passed b (places_of lent) t (passing_ok (lent_fault lent) (decode_density b (places_of lent)) e).1).0 in
    let block : (i : ℕ) → i < length g.root_links → Signed32 (block_at g i) = λ i l.
    let m = (sound g q.valid).ranged i l in
    record { x = block_mag (block_at g i).x m.0; y = block_mag (block_at g i).y m.1; z = block_mag (block_at g i).z m.2 } in
    let low = subst (λ (m : Medium). Signed32 m.index_low) (sym q.medium) (low_corner b bytes) in
    let high = subst (λ (m : Medium). Signed32 m.index_high) (sym q.medium) (high_corner b bytes) in
    let roots = roots_room g (length g.root_links) block in
    let nodes =
    nodes_room (length g.root_links) (length g.upper_links / 32768) (length g.lower_links / 4096) (length g.leaf_values / 512)
    few counted.upper counted.lower counted.leaf in
    let all =
    both (grid_room (length b) (omega arith))
    (both nodes
    (both (box_room t.medium low high)
    (both (back_room g.background) (within (root_lines g (length g.root_links)) 49950 (omega arith))))) in
    omega (arith, all.most)
