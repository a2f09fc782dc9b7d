-- The values of a row stand one after the other in the table.
use Rattle.std.proofs.Common.{◌≡◌, ℕ, ◌+◌, ◌-◌, ◌*◌, ◌<◌, ◌%◌, List, take, drop, get_or, length-take, sym, ap, ◌∙◌, arith}
use Rattle.std.proofs.lemmas.List.{get_or-take, get_or-drop}
use lib.Ieee.{Float}
use Rattle.float.specs.Zero.{+0}
use Rattle.boxes.specs.RangeMax.{leaf_read}
use Rattle.majorant.proofs.nodes.LeafNode.row.Goals as goal

reads : (t : List Float) (k x y z i n s : ℕ) → i < n → s ≡ 512 * k + ((x % 8 * 8 + y % 8) * 8 + z % 8) → (z + i) % 8 ≡ z % 8 + i
    → leaf_read t k x y (z + i) ≡ get_or (take n (drop s t)) i +0
unfolding leaf_read
reads t k x y z i n s h e w = ap (λ (j : ℕ). get_or t j +0) (omega arith) ∙ sym (get_or-take n (drop s t) i +0 h ∙ get_or-drop s t i +0)

pub returns : goal.returns
returns g c =
    let a = c.args in
    let s : ℕ = 512 * a.self.now.k + c.table_index.result in
    let z = c.requires.1.z_in in
    c.row.ensures _ (λ i h.
    let l = length-take (s + (a.part.z.hi - a.part.z.lo) - s) (drop s a.self.now.values.now) in
    let m : i < a.part.z.hi - a.part.z.lo = omega arith in
    reads a.self.now.values.now a.self.now.k a.part.x.lo a.part.y.lo a.part.z.lo i _ s (omega arith) (omega (arith, c.table_index.ensures)) (omega arith))
