-- Every place of a cell goes by the entry of its first one.
use Rattle.std.proofs.Common.{◌≡◌, ℕ, ◌+◌, ◌*◌, ◌/◌, ◌%◌, sym, ap, ◌∙◌, arith}
use Rattle.float.specs.Zero.{+0}
use Rattle.sparse_grid.specs.declared.Entry.{Entry}
use Rattle.sparse_grid.specs.Tables.{Grid, entry_at}
use Rattle.sparse_grid.specs.Record.{as_grid}
use Rattle.boxes.specs.RangeMax.{entry_read, lower_read, upper_read, upper_slot}
use Rattle.boxes.proofs.NodeCells.{upper_same, child_link}
use Rattle.walk.specs.Gather.{At}
use Rattle.majorant.specs.Walks.{Within, zone_of}
use Rattle.majorant.specs.declared.part.Part as Code
use Rattle.majorant.specs.NodeSums.{upper_child, upper_tile}
use Rattle.majorant.proofs.Walked.{from_128, still_fit, with_reads}
use Rattle.majorant.proofs.nodes.UpperCells.cell.Goals as goal

module _ (g : Grid) (k : ℕ) (p : Code.Part) (w : Within 128 128 128 p) where
  abbrev here : Entry
  here = entry_at g.upper_links g.upper_values (upper_slot k p.x.lo p.y.lo p.z.lo)

  -- the entry that the code reads
  is_here : {e : Entry} {i : ℕ} → i ≡ (p.x.lo % 4096 / 128 * 32 + p.y.lo % 4096 / 128) * 32 + p.z.lo % 4096 / 128
      → e ≡ entry_at g.upper_links g.upper_values (32768 * k + i) → here ≡ e
  is_here h e = ap (λ (i : ℕ). entry_at g.upper_links g.upper_values (32768 * k + i)) (sym h) ∙ sym e

  by_entry : {e : Entry} → here ≡ e → (a b c : ℕ) → At (zone_of p) a b c
      → upper_read g.upper_links g.upper_values g.lower_links g.lower_values g.leaf_values k a b c
      ≡ entry_read e (λ j. lower_read g.lower_links g.lower_values g.leaf_values j a b c)
  by_entry h a b c t =
      upper_same p.x p.y p.z g.upper_links g.upper_values g.lower_links g.lower_values g.leaf_values k w.x_in w.y_in w.z_in a b c t
      ∙ ap (λ (d : Entry). entry_read d (λ j. lower_read g.lower_links g.lower_values g.leaf_values j a b c)) h

pub entry-requires : goal.entry-requires
entry-requires g c =
    let h = c.requires.0.room in
    record { link = omega (arith, c.table_index.ensures); value = omega (arith, c.table_index.ensures, c.requires.0.tables.upper) }

pub tile-requires : goal.tile-requires
tile-requires g c =
    let p = c.args.part in
    let w = c.requires.1 in
    (from_128 w, still_fit g.G.Gather.laws (λ x y z. +0) p w.full c.upper.ensures c.requires.2)

pub returns-in-Tile : goal.returns-in-Tile
returns-in-Tile g c =
    let a = c.args in
    let w = c.requires.1 in
    let t = as_grid a.self.now.grid.now in
    let e = is_here t a.self.now.k a.part w c.table_index.ensures c.in-Tile.ensures in
    with_reads g.G.Gather.laws _ a.part w.full c.upper.ensures c.requires.2 _
    (upper_tile t.upper_links t.upper_values t.lower_links t.lower_values a.self.now.k a.part w e)
    (c.tile.ensures _ (by_entry t a.self.now.k a.part w e))

pub all-requires : goal.all-requires
all-requires g c =
    let a = c.args in
    let w = c.requires.1 in
    let t = as_grid a.self.now.grid.now in
    let i = 32768 * a.self.now.k + c.table_index.result in
    let l = child_link t.upper_links t.upper_values i (sym c.in-Child.ensures) in
    let h = c.requires.0.tables in (
      record { room = omega (arith, h.upper_linked i, l); pair = h.lower; linked = h.lower_linked },
      w,
      still_fit g.G.Gather.laws (λ x y z. +0) a.part w.full c.upper.ensures c.requires.2,
    )

pub returns-in-Child : goal.returns-in-Child
returns-in-Child g c =
    let a = c.args in
    let w = c.requires.1 in
    let t = as_grid a.self.now.grid.now in
    let s = g.G.Gather.laws in
    let e = is_here t a.self.now.k a.part w c.table_index.ensures c.in-Child.ensures in
    with_reads s _ a.part w.full c.upper.ensures c.requires.2 _ (upper_child t.upper_links t.upper_values t.lower_links t.lower_values a.self.now.k a.part w e)
    (s.same _ _ _ _ _ _ (λ x y z h. sym (by_entry t a.self.now.k a.part w e x y z h)) c.all.ensures)
