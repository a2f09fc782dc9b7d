-- What is counted by biased coordinates is counted of the box.
use Rattle.std.proofs.Common.{◌≡◌, ℕ, zero, suc, get_or, replicate, refl, sym, ap, ◌∙◌}
use Rattle.sparse_grid.specs.Record.{as_grid}
use Rattle.sparse_grid.specs.Sound.{sound}
use Rattle.majorant.specs.declared.class_walk.Classes as Classes
use Rattle.majorant.proofs.Corners.{filled}
use Rattle.majorant.proofs.Classing.{sides_few, counts_are, counts_none}
use Rattle.majorant.proofs.classes.box_classes.Goals as goal
use Rattle.majorant.proofs.classes.box_classes.Goals.{then-not-is_empty, else-not-is_empty}

zeros : (n k : ℕ) → ◌≡◌ {A = ℕ} (get_or (replicate n 0) k 0) 0
zeros zero k = refl
zeros (suc n) zero = refl
zeros (suc n) (suc k) = zeros n k

pub walk_roots-requires : goal.walk_roots-requires
walk_roots-requires c = (
  sound (as_grid c.args.grid.now) c.requires.0,
  filled c.of-part.ensures (sym c.if-not-is_empty.ensures),
  sides_few c.of-part.ensures c.requires.1,
  (c.requires.2, refl, λ k l. zeros 17 k),
)

pub returns-clause-counts : goal.returns-clause-counts
returns-clause-counts c k l =
    let t = as_grid c.args.grid.now in
    let ls = c.args.limits.now in
    elim c.if-not-is_empty.branch [
      | then-not-is_empty w ↦ ap (λ (s : Classes.Classes). get_or s.counts k 0) w.classes-is ∙ w.walk_roots.ensures.1 k l
          ∙ sym (counts_are c.of-part.ensures t ls k)
      | else-not-is_empty w ↦ ap (λ (s : Classes.Classes). get_or s.counts k 0) w.classes-is ∙ zeros 17 k
          ∙ sym (counts_none c.of-part.ensures t ls k (sym w.if-not-is_empty.ensures))
    ]
