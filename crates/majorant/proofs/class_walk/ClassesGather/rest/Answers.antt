-- The rest of a box is the background's.
use Rattle.std.proofs.Common.{◌≡◌, List, get_or, ◌∙◌, subst, arith}
use lib.Ieee.{Float}
use Rattle.sparse_grid.specs.Record.{as_grid}
use Rattle.walk.specs.Gather.{tally}
use Rattle.walk.specs.Tallied.{is_class}
use Rattle.boxes.specs.RangeMax.{read_at}
use Rattle.majorant.specs.Walks.{zone_of}
use Rattle.majorant.specs.Gone.{rest_fits, rest_room, gone_all}
use Rattle.majorant.proofs.class_walk.ClassesGather.rest.Goals as goal

pub overflow_sub-all : goal.overflow_sub-all
overflow_sub-all c = let r = c.requires in rest_fits r.0 r.2 r.3.1.gone _ c.size-all.ensures

pub add-requires : goal.add-requires
add-requires c =
    let r = c.requires in
    let a = r.3.1 in
    let room = rest_room r.0 r.2 a.gone _ c.size-all.ensures in (a.few, a.long, λ k K. omega (arith, room k K))

pub returns : goal.returns
returns c s a =
    let r = c.requires in
    let g = as_grid c.args.grid.now in (
      c.add.ensures.1 ∙ a.long,
      λ k K. subst (λ (m : List Float). get_or c.add.new.self.counts k 0 ≡ tally (is_class m (read_at g) k) (zone_of c.args.of)) a.limits
          (gone_all r.0 r.2 a.gone c.add.new.self.counts _ _ (omega arith) c.size-all.ensures c.add.ensures.2 k K),
    )
