-- A tile counts for the coordinates that it covers.
use Rattle.walk.specs.TalliedLaws.{one_value, ready_value}
use Rattle.majorant.proofs.class_walk.ClassesGather.tile.Goals as goal

pub add-requires : goal.add-requires
add-requires c = let h = ready_value c.size.result c.requires.1 c.size.ensures in (h.0, h.1, h.2)

pub returns : goal.returns
returns c f same = record {
  limits = c.add.ensures.0;
  long = c.add.ensures.1;
  added = one_value c.args.value c.size.result same c.size.ensures c.add.ensures.2;
}
