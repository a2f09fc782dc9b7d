-- The heading, and the rows below it.
use Rattle.sheet.proofs.Whole.{page_is}
use Rattle.sheet.proofs.lines.Layer.put_page.Goals as goal

pub returns : goal.returns
returns c =
    let s = c.args.self in
    page_is s.x s.y c.args.k s.figures.now s.most c.put_head.ensures c.put_rows.ensures
