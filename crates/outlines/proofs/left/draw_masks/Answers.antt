use Rattle.outlines.proofs.Masking.{written}
use Rattle.outlines.proofs.left.draw_masks.Goals as goal

pub returns : goal.returns
returns c =
    let m = c in
    let l = m in
    let k = l in
    let g = k in
    let b = g in
    written b.args.n b.args.subjects b.args.sides.now b.requires.2 b.requires.1
    g.gather.new.left k.spread.new.left l.spread-2.new.left m.spread-3.new.left g.gather.ensures
    k.spread.ensures
    l.spread-2.ensures m.spread-3.ensures
