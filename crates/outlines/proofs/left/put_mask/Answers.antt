use Rattle.masks.proofs.Puts.{put-bit}
use Rattle.outlines.proofs.left.put_mask.Goals as goal

pub returns : goal.returns
returns c =
    let a = c.args in
    let p = c.requires in
    λ w r. put-bit a.left.now a.at a.i w r p.0 p.1
