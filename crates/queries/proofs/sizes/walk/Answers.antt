use Rattle.queries.proofs.TableWalks.{walk_ready, walk_finds}
use Rattle.queries.proofs.sizes.walk.Goals as goal

pub walk_windows-requires : goal.walk_windows-requires
walk_windows-requires g c =
    let p = c.requires in
    walk_ready g.row.N (p.0, p.2, p.3) c.broken_words.ensures c.sized-g.ensures

pub returns : goal.returns
returns g c =
    let p = c.requires in
    walk_finds g.row.N (p.0, p.2, p.3) c.broken_words.ensures c.sized-g.ensures c.walk_windows.ensures
