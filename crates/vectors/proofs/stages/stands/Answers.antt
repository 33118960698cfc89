use Rattle.std.proofs.Common.{sym, ◌∙◌}
use Rattle.vectors.specs.Transcripts.{line_stands}
use Rattle.vectors.proofs.LineWalks.{marked_long}
use Rattle.vectors.proofs.stages.stands.Goals as goal

pub tells_owed-requires : goal.tells_owed-requires
tells_owed-requires c =
    marked_long 60 c.args.line.now
    (sym c.marked.ensures ∙ c.if-marked.true)

pub returns-then-marked : goal.returns-then-marked
unfolding line_stands
returns-then-marked c = rw (sym c.marked.ensures ∙ c.if-marked.true) c.tells_owed.ensures

pub returns : goal.returns
unfolding line_stands
returns c =
    let e = c in
    rw (sym e.marked.ensures ∙ e.if-marked.false, c.marked-2.ensures, c.marked-3.ensures)
