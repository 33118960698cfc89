use Rattle.std.proofs.Common.{sym, ap, ◌∙◌, arith}
use Rattle.std.proofs.lemmas.List.{get_or-take, length-take-le}
use Rattle.marks.specs.NextMarks.{sooner}
use Rattle.relevance.specs.Chosen.{authorization_at}
use Rattle.relevance.specs.Distance.{edge}
use Rattle.relevance.proofs.Nearness.{line_turn_lem, line_none, reached_none}
use Rattle.relevance.proofs.distance.nearest_line.Goals as goal

pub loop-w-init : goal.loop-w-init
loop-w-init c =
    let a = c.args in
    reached_none a.t 4294967295 (omega arith) ∙ sym (line_none a.lines.now a.which.now a.ends a.t 4294967296)

pub loop-w-preserved : goal.loop-w-preserved
loop-w-preserved c =
    let a = c.args in
    let l = c.loop-w in
    let r = c.authorization_at-a in
    let n = length-take-le a.n a.which.now c.requires.room in
    c.nearer_mark-best.ensures
    ∙ ap (sooner a.t (edge a.ends r.result.interval)) l.invariant
    ∙ sym (line_turn_lem a.lines.now a.which.now a.ends a.t 4294967296 l.w-index r.result
    (omega arith) (r.ensures ∙ ap (authorization_at a.lines.now) (get_or-take a.n a.which.now l.w-index 0 (omega arith))))
