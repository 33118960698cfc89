use Rattle.std.proofs.Common.{arith, ◌∙◌, sym, ap, length-set}
use Rattle.std.proofs.lemmas.List.{take_more_set, map_more}
use Rattle.rules.specs.Edges.{shown, best_of}
use Rattle.rules.specs.declared.row.Row.{Row}
use Rattle.rules.proofs.ranks.next_ranks.Goals as goal

pub loop-j-preserved : goal.loop-j-preserved
loop-j-preserved c =
    let l = c.loop-j in
    let best = c.best_of.ensures ∙ ap (λ (row : Row). best_of c.args.ranks.now (shown row)) c.index-rows-j.is in (
      length-set l.next l.j c.best_of.result ∙ l.invariant.0,
      take_more_set l.next l.j c.best_of.result (omega (arith, c.requires.0, c.loop-j-test.true, l.invariant.0))
          ∙ rw (l.invariant.1, best) (sym (map_more _ c.args.rows.now l.j c.index-rows-j.result c.loop-j-test.true)),
    )
