use borrow.Author.Rules.{rules}
use Rattle.std.proofs.Common.{arith}
use Rattle.std.proofs.lemmas.List.{drop_all}
use Rattle.pieces.proofs.Putting.{makes_err}
use Rattle.withdrawal.proofs.Walks.{walk_start, walk-pos, walk_end, walk_next, walk-full}
use Rattle.withdrawal.proofs.rounds.do_round.Goals as goal

pub loop-i-init : goal.loop-i-init
loop-i-init c =
    let p = c.requires in
    (search rules, walk_start _ _ _ _ _ _ p.sorted.0 p.sorted.1 p.built)

pub take_turn-requires : goal.take_turn-requires
take_turn-requires c = walk-pos _ _ _ _ _ _ _ _ c.loop-i.invariant.1

pub returns-in_err-pos : goal.returns-in_err-pos
returns-in_err-pos c =
    makes_err _ _ _ c.from_residual.ensures.0
    (walk-full _ _ _ _ _ _ _ _ c.loop-i.invariant.1 c.requires.ordered c.requires.cut_ordered _ (omega arith) _
    c.get.ensures c.in_err-pos.ensures)

pub loop-i-preserved : goal.loop-i-preserved
loop-i-preserved c = (
  search rules,
  walk_next _ _ _ _ _ _ _ _ c.loop-i.invariant.1 c.requires.ordered c.requires.cut_ordered _ (omega arith) _
      c.get.ensures _ _ c.in_ok-pos.ensures,
)

pub returns : goal.returns
returns c =
    walk_end _ _ _ _ _ _ _ _ c.loop-i.invariant.1 (drop_all c.loop-i.i c.args.authorizations.now (omega arith))
