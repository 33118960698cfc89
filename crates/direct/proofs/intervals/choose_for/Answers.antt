use native.Mathlib.Omega.{arith}
use Rattle.relevance.proofs.KeptNumbers.{number-inside, chose_turn, chose-loop}
use Rattle.direct.specs.Among.{is_for}
use Rattle.direct.proofs.intervals.choose_for.Goals as goal

pub is_for_at-requires : goal.is_for_at-requires
is_for_at-requires c =
    let s = c in (
      number-inside c.loop-i.i s.args.total s.args.lines.now (omega arith) s.requires.0,
      s.requires.3,
      s.requires.4,
    )

pub loop-i-preserved : goal.loop-i-preserved
loop-i-preserved c =
    let s = c in
    let a = s.args in
    let l = c.loop-i in
    chose_turn (is_for a.x) a.lines.now a.total a.which.now l.which l.n l.i
    c.counted-n.result c.is_for_at.result l.invariant (omega arith) s.requires.1
    c.is_for_at.ensures c.counted-n.ensures

pub loop-i-init : goal.loop-i-init
loop-i-init = λ c. search chose-loop

pub bounds-which-n : goal.bounds-which-n
bounds-which-n = λ c. search chose-loop

pub counted-n-requires : goal.counted-n-requires
counted-n-requires = λ c. search chose-loop

pub returns : goal.returns
returns = λ c. search chose-loop
