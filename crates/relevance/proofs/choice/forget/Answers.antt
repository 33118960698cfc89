use Rattle.std.proofs.Common.{leb, get_or, refl, arith}
use Rattle.relevance.proofs.KeptNumbers.{forgot_turn, forget-loop}
use Rattle.relevance.proofs.choice.forget.Goals as goal

pub loop-i-preserved : goal.loop-i-preserved
loop-i-preserved c =
    let b = c in
    let a = b.args in
    let l = c.loop-i in
    let r = c.authorization_at-a in
    forgot_turn a.lines.now a.n a.t a.which.now l.which l.kept l.i
    (get_or l.which l.i 0) c.counted-kept.result r.result (leb a.t r.result.interval.end)
    l.invariant
    (omega arith) b.requires.room refl r.ensures refl c.counted-kept.ensures

pub loop-i-init : goal.loop-i-init
loop-i-init = λ c. search forget-loop

pub bounds-which-i : goal.bounds-which-i
bounds-which-i = λ c. search forget-loop

pub authorization_at-a-requires : goal.authorization_at-a-requires
authorization_at-a-requires = λ c. search forget-loop

pub bounds-which-kept : goal.bounds-which-kept
bounds-which-kept = λ c. search forget-loop

pub counted-kept-requires : goal.counted-kept-requires
counted-kept-requires = λ c. search forget-loop

pub returns : goal.returns
returns = λ c. search forget-loop
