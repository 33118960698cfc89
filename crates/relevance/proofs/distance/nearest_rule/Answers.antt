use Rattle.std.proofs.Common.{ℕ, sym, subst, ◌∙◌, arith}
use Rattle.relevance.specs.Distance.{reached}
use Rattle.words.proofs.SetBitLoops.{Turn, turn, finished, place_start, place_turn}
use Rattle.relevance.proofs.Nearness.{MarksLeft, left_start, left_turn, left_end, reached_none}
use Rattle.relevance.proofs.distance.nearest_rule.Goals as goal
use Rattle.relevance.proofs.distance.nearest_rule.Goals.{In-Some, in-None, in-Some+then-k-r}

at : (c : In-Some) → Turn c.args.needed c.loop-r.yielded c.in-Some.r
at c = turn c.loop-r.r-iterator (cc) c.loop-r.yielded_by c.in-Some.ensures.steps

pub loop-r-init : goal.loop-r-init
loop-r-init c =
    let a = c.args in
    place_start a.needed _ (λ n z. subst (λ (d : ℕ). MarksLeft a.body.now a.k a.needed a.ends a.t d n)
    (sym (reached_none a.t 4294967295 (omega arith)))
    (left_start a.body.now a.k a.needed a.ends a.t n (λ j h. z j (omega arith) h)))

pub loop-r-preserved : goal.loop-r-preserved
loop-r-preserved c =
    let a = c.args in
    let l = c.loop-r in
    let q = c.rule_at-q in
    let n = c.nearer_mark-best in
    let t = at (goal.at.loop-r-preserved c).In-Some in
    place_turn _ _ t l.invariant (λ p r' g z. left_turn a.body.now a.k a.needed a.ends a.t (reached a.t l.best)
    (reached a.t n.result) c.in-Some.r r' q.result (omega arith) t.own q.ensures n.ensures (omega arith)
    (λ j h. z j (omega arith)) p)

pub returns : goal.returns
returns c =
    let a = c.args in
    let l = c.loop-r in
    c.mark_at.ensures ∙ elim c.match-next.branch [
      | in-None w ↦ left_end a.body.now a.k a.needed a.ends a.t (reached a.t l.best) 64 (omega arith)
          (l.invariant 64 (finished l.r-iterator (cc) l.yielded_by w.in-None.ensures.steps))
      | in-Some+then-k-r w ↦ let t = turn l.r-iterator (cc) l.yielded_by w.in-Some.ensures.steps in
          left_end a.body.now a.k a.needed a.ends a.t (reached a.t l.best) w.in-Some.r (omega (arith, w.if-k-r.true))
          (l.invariant w.in-Some.r t.passed)
    ]
