use native.Mathlib.Omega.{arith}
use mathlib.Core.Path.{ap, subst}
use mathlib.Core.Logic.{inl}
use mathlib.Core.Bool.{◌&&◌, ◌||◌, false≢true}
use Prim.Native.Nat.{◌≤◌}
use lib.Dec.{leb, ltb}
use Rattle.foundation.specs.Tests.{or_none}
use Rattle.foundation.specs.declared.Interval.{Interval}
use Rattle.model.specs.declared.Rule.{Rule}
use Rattle.words.proofs.SetBitLoops.{Turn, turn, finished, each_turn, each_end}
use Rattle.selection.proofs.Seen.{Seen, Idle, idle}
use Rattle.selection.proofs.history.history_start.Goals as goal
use Rattle.selection.proofs.history.history_start.Goals.{In-Some}

at : (c : In-Some) → Turn c.args.lasting c.loop-r.yielded c.in-Some.r
at c = turn c.loop-r.r-iterator (cc) c.loop-r.yielded_by c.in-Some.ensures.steps

pub loop-r-init : goal.loop-r-init
loop-r-init c = (omega arith, λ i e. absurd (false≢true e))

pub rule_at-q-requires : goal.rule_at-q-requires
rule_at-q-requires c = (c.requires c.in-Some.r (at (goal.at.rule_at-q-requires c).In-Some).own).1

pub loop-r-preserved : goal.loop-r-preserved
loop-r-preserved c =
    let q = c.rule_at-q in
    let l = c.loop-r in
    let a = c.args in
    let m = c.min-least in
    let low : (m.result ≤ l.least) × (m.result ≤ q.result.interval.start) =
    (omega (arith, m.ensures), omega (arith, m.ensures)) in
    let test = ltb q.result.interval.start a.t && leb a.t q.result.interval.end in
    let seen = Seen a.body.now a.t in
    let own = ap (λ (x : Rule). x.interval) q.ensures in (
      omega (arith, low.0, l.invariant.0),
      each_turn (seen l.least l.back) (seen m.result (l.back || test)) (at (goal.at.loop-r-preserved c).In-Some)
          l.invariant.1
          (λ i h f. (omega (arith, f.0, low.0), λ z. f.1 (or_none l.back test z).0)) (
            omega (arith, low.1, ap (λ (x : Interval). x.start) own),
            λ z. subst (λ (x : Interval). Idle x a.t) own (idle q.result.interval a.t
                (or_none l.back test z).1),
          ),
    )

pub returns-then-back : goal.returns-then-back
returns-then-back c =
    let l = c.loop-r in
    let seen = each_end _ (Seen c.args.body.now c.args.t l.least l.back) (omega arith)
    (finished l.r-iterator (cc) l.yielded_by c.in-None.ensures.steps) l.invariant.1 in
    (l.invariant.0, λ r e. inl (seen r e).0)

pub returns-else-back : goal.returns-else-back
returns-else-back c =
    let l = c.loop-r in
    let seen = each_end _ (Seen c.args.body.now c.args.t l.least l.back) (omega arith)
    (finished l.r-iterator (cc) l.yielded_by c.in-None.ensures.steps) l.invariant.1 in
    (omega arith, λ r e. (seen r e).1 c.if-back.false)
