use borrow.Author.Rules.{rules}
use native.Mathlib.Omega.{arith}
use mathlib.Core.Path.{refl, sym, ◌∙◌}
use Rattle.cover.proofs.FirstFacts.{first_past}
use Rattle.cover.specs.Cover.{uncovered}
use Rattle.cover.proofs.SweepFacts.{sweep_passed, gap_hit, gap_skip}
use Rattle.cover.proofs.gap_from.Goals as goal

pub loop-t-init : goal.loop-t-init
loop-t-init c = (search rules, refl)

pub returns-then-u-t : goal.returns-then-u-t
returns-then-u-t c =
    let a = c.args in
    let l = c.loop-t in
    sym (l.invariant.1 ∙ gap_hit a.w a.authorizations.now l.t a.b (search rules)
    (rw c.if-u-t.true at (sweep_passed a.w a.b _ _ _ c.sweep-u.ensures (search rules))))

pub loop-t-smaller : goal.loop-t-smaller
loop-t-smaller c =
    let p = sweep_passed c.args.w c.args.b _ _ _ c.sweep-u.ensures (search rules) in
    omega (arith, p.reached.low)

pub loop-t-preserved : goal.loop-t-preserved
loop-t-preserved c =
    let a = c.args in
    let l = c.loop-t in
    let p = (sweep_passed a.w a.b _ _ _ c.sweep-u.ensures (search rules)).reached in (
      omega (arith, p.low),
      l.invariant.1 ∙ gap_skip a.w a.authorizations.now l.t a.b _ (search rules) p,
    )

pub returns : goal.returns
returns c =
    let a = c.args in
    let l = c.loop-t in
    sym (l.invariant.1 ∙ first_past (uncovered a.w a.authorizations.now) l.t a.b (search rules))
