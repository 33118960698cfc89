use borrow.Author.Rules.{rules}
use Rattle.std.proofs.Common.{◌≡◌, sym, ◌∙◌, arith, List, ℕ, ◌≤◌, ◌<◌}
use Rattle.foundation.specs.Tests.{true-le}
use Rattle.foundation.specs.Lists.{all_mem}
use Rattle.model.specs.declared.Authorization.{Authorization}
use Rattle.pieces.proofs.Putting.{makes_err}
use Rattle.withdrawal.specs.Times.{end_of, has_instant}
use Rattle.withdrawal.proofs.TimeFacts.{end-le, end-above, end_ordered}
use Rattle.withdrawal.proofs.Walks.{rounds-start, rounds-end, rounds-full}
use Rattle.withdrawal.proofs.rounds.withdraw.Goals as goal

-- a round ends behind where it begins, and not behind the end of time
ahead : (t u : ℕ) (xs : List Authorization) → t < 4294967296 → u ≡ end_of t xs 0 4294967296 →
    (t < u) × (u ≤ 4294967296)
ahead t u xs h e =
    let a = end-above t xs 0 4294967296 h in
    let l = end-le t xs 0 4294967296 in
    (omega arith, omega arith)

pub loop-t-init : goal.loop-t-init
loop-t-init c = (
  search rules,
  λ h. absurd (omega arith),
  c.clear.ensures ∙ rounds-start _ c.args.cut c.args.authorizations.now,
)

pub do_round-requires-clause-ordered : goal.do_round-requires-clause-ordered
do_round-requires-clause-ordered c =
    let h = ahead c.loop-t.t _ _ c.loop-t-test.true c.round_end-u.ensures.end in
    omega arith

pub do_round-requires-clause-sorted : goal.do_round-requires-clause-sorted
do_round-requires-clause-sorted c =
    (c.requires.sorted, end_ordered c.loop-t.t _ 0 4294967296 _ (sym c.round_end-u.ensures.end))

pub returns-in_err-do_round : goal.returns-in_err-do_round
returns-in_err-do_round c =
    makes_err _ _ _ c.from_residual.ensures.0
    (rounds-full _ c.args.cut c.args.authorizations.now _ c.in_err-do_round.ensures)

pub loop-t-smaller : goal.loop-t-smaller
loop-t-smaller c =
    let h = ahead c.loop-t.t _ _ c.loop-t-test.true c.round_end-u.ensures.end in
    omega arith

pub loop-t-preserved : goal.loop-t-preserved
loop-t-preserved c = (
  (ahead c.loop-t.t _ _ c.loop-t-test.true c.round_end-u.ensures.end).1,
  λ h. c.round_end-u.ensures.instants,
  c.in_ok-do_round.ensures,
)

pub returns : goal.returns
returns c =
    let l = c.loop-t in
    let t : l.t ≡ 4294967296 = omega arith in
    rounds-end _ c.args.cut c.args.authorizations.now l.t _
    (λ x m. rw t (true-le _ _ (all_mem has_instant _ (l.invariant.1 (omega arith)) x m))) l.invariant.2
