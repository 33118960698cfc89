use borrow.Author.Rules.{rules}
use Rattle.std.proofs.Common.{◌≡◌, sym, ◌∙◌, arith, List, ◌∷◌, ℕ, suc, ◌<◌}
use Rattle.std.proofs.lemmas.List.{at_drop_all}
use Rattle.foundation.specs.Tests.{le-true}
use Rattle.foundation.specs.Lists.{allb}
use Rattle.model.specs.declared.Authorization.{Authorization}
use Rattle.withdrawal.specs.Times.{end_of, pull_of, raise_of, has_instant}
use Rattle.withdrawal.proofs.TimeFacts.{end_cons, end_nil}
use Rattle.withdrawal.proofs.rounds.round_end.Goals as goal

-- a turn, over the rest a ∷ xs of ys
turn : (t top d r u : ℕ) (ys xs : List Authorization) (a : Authorization) → ys ≡ a ∷ xs →
    r ≡ raise_of t a.head.granted top → u ≡ pull_of t a.head.granted top d →
    end_of t ys top d ≡ end_of t xs r u
turn t top d r u ys xs a e q p = rw (e, q, p) (end_cons t a xs top d)

counted : (ys xs : List Authorization) (a : Authorization) → ys ≡ a ∷ xs → a.head.granted < 4294967296 →
    allb has_instant ys ≡ allb has_instant xs
counted ys xs a e h = rw (e, le-true (suc a.head.granted) 4294967296 h)

pub loop-i-preserved : goal.loop-i-preserved
loop-i-preserved c =
    let l = c.loop-i.invariant in (
      search rules,
      l.1 ∙ turn _ _ _ _ _ _ _ _ c.get-g.ensures c.raise-top.ensures c.pull-d.ensures,
      l.2 ∙ counted _ _ _ c.get-g.ensures (omega arith),
    )

pub returns-clause-end : goal.returns-clause-end
returns-clause-end c =
    let a = c.args in
    let l = c.loop-i in
    sym (l.invariant.1
    ∙ at_drop_all (λ (xs : List Authorization). end_of a.t xs l.top l.d) a.authorizations.now l.i (omega arith)
    ∙ end_nil a.t l.top l.d)
