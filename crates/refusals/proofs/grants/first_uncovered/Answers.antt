use Rattle.std.proofs.Common.{sym, ◌∙◌, subst, List, suc, ◌&&◌, eqb}
use Rattle.foundation.specs.Tests.{or_false}
use Rattle.model.specs.declared.Authorization.{Authorization}
use Rattle.model.specs.Encoding.{decode}
use Rattle.model.specs.Requests.{GRANT, new_head}
use Rattle.cover.specs.Gaps.{GapIs}
use Rattle.refusals.proofs.AskedFacts.{uncovered_is}
use Rattle.refusals.proofs.grants.first_uncovered.Goals as goal

pub returns : goal.returns
returns c =
    let b = decode c.args.base.now.bytes.now in
    let q = c.args.q in
    let h = new_head (suc b.last) q in
    uncovered_is b q (sym c.is_grant.ensures ∙ c.if-not-is_grant.false)
    (sym c.controls.ensures ∙ c.if-controls.false)
    c.first_gap.result
    (subst (λ (xs : List Authorization). GapIs xs h q.interval c.first_gap.result) c.authorizations.ensures
    (c.first_gap.ensures.model h (λ k. record {
      object = q.object;
      mode = q.mode;
      grantor = q.requester;
      option = sym (or_false (eqb q.kind GRANT)) k && q.option;
      before = q.now;
    })))
