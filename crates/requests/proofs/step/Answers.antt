use mathlib.Core.Path.{ap, subst, ◌∙◌}
use Rattle.model.specs.Answers.{answering}
use Rattle.model.specs.Encoding.{decode}
use Rattle.refusals.specs.Early.{early_is}
use Rattle.revocation.specs.CarriedOut.{PassesEarly}
use Rattle.requests.proofs.EarlyReplies.{refusal_answered}
use Rattle.revocation.proofs.CarriedFacts.{passed_answered}
use Rattle.requests.proofs.step.Goals.{In-Ok}
use Rattle.requests.proofs.step.Goals as goal

passed : (c : In-Ok) → PassesEarly c.args.s.now c.args.q
passed c = record {
  sound = c.requires;
  early = subst (early_is (decode c.args.s.now) c.args.q) c.in-Ok.is c.refuse_early.ensures;
}

pub carry_out-requires : goal.carry_out-requires
carry_out-requires c = passed (goal.at.carry_out-requires c).In-Ok

pub returns-in-Err : goal.returns-in-Err
returns-in-Err c =
    let a = c.args in
    ap (λ r. answering r a.s.now) c.from.ensures
    ∙ refusal_answered a.s.now a.q c.requires c.in-Err.refusal
    (subst (early_is (decode a.s.now) a.q) c.in-Err.is c.refuse_early.ensures)

pub returns-in-Ok : goal.returns-in-Ok
returns-in-Ok c =
    let d = (goal.at.returns-in-Ok c).In-Ok in
    passed_answered c.args.s.now c.args.q (passed d) c.carry_out.result c.carry_out.new.s c.carry_out.ensures
