use Rattle.std.proofs.Common.{sym, ◌∙◌, arith}
use Rattle.model.specs.Requests.{before}
use Rattle.effects.proofs.PrivilegePlaces.{first-starts, first_found, first-later, first_ends}
use Rattle.effects.proofs.privileges.privilege_index.Goals as goal

pub loop-i-init : goal.loop-i-init
loop-i-init c = first-starts (before c.args.p) c.args.privileges.now

pub returns-then-is_before : goal.returns-then-is_before
returns-then-is_before c =
    first_found (before c.args.p) c.args.privileges.now c.loop-i.i _ (omega (arith, c.len-n.ensures)) c.get.ensures
    (sym c.is_before.ensures ∙ c.if-is_before.true) c.loop-i.invariant

pub loop-i-preserved : goal.loop-i-preserved
loop-i-preserved c =
    first-later (before c.args.p) c.args.privileges.now c.loop-i.i _ (omega (arith, c.len-n.ensures)) c.get.ensures
    (sym c.is_before.ensures ∙ c.if-is_before.false) c.loop-i.invariant

pub returns : goal.returns
returns c =
    c.len-n.ensures ∙ omega (arith, c.loop-i.invariant.0, first_ends (before c.args.p) c.args.privileges.now c.loop-i.i (omega (arith, c.len-n.ensures)) c.loop-i.invariant)
