use mathlib.Core.Path.{refl}
use mathlib.Core.List.{[], ◌∷◌}
use Rattle.model.specs.Requests.{REVOKEREF}
use Rattle.effects.proofs.AllowedEffects.{allowed-written}
use Rattle.effects.proofs.Changes.{named-fits, revoke_ready, revoke_holds, revoke_done}
use Rattle.effects.proofs.revoke_referrer.Goals as goal

pub named_privilege-p-requires : goal.named_privilege-p-requires
named_privilege-p-requires c = named-fits (REVOKEREF ∷ []) _ _ c.requires refl refl

pub set_clock-requires : goal.set_clock-requires
set_clock-requires c = allowed-written (REVOKEREF ∷ []) _ _
    c.requires

pub take_privilege-requires : goal.take_privilege-requires
take_privilege-requires c =
    let p = c in
    let n = p in
    let d = n in
    revoke_ready d.args.s.now d.args.q d.requires _ n.named_privilege-p.ensures _
    p.set_clock.ensures

pub drop_rules-requires : goal.drop_rules-requires
drop_rules-requires c =
    let t = c in
    let p = t in
    let n = p in
    let d = n in
    (revoke_holds d.args.s.now d.args.q d.requires _ n.named_privilege-p.ensures _
    p.set_clock.ensures _
    t.take_privilege.ensures).written

pub returns : goal.returns
returns c =
    let r = c in
    let t = r in
    let p = t in
    let n = p in
    let d = n in
    revoke_done d.args.s.now d.args.q d.requires _ n.named_privilege-p.ensures _
    p.set_clock.ensures _
    t.take_privilege.ensures p.administers-administers.result
    p.administers-administers.ensures _
    r.drop_rules.ensures
