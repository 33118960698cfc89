use mathlib.Core.Path.{◌≡◌, refl, sym, ◌∙◌}
use mathlib.Core.List.{[], ◌∷◌}
use Rattle.model.specs.Requests.{GRANTADM, GRANTREF, insert}
use Rattle.model.specs.Encoding.{decode}
use Rattle.model.specs.Means.{plainly}
use Rattle.model.specs.Step.{effect}
use Rattle.edits.specs.Edits.{with_stamp, with_privileges, privileges_of}
use Rattle.effects.proofs.AllowedEffects.{allowed-written, effect-privilege}
use Rattle.effects.proofs.Changes.{named-fits, put-room, put-done}
use Rattle.effects.proofs.grant_privilege.Goals as goal

pub set_clock-requires : goal.set_clock-requires
set_clock-requires c = allowed-written (GRANTADM ∷ GRANTREF ∷ []) _ _ c.requires

pub named_privilege-requires : goal.named_privilege-requires
named_privilege-requires c = named-fits (GRANTADM ∷ GRANTREF ∷ []) _ _
    c.requires refl refl

pub insert_in_order-requires : goal.insert_in_order-requires
insert_in_order-requires c =
    let effects : effect plainly (decode c.args.s.now) c.args.q ≡ with_privileges c.privilege_body_of.result (insert c.named_privilege.result (privileges_of c.privilege_body_of.result (decode c.args.s.now))) (with_stamp c.args.q.now (decode c.args.s.now).last (decode c.args.s.now)) =
    let d = c in
    let b = decode d.args.s.now in
    effect-privilege b d.args.q d.requires.kind
    ∙ (λ j. with_privileges (sym c.privilege_body_of.ensures j)
    (insert (sym c.named_privilege.ensures j)
    (privileges_of (sym c.privilege_body_of.ensures j) b))
    (with_stamp d.args.q.now b.last b)) in
    let p = c in
    let d = p in
    put-room (GRANTADM ∷ GRANTREF ∷ []) d.args.s.now d.args.q d.requires _ p.set_clock.ensures
    c.privilege_body_of.result _ (effects)

pub returns : goal.returns
returns c =
    let effects : effect plainly (decode c.args.s.now) c.args.q ≡ with_privileges c.privilege_body_of.result (insert c.named_privilege.result (privileges_of c.privilege_body_of.result (decode c.args.s.now))) (with_stamp c.args.q.now (decode c.args.s.now).last (decode c.args.s.now)) =
    let d = c in
    let b = decode d.args.s.now in
    effect-privilege b d.args.q d.requires.kind
    ∙ (λ j. with_privileges (sym c.privilege_body_of.ensures j)
    (insert (sym c.named_privilege.ensures j)
    (privileges_of (sym c.privilege_body_of.ensures j) b))
    (with_stamp d.args.q.now b.last b)) in
    let r = c in
    let o = r in
    let p = o in
    let d = p in
    put-done (GRANTADM ∷ GRANTREF ∷ []) d.args.s.now d.args.q d.requires _ p.set_clock.ensures
    o.privilege_body_of.result _ (effects) _
    r.insert_in_order.ensures
