use mathlib.Core.Path.{◌≡◌, refl, sym, ◌∙◌}
use mathlib.Core.List.{[], ◌∷◌}
use Rattle.model.specs.Requests.{NEW, insert}
use Rattle.model.specs.Encoding.{decode}
use Rattle.model.specs.Means.{plainly}
use Rattle.model.specs.Step.{effect}
use Rattle.edits.specs.declared.PrivilegeBody.TheVariants.{Objects}
use Rattle.edits.specs.Edits.{with_stamp, with_privileges, privileges_of}
use Rattle.effects.proofs.AllowedEffects.{allowed-written, effect-object}
use Rattle.effects.proofs.Changes.{owner_fits, put-room, put-done}
use Rattle.effects.proofs.new_object.Goals as goal

pub set_clock-requires : goal.set_clock-requires
set_clock-requires c = allowed-written (NEW ∷ []) _ _ c.requires

pub owner_of-requires : goal.owner_of-requires
owner_of-requires c = owner_fits (NEW ∷ []) _ _
    c.requires refl

pub insert_in_order-requires : goal.insert_in_order-requires
insert_in_order-requires c =
    let effects : effect plainly (decode c.args.s.now) c.args.q ≡ with_privileges Objects (insert c.owner_of.result (privileges_of Objects (decode c.args.s.now))) (with_stamp c.args.q.now (decode c.args.s.now).last (decode c.args.s.now)) =
    let d = c in
    let b = decode d.args.s.now in
    effect-object b d.args.q d.requires.kind
    ∙ (λ j. with_privileges Objects (insert (sym c.owner_of.ensures j) (privileges_of Objects b))
    (with_stamp d.args.q.now b.last b)) in
    let p = c in
    let d = p in
    put-room (NEW ∷ []) d.args.s.now d.args.q d.requires _ p.set_clock.ensures Objects _
    (effects)

pub returns : goal.returns
returns c =
    let effects : effect plainly (decode c.args.s.now) c.args.q ≡ with_privileges Objects (insert c.owner_of.result (privileges_of Objects (decode c.args.s.now))) (with_stamp c.args.q.now (decode c.args.s.now).last (decode c.args.s.now)) =
    let d = c in
    let b = decode d.args.s.now in
    effect-object b d.args.q d.requires.kind
    ∙ (λ j. with_privileges Objects (insert (sym c.owner_of.ensures j) (privileges_of Objects b))
    (with_stamp d.args.q.now b.last b)) in
    let r = c in
    let o = r in
    let p = o in
    let d = p in
    put-done (NEW ∷ []) d.args.s.now d.args.q d.requires _ p.set_clock.ensures Objects _
    (effects) _
    r.insert_in_order.ensures
