use mathlib.Core.Path.{◌≡◌, sym, ◌∙◌}
use native.Mathlib.Omega.{arith}
use mathlib.Core.Bool.{false}
use Rattle.model.specs.Encoding.{decode}
use Rattle.model.specs.Means.{plainly}
use Rattle.model.specs.Step.{full}
use Rattle.edits.proofs.EditedBytes.{written-length}
use Rattle.requests.proofs.EffectReplies.{carried_refused, passed_allowed, effect-holds, carried_done}
use Rattle.requests.proofs.add_or_drop.Goals as goal

pub no_room-requires : goal.no_room-requires
no_room-requires c = let d = c in (d.requires.0.sound, d.requires.1)

pub returns-then-no_room : goal.returns-then-no_room
returns-then-no_room c =
    let n = c in
    let d = n in
    carried_refused d.args.s.now d.args.q (sym n.no_room.ensures ∙ c.if-no_room.true)

pub apply-requires : goal.apply-requires
apply-requires c =
    let room : (let d = c in full plainly (decode d.args.s.now) d.args.q ≡ false) = sym c.no_room.ensures ∙ c.if-no_room.false in
    let d = c in
    passed_allowed d.args.s.now d.args.q d.requires.0 d.requires.1 (room)

pub done-requires : goal.done-requires
done-requires c =
    let room : (let d = c in full plainly (decode d.args.s.now) d.args.q ≡ false) = sym c.no_room.ensures ∙ c.if-no_room.false in
    let a = c in
    let e = a in
    let d = e in
    omega (
      arith,
      written-length _ (effect-holds d.args.s.now d.args.q d.requires.0 d.requires.1 (room)
          a.apply.new.s a.apply.ensures).written,
    )

pub returns : goal.returns
returns c =
    let room : (let d = c in full plainly (decode d.args.s.now) d.args.q ≡ false) = sym c.no_room.ensures ∙ c.if-no_room.false in
    let a = c in
    let e = a in
    let d = e in
    carried_done d.args.s.now d.args.q d.requires.0 d.requires.1 (room) a.apply.new.s
    a.apply.ensures c.done.result c.done.ensures
