use native.Mathlib.Omega.{arith}
use Rattle.edits.proofs.EditedBytes.{written-length}
use Rattle.effects.proofs.AllowedEffects.{grant_addition, new-fits, room, put_last}
use Rattle.effects.proofs.grant.Goals as goal

pub counts_of-c-requires : goal.counts_of-c-requires
counts_of-c-requires c =
    let d = c in
    omega (arith, written-length d.args.s.now (grant_addition _ _ d.requires).written)

pub invariant_of-next_label : goal.invariant_of-next_label
invariant_of-next_label c = record { written = (grant_addition _ _ c.requires).written }

pub next_label-label-requires : goal.next_label-label-requires
next_label-label-requires c = (grant_addition _ _ c.requires).unused

pub stamp-requires : goal.stamp-requires
stamp-requires c = (grant_addition _ _ c.requires).written

pub new_authorization-requires : goal.new_authorization-requires
new_authorization-requires c =
    let l = c in
    let d = l in
    new-fits (grant_addition _ _ d.requires) l.next_label-label.ensures

pub insert_authorization-requires : goal.insert_authorization-requires
insert_authorization-requires c =
    let p = c in
    let l = p in
    let n = l in
    room (grant_addition _ _ n.requires) l.next_label-label.ensures p.stamp.ensures
    n.counts_of-c.ensures

pub returns : goal.returns
returns c =
    let r = c in
    let p = r in
    let l = p in
    let n = l in
    put_last (grant_addition _ _ n.requires) l.next_label-label.ensures
    p.stamp.ensures n.counts_of-c.ensures r.new_authorization.ensures
    r.insert_authorization.ensures
