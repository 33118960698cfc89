use Rattle.std.proofs.Common.{sym, ap, ◌∙◌, arith, length, ◌≤◌}
use Rattle.model.specs.Encoding.{encode, decode}
use Rattle.edits.proofs.Written.{written-sound}
use Rattle.revocation.proofs.Revoking.{lines_left_lem, carried_done}
use Rattle.revocation.proofs.Revoking.{replaced_holds, clocked, named-withdraws, effect-named}
use Rattle.revocation.proofs.revoke.Goals as goal

pub invariant_of-build_remaining : goal.invariant_of-build_remaining
invariant_of-build_remaining c = record { written = written-sound _ c.requires.0.sound }

pub set_clock-requires : goal.set_clock-requires
set_clock-requires c =
    let s = c.args.s.now in
    let q = c.args.q in
    let p = c.requires.0 in
    let w = named-withdraws q c.requires.1 in
    let ys = c.build_remaining-remaining.new.body in
    let h : length ys ≤ 1024 = omega (arith, c.len-m.ensures) in
    let left = lines_left_lem s q p w ys c.in-Ok.ensures h in
    (replaced_holds s (written-sound s p.sound) s q ys left h _ c.len-m.ensures.count c.bytes.result.now
    c.bytes.ensures.records _ c.replace_authorizations.ensures).written

pub returns : goal.returns
returns c =
    let s = c.args.s.now in
    let q = c.args.q in
    let p = c.requires.0 in
    let w = named-withdraws q c.requires.1 in
    let ys = c.build_remaining-remaining.new.body in
    let h : length ys ≤ 1024 = omega (arith, c.len-m.ensures) in
    let left = lines_left_lem s q p w ys c.in-Ok.ensures h in
    carried_done s q w ys left _ c.len-m.ensures.count _
    (clocked s (written-sound s p.sound) s q ys left h _ c.len-m.ensures.count c.bytes.result.now
    c.bytes.ensures.records _ c.replace_authorizations.ensures _ _ c.set_clock.ensures
    ∙ ap encode (sym (effect-named (decode s) q c.requires.1)))
