use Rattle.std.proofs.lemmas.List.{length-replicate}
use Rattle.std.proofs.Common.{◌≡◌, refl, sym, ap, ◌∙◌, arith, length, ◌≤◌, List, ℕ}
use Rattle.model.specs.Encoding.{encode, decode}
use Rattle.model.specs.Requests.{without}
use Rattle.edits.proofs.Written.{written-sound}
use Rattle.model.specs.Effects.{with_administrators}
use Rattle.edits.proofs.EditedBytes.{written-length}
use Rattle.revocation.proofs.Revoking.{lines_left_lem, carried_done, replace_ready}
use Rattle.revocation.proofs.Revoking.{replaced_holds, clocked, administrator_withdraws}
use Rattle.revocation.proofs.Revoking.{remove_ready, removed_holds, roots_objects}
use Rattle.revocation.proofs.Revoking.{roots_administrators, dropped, administrator_done}
use Rattle.revocation.proofs.revoke_administrator.Goals as goal

pub copy-requires : goal.copy-requires
copy-requires c =
    length-replicate {A = ℕ} 27936 0 ∙ sym (written-length _ (written-sound _ c.requires.0.sound))

pub remove_administrator-requires : goal.remove_administrator-requires
remove_administrator-requires c =
    remove_ready c.args.s.now c.args.q c.requires.0 c.requires.1 _ c.copy.ensures.after

pub invariant_of-build_remaining : goal.invariant_of-build_remaining
invariant_of-build_remaining c =
    let copy-left : (let a = c.args in let b = decode a.s.now in c.remove_administrator.new.s ≡ encode (with_administrators (without a.q.object a.q.subject b.administrators) b)) =
    let q = c.args.q in
    c.remove_administrator.ensures
    ∙ ap (λ (l : List ℕ). encode (with_administrators
    (without q.object q.subject (decode l).administrators) (decode l))) c.copy.ensures.after in
    record { written = (removed_holds c.args.s.now c.args.q c.requires.0 c.requires.1 _ copy-left).written }

pub build_remaining-built-requires-clause-roots_value : goal.build_remaining-built-requires-clause-roots_value
build_remaining-built-requires-clause-roots_value c =
    let copy-left : (let a = c.args in let b = decode a.s.now in c.remove_administrator.new.s ≡ encode (with_administrators (without a.q.object a.q.subject b.administrators) b)) =
    let q = c.args.q in
    c.remove_administrator.ensures
    ∙ ap (λ (l : List ℕ). encode (with_administrators
    (without q.object q.subject (decode l).administrators) (decode l))) c.copy.ensures.after in
    let s = c.args.s.now in
    let q = c.args.q in
    (roots_objects s q c.requires.0 c.requires.1 _ copy-left, roots_administrators s q c.requires.0 c.requires.1 _ copy-left)

pub remove_administrator-requires-2 : goal.remove_administrator-requires-2
remove_administrator-requires-2 c =
    remove_ready c.args.s.now c.args.q c.requires.0 c.requires.1 _ refl

pub drop_rules-requires : goal.drop_rules-requires
drop_rules-requires c =
    (removed_holds c.args.s.now c.args.q c.requires.0 c.requires.1 _ c.remove_administrator-2.ensures).written

pub replace_authorizations-requires : goal.replace_authorizations-requires
replace_authorizations-requires c =
    let s = c.args.s.now in
    let q = c.args.q in
    let p = c.requires.0 in
    let w = administrator_withdraws q c.requires.1 in
    let ys = c.build_remaining-built.new.body in
    let h : length ys ≤ 1024 = omega (arith, c.len-n.ensures) in
    let left = lines_left_lem s q p w ys c.in-Ok.ensures h in
    let rules-left = (dropped s q p c.requires.1 _ c.remove_administrator-2.ensures _ c.refers-refers.ensures _
    c.drop_rules.ensures).written in
    replace_ready _ rules-left s q ys left h _ c.len-n.ensures.count c.bytes.result.now c.bytes.ensures.records
    c.bytes.ensures.room c.bytes.ensures.clean

pub set_clock-requires : goal.set_clock-requires
set_clock-requires c =
    let s = c.args.s.now in
    let q = c.args.q in
    let p = c.requires.0 in
    let w = administrator_withdraws q c.requires.1 in
    let ys = c.build_remaining-built.new.body in
    let h : length ys ≤ 1024 = omega (arith, c.len-n.ensures) in
    let left = lines_left_lem s q p w ys c.in-Ok.ensures h in
    let rules-left = (dropped s q p c.requires.1 _ c.remove_administrator-2.ensures _ c.refers-refers.ensures _
    c.drop_rules.ensures).written in
    (replaced_holds _ rules-left s q ys left h _ c.len-n.ensures.count c.bytes.result.now
    c.bytes.ensures.records _ c.replace_authorizations.ensures).written

pub returns : goal.returns
returns c =
    let s = c.args.s.now in
    let q = c.args.q in
    let p = c.requires.0 in
    let w = administrator_withdraws q c.requires.1 in
    let ys = c.build_remaining-built.new.body in
    let h : length ys ≤ 1024 = omega (arith, c.len-n.ensures) in
    let left = lines_left_lem s q p w ys c.in-Ok.ensures h in
    let rules-left = (dropped s q p c.requires.1 _ c.remove_administrator-2.ensures _ c.refers-refers.ensures _
    c.drop_rules.ensures).written in
    carried_done s q w ys left _ c.len-n.ensures.count _
    (administrator_done s q p c.requires.1 _ c.remove_administrator-2.ensures _ c.refers-refers.ensures _
    c.drop_rules.ensures _
    (clocked _ rules-left s q ys left h _ c.len-n.ensures.count c.bytes.result.now
    c.bytes.ensures.records _ c.replace_authorizations.ensures _ _ c.set_clock.ensures))
