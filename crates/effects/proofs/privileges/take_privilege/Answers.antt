use Rattle.std.proofs.Common.{sym, ap, ◌∙◌, arith, List, ℕ, ◌-◌}
use Rattle.model.specs.declared.Privilege.{Privilege}
use Rattle.model.specs.Requests.{before}
use Rattle.model.specs.Encoding.{encode, decode}
use Rattle.edits.specs.Edits.{privileges_of, with_privileges, remove_at}
use Rattle.effects.proofs.PrivilegePlaces.{first-most, remove_place}
use Rattle.effects.proofs.privileges.take_privilege.Goals as goal

pub overflow_sub-i : goal.overflow_sub-i
overflow_sub-i c =
    let a = c.args in
    let e = rw c.privileges.ensures at c.privilege_index-i.ensures in
    omega (arith, e, (remove_place a.p (privileges_of a.k (decode a.s.now)) c.requires.1 c.requires.2).0)

pub remove_privilege-requires : goal.remove_privilege-requires
remove_privilege-requires c =
    let a = c.args in
    let ps = privileges_of a.k (decode a.s.now) in
    let e = rw c.privileges.ensures at c.privilege_index-i.ensures in
    (c.requires.0, omega (arith, e, first-most (before a.p) ps, (remove_place a.p ps c.requires.1 c.requires.2).0))

pub returns : goal.returns
returns c =
    let a = c.args in
    let b = decode a.s.now in
    let ps = privileges_of a.k b in
    let e = rw c.privileges.ensures at c.privilege_index-i.ensures in
    c.remove_privilege.ensures
    ∙ ap (λ (n : ℕ). encode (with_privileges a.k (remove_at (n - 1) ps) b)) e
    ∙ ap (λ (l : List Privilege). encode (with_privileges a.k l b)) (sym (remove_place a.p ps c.requires.1 c.requires.2).1)
