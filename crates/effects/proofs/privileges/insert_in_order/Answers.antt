use Rattle.std.proofs.Common.{sym, ap, ◌∙◌, arith, List, ℕ}
use Rattle.model.specs.declared.Privilege.{Privilege}
use Rattle.model.specs.Requests.{before}
use Rattle.model.specs.Encoding.{encode, decode}
use Rattle.edits.specs.Edits.{privileges_of, with_privileges}
use Rattle.foundation.specs.Lists.{insert_at}
use Rattle.effects.proofs.PrivilegePlaces.{first-most, insert-place}
use Rattle.effects.proofs.privileges.insert_in_order.Goals as goal

pub insert_privilege-requires : goal.insert_privilege-requires
insert_privilege-requires c =
    let a = c.args in
    let e = rw c.privileges.ensures at c.privilege_index-i.ensures in
    (c.requires.0, omega (arith, e, first-most (before a.p) (privileges_of a.k (decode a.s.now))), c.requires.1)

pub returns : goal.returns
returns c =
    let a = c.args in
    let b = decode a.s.now in
    let ps = privileges_of a.k b in
    let e = rw c.privileges.ensures at c.privilege_index-i.ensures in
    c.insert_privilege.ensures
    ∙ ap (λ (n : ℕ). encode (with_privileges a.k (insert_at n a.p ps) b)) e
    ∙ ap (λ (l : List Privilege). encode (with_privileges a.k l b)) (sym (insert-place a.p ps))
