use mathlib.Core.Path.{◌≡◌, sym, ap, ◌∙◌}
use mathlib.Core.List.{List}
use Prim.Native.Nat.{ℕ}
use borrow.Author.Rules.{rules}
use Rattle.foundation.specs.Lists.{anyb, any_cong_mem}
use Rattle.model.specs.declared.Access.{Access}
use Rattle.model.specs.declared.Rule.{Rule}
use Rattle.model.specs.Base.{Base, controls}
use Rattle.model.specs.Encoding.{rule_of, decode}
use Rattle.model.specs.Rules.{stands_for}
use Rattle.model.proofs.SideFacts.{stands_same}
use Rattle.encoding.specs.Format.{rules_in}
use Rattle.foundation.specs.RecordLoops.{any_starts, any_fails, any_passes, any_ends}
use Rattle.direct.proofs.stands_some.Goals as goal

-- of a base only owners and administrators are looked at
same_answer : (b c : Base) (x : Access) (l : List Rule) → b.rules ≡ l →
    ((o u : ℕ) → controls b o u ≡ controls c o u) →
    anyb (λ q. stands_for c q x) l ≡ anyb (λ q. stands_for b q x) b.rules
same_answer b c x l e z =
    any_cong_mem (λ q. stands_for c q x) (λ q. stands_for b q x) l
    (λ q m. sym (stands_same b c q x (z x.object q.author)))
    ∙ ap (anyb (λ q. stands_for b q x)) (sym e)

pub loop-i-init : goal.loop-i-init
loop-i-init c =
    let a = c.args in (
      search rules,
      any_starts 28 rule_of (λ q. stands_for (decode a.base.now.bytes.now) q a.x) a.n a.body.now,
    )

pub returns-then-stands_for : goal.returns-then-stands_for
returns-then-stands_for c =
    let a = c.args in
    let l = c.loop-i in
    let d = decode a.base.now.bytes.now in
    λ b e z. any_passes 28 rule_of (λ q. stands_for d q a.x) a.n a.body.now l.i _ _ (search rules)
    c.stands_for.ensures c.rule_at.ensures c.if-stands_for.true l.invariant
    ∙ same_answer b d a.x (rules_in a.n a.body.now) e z

pub loop-i-preserved : goal.loop-i-preserved
loop-i-preserved c =
    let a = c.args in
    let l = c.loop-i in (
      search rules,
      any_fails 28 rule_of (λ q. stands_for (decode a.base.now.bytes.now) q a.x) a.n a.body.now l.i _ _
          (search rules)
          c.stands_for.ensures c.rule_at.ensures c.if-stands_for.false l.invariant,
    )

pub returns : goal.returns
returns c =
    let a = c.args in
    let l = c.loop-i in
    let d = decode a.base.now.bytes.now in
    λ b e z. any_ends 28 rule_of (λ q. stands_for d q a.x) a.n a.body.now l.i (search rules)
    l.invariant ∙ same_answer b d a.x (rules_in a.n a.body.now) e z
