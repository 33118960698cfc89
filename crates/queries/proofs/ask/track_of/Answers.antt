use mathlib.Core.Path.{◌≡◌, refl, sym, ap, ◌∙◌, fun_ext, subst}
use mathlib.Core.Bool.{Bool}
use mathlib.Core.List.{List}
use Prim.Native.Nat.{ℕ}
use lib.Dec.{eqb, leb}
use Rattle.foundation.specs.Tests.{and-true, true_eq, true-le}
use Rattle.foundation.specs.Lists.{anyb}
use Rattle.model.specs.declared.Access.{Access}
use Rattle.model.specs.declared.Authorization.{Authorization}
use Rattle.model.specs.Base.{Base}
use Rattle.model.specs.Rules.{may, stands_for}
use Rattle.encoding.specs.Format.{authorizations_in, rules_in}
use Rattle.direct.specs.Direct.{held_directly}
use Rattle.direct.proofs.DirectFacts.{direct-may}
use Rattle.scan.specs.Runs.{ScannedTo}
use native.Mathlib.Omega.{arith}
use Rattle.queries.specs.Starting.{Bodies}
use Rattle.queries.proofs.AskingFacts.{access_ranges}
use Rattle.queries.proofs.ask.track_of.Goals as goal

ruleless : {holder : Base} {lines : List ℕ} {total : ℕ} {body : List ℕ} {n : ℕ} {base : Base} →
    Bodies holder lines total body n base → n ≡ 0 → (x : Access) →
    held_directly (authorizations_in total lines) x ≡ may base x
ruleless {body = body} {base = base} b e x = fun_ext (λ t.
    ap (λ (xs : List Authorization). held_directly xs x t) (sym b.lines_are)
    ∙ sym (direct-may base x t (ap (anyb (λ r. stands_for base r x))
    (b.rules_are ∙ ap (λ (k : ℕ). rules_in k body) e))))

pub walk_directly-requires : goal.walk_directly-requires
walk_directly-requires c =
    let s = c in
    let a = s.args in
    let few = (and-true (eqb a.base.now.totals.rules 0) (leb a.base.now.totals.authorizations 64) c.if-n.true).1 in (
      true-le a.base.now.totals.authorizations 64 few,
      a.base.now.there,
      omega (arith, (access_ranges a.x s.requires.0).0),
      omega (arith, (access_ranges a.x s.requires.0).3),
    )

pub returns-then-n : goal.returns-then-n
returns-then-n c =
    let w = c in
    let a = c.args in
    let none = true_eq a.base.now.totals.rules 0 (and-true (eqb a.base.now.totals.rules 0) (leb a.base.now.totals.authorizations 64)
    c.if-n.true).0 in
    λ base b. subst (λ (f : ℕ → Bool). ScannedTo f 4294967295 a.list.now 4294967296
    w.walk_directly.result w.walk_directly.new.list) (ruleless b none a.x)
    w.walk_directly.ensures

pub returns : goal.returns
returns c = λ base b. (c.with_outline.ensures base b).listed refl
