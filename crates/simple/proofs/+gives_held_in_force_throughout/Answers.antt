use native.Mathlib.Omega.{arith}
use mathlib.Core.Path.{◌≡◌, sym, ap, ◌∙◌, subst}
use mathlib.Core.Bool.{Bool, true, false, not, ◌||◌, beq}
use Prim.Native.Nat.{ℕ, ◌+◌, ◌*◌, ◌≤◌, ◌<◌}
use Rattle.foundation.specs.Tests.{not-true, not-false, or_none, beq-pick}
use Rattle.std.proofs.lemmas.List.{drop_all}
use Rattle.foundation.specs.Lists.{Mem, anyb}
use Rattle.foundation.specs.Intervals.{in_interval, in_interval-true, always, all_always}
use Rattle.model.specs.declared.Rule.{Rule}
use Rattle.model.specs.declared.Pattern.{Pattern}
use Rattle.model.specs.declared.Operator.{Operator}
use Rattle.model.specs.declared.Operator.TheVariants.{Whenever, AsLongAs, WheneverNot, Unless}
use Rattle.model.specs.Base.{Base}
use Rattle.model.specs.Stratification.{stratified}
use Rattle.model.specs.Rules.{derives_for, right_of, operate}
use Rattle.model.specs.Rules.{holding}
use Rattle.model.specs.Encoding.{decode}
use Rattle.encoding.proofs.RecordPlaces.{mem_at}
use Rattle.encoding.proofs.SoundBodies.{base-sound}
use Rattle.simple.specs.declared.ServedBase.{ServedBase}
use Rattle.simple.specs.Engine.{RuleOfBase, gives_in, wanted_in}
use Rattle.simple.proofs.Depth.{depth_for, sight, longest_rule, sight_right}
use Rattle.simple.proofs.EngineSteps as steps
use Rattle.simple.proofs.+gives_held_in_force_throughout.Goals as goal

-- ---- gives

strata : (b : ServedBase) → stratified (decode b.sound.bytes.now).rules ≡ true
strata b = (base-sound b.sound.bytes.now b.sound.sound).strata

-- what the operator says where the right side that is asked about is p
abbrev asks : Base → Rule → ℕ → Operator → Pattern → Bool
asks b r t o p = operate always o (λ u. holding b u p) (λ u. holding b u p) r.interval.start t

-- behind the test: the left side is p, and t is in the interval
module _ (v : ServedBase) (r : Rule) (m : RuleOfBase v.sound.bytes.now r) (p : Pattern) (t : ℕ)
    (left inside : Bool)
    (l : left ≡ derives_for (decode v.sound.bytes.now) p r) (i : inside ≡ in_interval r.interval t)
    (f : not left || not inside ≡ false) where
  abbrev b : Base
  b = decode v.sound.bytes.now

  passed : (left ≡ true) × (inside ≡ true)
  passed = let n = or_none (not left) (not inside) f in (not-false left n.0, not-false inside n.1)

  begun : r.interval.start ≤ t
  begun = (in_interval-true r.interval t (sym i ∙ passed.1)).0

  module _ (right : Pattern) (e : right ≡ right_of r p.access) where
    -- fewer rules are left on a feeding path
    fewer : 4 * sight b right + 3 < 4 * depth_for b p r
    fewer = omega (arith, ap (sight b) e, sight_right b v.uncircular p r m (sym l ∙ passed.0))

    -- the operator decides
    decided : (o : Operator) → r.operator ≡ o → asks b r t o right ≡ gives_in b p t r
    decided o q = ap (asks b r t o) e ∙ steps.gives-says b (strata v) r m p t left inside l i f o q

pub gives-returns-then-may_give-has_instant : goal.gives-returns-then-may_give-has_instant
gives-returns-then-may_give-has_instant t c =
    let a = c.args in
    steps.gives-not (decode a.base.now.sound.bytes.now) (strata a.base.now) a.r c.requires a.p a.t c.may_give.result
    c.has_instant.result c.may_give.ensures c.has_instant.ensures c.if-may_give-has_instant.true

pub gives-in_force-requires : goal.gives-in_force-requires
gives-in_force-requires t c =
    let a = c.args in
    let less = fewer a.base.now a.r c.requires a.p a.t c.may_give.result c.has_instant.result
    c.may_give.ensures c.has_instant.ensures c.if-may_give-has_instant.false c.right_of-right.result
    c.right_of-right.ensures in
    omega (arith, less, c.decreases)

pub gives-throughout-requires : goal.gives-throughout-requires
gives-throughout-requires t c =
    let a = c.args in
    let less = fewer a.base.now a.r c.requires a.p a.t c.may_give.result c.has_instant.result
    c.may_give.ensures c.has_instant.ensures c.if-may_give-has_instant.false c.right_of-right.result
    c.right_of-right.ensures in
    let start = begun a.base.now a.r c.requires a.p a.t c.may_give.result c.has_instant.result
    c.may_give.ensures c.has_instant.ensures c.if-may_give-has_instant.false in
    (omega (arith, less, c.decreases), start)

pub gives-in_force-requires-in-WheneverNot : goal.gives-in_force-requires-in-WheneverNot
gives-in_force-requires-in-WheneverNot t c =
    let a = c.args in
    let less = fewer a.base.now a.r c.requires a.p a.t c.may_give.result c.has_instant.result
    c.may_give.ensures c.has_instant.ensures c.if-may_give-has_instant.false c.right_of-right.result
    c.right_of-right.ensures in
    omega (arith, less, c.decreases)

pub gives-throughout-requires-in-Unless : goal.gives-throughout-requires-in-Unless
gives-throughout-requires-in-Unless t c =
    let a = c.args in
    let less = fewer a.base.now a.r c.requires a.p a.t c.may_give.result c.has_instant.result
    c.may_give.ensures c.has_instant.ensures c.if-may_give-has_instant.false c.right_of-right.result
    c.right_of-right.ensures in
    let start = begun a.base.now a.r c.requires a.p a.t c.may_give.result c.has_instant.result
    c.may_give.ensures c.has_instant.ensures c.if-may_give-has_instant.false in
    (omega (arith, less, c.decreases), start)

pub gives-returns-in-Whenever : goal.gives-returns-in-Whenever
gives-returns-in-Whenever t c =
    let a = c.args in
    c.in_force.ensures
    ∙ decided a.base.now a.r c.requires a.p a.t c.may_give.result c.has_instant.result
    c.may_give.ensures c.has_instant.ensures c.if-may_give-has_instant.false c.right_of-right.result
    c.right_of-right.ensures Whenever c.in-Whenever.is

pub gives-returns-in-AsLongAs : goal.gives-returns-in-AsLongAs
gives-returns-in-AsLongAs t c =
    let a = c.args in
    c.throughout.ensures
    ∙ decided a.base.now a.r c.requires a.p a.t c.may_give.result c.has_instant.result
    c.may_give.ensures c.has_instant.ensures c.if-may_give-has_instant.false c.right_of-right.result
    c.right_of-right.ensures AsLongAs c.in-AsLongAs.is

pub gives-returns-in-WheneverNot : goal.gives-returns-in-WheneverNot
gives-returns-in-WheneverNot t c =
    let a = c.args in
    ap not c.in_force-in-WheneverNot.ensures
    ∙ decided a.base.now a.r c.requires a.p a.t c.may_give.result c.has_instant.result
    c.may_give.ensures c.has_instant.ensures c.if-may_give-has_instant.false c.right_of-right.result
    c.right_of-right.ensures WheneverNot c.in-WheneverNot.is

pub gives-returns-in-Unless : goal.gives-returns-in-Unless
gives-returns-in-Unless t c =
    let a = c.args in
    c.throughout-in-Unless.ensures
    ∙ decided a.base.now a.r c.requires a.p a.t c.may_give.result c.has_instant.result
    c.may_give.ensures c.has_instant.ensures c.if-may_give-has_instant.false c.right_of-right.result
    c.right_of-right.ensures Unless c.in-Unless.is

-- ---- held

pub held-returns-then-is_granted : goal.held-returns-then-is_granted
held-returns-then-is_granted t c =
    let a = c.args in
    steps.held_granted a.base.now.sound.bytes.now a.p a.t (sym c.is_granted.ensures ∙ c.if-is_granted.true)

pub held-gives-requires : goal.held-gives-requires
held-gives-requires t c =
    let b = decode c.args.base.now.sound.bytes.now in
    let r = c.get.result in
    let m : Mem r b.rules = subst (Mem r) c.rules-rules.ensures (mem_at c.loop-i.i c.rules-rules.result _ r c.get.ensures) in
    (omega (arith, c.decreases, longest_rule b c.args.p r m), m)

pub held-returns-then-gives : goal.held-returns-then-gives
held-returns-then-gives t c =
    let a = c.args in
    let s = a.base.now.sound.bytes.now in
    sym (c.loop-i.invariant.1 ∙ rw (c.get.ensures, sym c.gives.ensures ∙ c.if-gives.true))
    ∙ steps.held-given s a.p a.t c.rules-rules.result c.rules-rules.ensures (sym c.is_granted.ensures ∙ c.if-is_granted.false)

pub held-returns : goal.held-returns
held-returns t c =
    let a = c.args in
    let s = a.base.now.sound.bytes.now in
    sym (c.loop-i.invariant.1
    ∙ ap (anyb (gives_in (decode s) a.p a.t)) (drop_all c.loop-i.i c.rules-rules.result (omega (arith, c.len-i-end.ensures))))
    ∙ steps.held-given s a.p a.t c.rules-rules.result c.rules-rules.ensures (sym c.is_granted.ensures ∙ c.if-is_granted.false)

-- ---- throughout

-- what is asked of an instant
wanted : (b : Base) (p : Pattern) (want : Bool) (u : ℕ) (r : Bool) → r ≡ holding b u p →
    beq r want ≡ wanted_in b p want u
wanted b p want u r e = ap (λ (x : Bool). beq x want) e ∙ beq-pick _ want

pub throughout-returns-then-in_force-wanted : goal.throughout-returns-then-in_force-wanted
throughout-returns-then-in_force-wanted t c =
    let a = c.args in
    let l = c.loop-u in
    let b = decode a.base.now.sound.bytes.now in
    steps.not_throughout a.from a.to (wanted_in b a.p a.wanted) l.u
    l.invariant.0 (omega arith) (sym (wanted b a.p a.wanted l.u c.in_force.result c.in_force.ensures)
    ∙ not-true _ c.if-in_force-wanted.true)

-- so it was up to this one
pub throughout-returns-else-in_force-wanted : goal.throughout-returns-else-in_force-wanted
throughout-returns-else-in_force-wanted t c =
    let a = c.args in
    let l = c.loop-u in
    let b = decode a.base.now.sound.bytes.now in
    let so_far = steps.through_next a.from (wanted_in b a.p a.wanted) l.u l.invariant.2
    (sym (wanted b a.p a.wanted l.u c.in_force.result c.in_force.ensures) ∙ not-false _ c.if-in_force-wanted.false) in
    sym (all_always a.from a.to (wanted_in b a.p a.wanted) (λ v h k. so_far v h (omega arith)))
