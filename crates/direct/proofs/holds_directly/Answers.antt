use borrow.Author.Rules.{rules}
use mathlib.Core.Path.{◌≡◌, refl, sym, ap, ◌∙◌, subst}
use mathlib.Core.Bool.{Bool, true, false, not, ◌&&◌, ◌||◌}
use Prim.Native.Nat.{◌+◌}
use Rattle.foundation.specs.Tests.{or_true, or_false, and_yes}
use Rattle.direct.proofs.FoundLoop.{held_from, granted_turn, denied_turn, no_turn, all_held}
use Rattle.direct.proofs.FoundLoop.{denied_held}
use Rattle.direct.proofs.holds_directly.Goals as goal
use Rattle.direct.proofs.holds_directly.Goals.{then-le32-both+then-is_live_for+else-a, then-le32-both+else-is_live_for}
use Rattle.direct.proofs.holds_directly.Goals.{else-le32-both}

pub loop-i-init : goal.loop-i-init
loop-i-init c = (search rules, refl, refl)

-- a denial has t
pub returns-then-a : goal.returns-then-a
returns-then-a c =
    let v = c in
    let b = v in
    let l = b.loop-i in
    let a = b.args in
    sym (denied_held a.lines.now a.total a.x a.t
    (denied_turn a.lines.now a.total a.x a.t _ false l.i (search rules) _ _
    v.authorization_at-a.ensures v.is_live_for.ensures l.invariant.2
    ∙ (λ k. (c.if-is_live_for.true k && c.if-a.true k)
    || held_from a.lines.now a.total a.x a.t true (l.i + 1))))

pub loop-i-preserved : goal.loop-i-preserved
loop-i-preserved c =
    let b = c in
    let l = b.loop-i in
    let a = b.args in
    let ls = a.lines.now in
    let later : Bool → Bool = λ negative. held_from ls a.total a.x a.t negative (l.i + 1) in
    let found : Bool → Type 0 = λ g. held_from ls a.total a.x a.t false 0 ≡ g || later false in
    elim c.if-le32-both.branch [
      | then-le32-both+then-is_live_for+else-a w ↦ (
        search rules,
        subst found (sym w.granted-is) (granted_turn ls a.total a.x a.t _ l.granted l.i
            (search rules) _ _ w.authorization_at-a.ensures w.is_live_for.ensures l.invariant.1
            ∙ (λ k. (l.granted || (w.if-is_live_for.true k && not (w.if-a.false k))) || later false)
            ∙ ap (λ (g : Bool). g || later false) (or_true l.granted)),
        denied_turn ls a.total a.x a.t _ false l.i (search rules) _ _ w.authorization_at-a.ensures
            w.is_live_for.ensures l.invariant.2
            ∙ (λ k. (w.if-is_live_for.true k && w.if-a.false k) || later true),
      )
      | then-le32-both+else-is_live_for w ↦ (
        search rules,
        subst found (sym w.granted-is) (granted_turn ls a.total a.x a.t _ l.granted l.i
            (search rules) _ _ w.authorization_at-a.ensures w.is_live_for.ensures l.invariant.1
            ∙ (λ k. (l.granted || (w.if-is_live_for.false k && not w.authorization_at-a.result.head.negative))
            || later false)
            ∙ ap (λ (g : Bool). g || later false) (or_false l.granted)),
        denied_turn ls a.total a.x a.t _ false l.i (search rules) _ _ w.authorization_at-a.ensures
            w.is_live_for.ensures l.invariant.2
            ∙ (λ k. (w.if-is_live_for.false k && w.authorization_at-a.result.head.negative) || later true),
      )
      | else-le32-both w ↦ (
        search rules,
        subst found (sym w.granted-is) (no_turn ls a.total a.x a.t false _ l.granted l.i
            (search rules) (λ e. w.if-le32-both.false (c.le32.ensures ∙ e)) l.invariant.1),
        no_turn ls a.total a.x a.t true _ false l.i
            (search rules) (λ e. w.if-le32-both.false (c.le32.ensures ∙ e)) l.invariant.2,
      )
    ]

pub returns : goal.returns
returns c =
    let l = c.loop-i in
    let a = c.args in
    sym (and_yes l.granted)
    ∙ sym (all_held a.lines.now a.total a.x a.t l.i l.granted false (search rules)
    l.invariant.1 l.invariant.2)
