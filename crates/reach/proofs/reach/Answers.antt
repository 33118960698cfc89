use native.Mathlib.Omega.{arith}
use mathlib.Core.Path.{◌≡◌, refl, sym, subst, ◌∙◌}
use Prim.Native.Nat.{ℕ}
use lib.ListN.{length}
use Rattle.reach.specs.Net.{Formed}
use Rattle.reach.proofs.Growth.{closed_grown, closed_start, closed_end, none_within}
use Rattle.reach.proofs.reach.Goals as goal

pub ask-requires : goal.ask-requires
ask-requires c =
    let p = c.requires in
    (p.2, omega (arith, p.1, p.2))

pub loop-j-init : goal.loop-j-init
loop-j-init c =
    let a = c.args in
    let p = c.requires in
    let g = c.ask.ensures in (
      closed_grown (record { left = a.left.now; right = a.right.now; subjects = a.subjects }) g.0 (closed_start (record { left = a.left.now; right = a.right.now; subjects = a.subjects }) a.need.now a.todo.now (λ j. (p.3 j).0)),
      g.1,
      omega (arith, g.0.todos, p.1, p.2),
      refl,
      g.0.todos ∙ p.1 ∙ sym g.0.needs,
      (λ P h d. (g.2 P h (none_within P a.need.now (λ j. (p.3 j).0))
          (none_within P a.todo.now (λ j. (p.3 j).1))).0),
      (λ P h d. (g.2 P h (none_within P a.need.now (λ j. (p.3 j).0))
          (none_within P a.todo.now (λ j. (p.3 j).1))).1),
    )

pub follow_bit-requires : goal.follow_bit-requires
follow_bit-requires c =
    let a = c.args in
    let p = c.requires in
    let l = c.loop-j in
    let i = l.invariant in
    let e : length l.need ≡ length a.need.now = i.3
    ∙ c.ask.ensures.0.needs in
    let t : length l.todo ≡ length l.need = i.4 ∙ sym i.3 in (
      subst (λ (n : ℕ). Formed a.right.now a.subjects n) (sym e) p.0,
      t,
      omega (arith, c.in-Some.ensures),
      c.in-Some.ensures.1,
    )

pub loop-j-smaller : goal.loop-j-smaller
loop-j-smaller c = c.follow_bit.ensures.less

pub loop-j-preserved : goal.loop-j-preserved
loop-j-preserved c =
    let a = c.args in
    let i = c.loop-j.invariant in
    let o = c.follow_bit.ensures in (
      o.closed i.0,
      (λ b e. o.more a.pair b (i.1 b e)),
      omega (arith, o.todos, c.in-Some.ensures),
      o.needs ∙ i.3,
      o.todos ∙ i.4,
      (λ P h d. (o.within P d (i.5 P h d) (i.6 P h d)).0),
      (λ P h d. (o.within P d (i.5 P h d) (i.6 P h d)).1),
    )

pub shape_of-need : goal.shape_of-need
shape_of-need c = c.loop-j.invariant.3 ∙ c.ask.ensures.0.needs

pub shape_of-todo : goal.shape_of-todo
shape_of-todo c = c.loop-j.invariant.4 ∙ c.ask.ensures.0.needs ∙ sym c.requires.1

pub returns : goal.returns
returns c =
    let a = c.args in
    let l = c.loop-j in
    let i = l.invariant in (
      closed_end (record { left = a.left.now; right = a.right.now; subjects = a.subjects }) l.need l.todo c.in_default.ensures i.0,
      i.1,
      i.3 ∙ c.ask.ensures.0.needs,
      i.5,
    )
