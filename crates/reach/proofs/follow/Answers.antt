use native.Mathlib.Omega.{arith}
use mathlib.Core.Path.{◌≡◌, sym, ap, ◌∙◌}
use mathlib.Core.Bool.{false≢true}
use Prim.Native.Nat.{ℕ}
use Rattle.foundation.specs.BitMasks.{bit}
use Rattle.words.specs.SetBits.{set_bits}
use Rattle.words.proofs.SetBitLoops.{Turn, turn, finished, among_all}
use Rattle.reach.specs.Net.{has, Led}
use Rattle.reach.proofs.Growth.{need_kept, grown_then, done-turn}
use Rattle.reach.proofs.follow.Goals as goal
use Rattle.reach.proofs.follow.Goals.{In-Some}
use lib.ListN.{length}

at : (c : In-Some) → Turn c.args.rules c.loop-r.yielded c.in-Some.r
at c = turn c.loop-r.r-iterator (cc) c.loop-r.yielded_by c.in-Some.ensures.steps

led : (c : In-Some) → Led c.args.net.now.right.now c.args.net.now.subjects (length c.args.need.now)
    c.args.at.object c.args.at.subject c.args.at.mode c.in-Some.r
led c = c.requires.1 c.in-Some.r (at c).low

pub loop-r-init : goal.loop-r-init
loop-r-init c = (
  need_kept c.args.need.now c.args.todo.now,
  (λ q e. absurd (false≢true e)),
  λ P h n t. (n, t),
)

pub right_pair-pair-requires : goal.right_pair-pair-requires
right_pair-pair-requires c = let w = (goal.at.right_pair-pair-requires c).In-Some in
    ((at w).low, omega (arith, (led w).pair))

pub right_needs-bits-requires : goal.right_needs-bits-requires
right_needs-bits-requires c = let w = (goal.at.right_needs-bits-requires c).In-Some in
    ((at w).low, (led w).mode, (led w).signs)

pub ask-requires : goal.ask-requires
ask-requires c =
    let l = c.loop-r in
    let d = (led (goal.at.ask-requires c).In-Some).pair in
    let e = c.right_pair-pair.ensures in
    (omega (arith, l.invariant.0.needs), omega (arith, l.invariant.0.todos, c.requires.0))

pub loop-r-preserved : goal.loop-r-preserved
loop-r-preserved c =
    let a = c.args in
    let net = a.net.now in
    let l = c.loop-r in
    let r = c.in-Some.r in
    let e = c.ask.ensures in
    let t = at (goal.at.loop-r-preserved c).In-Some in (
      grown_then l.invariant.0 e.0,
      done-turn net.right.now net.subjects a.at.object a.at.subject a.at.mode r l.yielded l.invariant.1 e.0
          (λ b f. ap (λ (j : ℕ). has c.ask.new.need j b) (sym c.right_pair-pair.ensures)
          ∙ e.1 b (ap (bit b) c.right_needs-bits.ensures ∙ f)),
      λ P h n m. let w = l.invariant.2 P h n m in
          e.2 P (ap P c.right_pair-pair.ensures ∙ h r t.low t.own) w.0 w.1,
    )

pub shape_of-need : goal.shape_of-need
shape_of-need c = c.loop-r.invariant.0.needs

pub shape_of-todo : goal.shape_of-todo
shape_of-todo c = c.loop-r.invariant.0.todos

pub returns : goal.returns
returns c =
    let l = c.loop-r in
    let i = l.invariant in
    let e : l.yielded ≡ set_bits c.args.rules = finished l.r-iterator (cc) l.yielded_by c.in-None.ensures.steps in
    (i.0, λ r h o. i.1 r (among_all r c.args.rules l.yielded (omega arith) e ∙ o), i.2)
