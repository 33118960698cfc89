use native.Mathlib.Omega.{arith}
use mathlib.Core.Path.{refl, sym, ap, ap₂, ◌∙◌}
use mathlib.Core.Bool.{Bool, ◌&&◌, ◌||◌}
use Prim.Native.Nat.{ℕ, ◌+◌}
use lib.Dec.{eqb}
use lib.ListN.{get_or}
use Rattle.foundation.specs.BitMasks.{bit, bit-zero}
use Rattle.foundation.specs.Tests.{true_eq}
use Rattle.words.specs.SetBits.{among}
use Rattle.words.proofs.SetBitLoops.{Turn, turn, finished, among_more, among_all}
use Rattle.masks.proofs.BitLoops.{bring_one}
use Rattle.outlines.proofs.feed.draw_fed.Goals as goal
use Rattle.outlines.proofs.feed.draw_fed.Goals.{In-Some}

at : (c : In-Some) → Turn c.args.choosy c.loop-c.yielded c.in-Some.c
at c = turn c.loop-c.c-iterator (cc) c.loop-c.yielded_by c.in-Some.ensures.steps

pub bounds-feed-c : goal.bounds-feed-c
bounds-feed-c c = omega (arith, (at (goal.at.bounds-feed-c c).In-Some).low, c.loop-c.auto.feed, c.requires.1)

pub hand_on-requires : goal.hand_on-requires
hand_on-requires c =
    ((at (goal.at.hand_on-requires c).In-Some).low, omega (arith, c.loop-c.auto.feed, c.requires.1))

pub loop-c-init : goal.loop-c-init
loop-c-init c = (
  (λ w h. refl),
  λ i r h. ap (bit r) (c.requires.0 (64 + i) (omega arith)) ∙ bit-zero r,
)

pub loop-c-preserved : goal.loop-c-preserved
loop-c-preserved c =
    let a = c.args in
    let l = c.loop-c in
    let q = c.in-Some.c in
    let f = c.hand_on.ensures in
    let t = at (goal.at.loop-c-preserved c).In-Some in (
      (λ w h. f.0 w h ∙ l.invariant.0 w h),
      λ i r h. f.1 i r
          ∙ ap₂ (λ (x y : Bool). x || (eqb r q && y)) (l.invariant.1 i r h) (ap (bit i) (l.invariant.0 q t.low))
          ∙ bring_one (among r l.yielded) (eqb r q) (bit i (get_or a.feed.now r 0))
          (bit i (get_or a.feed.now q 0))
          (λ y. ap (λ (k : ℕ). bit i (get_or a.feed.now k 0)) (sym (true_eq r q y)))
          ∙ ap (λ (x : Bool). x && bit i (get_or a.feed.now r 0)) (sym (among_more r q l.yielded)),
    )

pub returns : goal.returns
returns c =
    let a = c.args in
    let l = c.loop-c in (
      l.invariant.0,
      λ i r h k. l.invariant.1 i r h ∙ ap (λ (x : Bool). x && bit i (get_or a.feed.now r 0))
          (among_all r a.choosy l.yielded (omega arith)
          (finished l.c-iterator (cc) l.yielded_by c.in-None.ensures.steps)),
    )
