use native.Mathlib.Omega.{arith}
use mathlib.Core.Path.{refl, ◌∙◌}
use Rattle.engine.proofs.Onward.{walk-starts, finds}
use Rattle.engine.proofs.walking.walk_windows.Invariants.{begin}
use Rattle.engine.proofs.walking.walk_windows.Goals as goal

pub loop-s-init : goal.loop-s-init
loop-s-init c =
    let a = c.args in (
      (λ base x w. walk-starts w (omega (arith, c.struct_known-1.given)) a.list.now),
      refl,
      refl,
      refl,
      refl,
    )

pub pass_window-s-requires : goal.pass_window-s-requires
pass_window-s-requires c =
    let l = c in
    let s = l in
    let v = l.loop-s.invariant in
    let p = s.requires.1 in
    let held = s.requires.0.held in
    let a = s.args in (
      record {
        body = s.requires.0.body;
        held = record {
          outlined = v.1 ∙ held.outlined;
          placed = held.placed;
          numbered = omega (arith, v.2, held.numbered);
          roomy = omega (arith, v.3, held.roomy);
        };
      },
      c.loop-s-test.true,
      (
        begin p.0 p.1 a.w a.need.now a.numbers.now a.work.now a.list.now,
        v.0 p.0 p.1 p.2,
      ),
    )

pub loop-s-smaller : goal.loop-s-smaller
loop-s-smaller c =
    let p = c in
    let l = p in
    let s = l in
    let w = s.requires.1 in
    let r = p.pass_window-s.ensures _ (l.loop-s.invariant.0 w.0 w.1 w.2) in
    omega (arith, r.0, r.1.high)

pub loop-s-preserved : goal.loop-s-preserved
loop-s-preserved c =
    let p = c in
    let v = p.loop-s.invariant in (
      (λ base x w. (p.pass_window-s.ensures _ (v.0 base x w)).1),
      p.pass_window-s.auto.outline ∙ v.1,
      p.pass_window-s.auto.numbers ∙ v.2,
      p.pass_window-s.auto.work ∙ v.3,
      p.pass_window-s.auto.list ∙ v.4,
    )

pub shape_of-outline : goal.shape_of-outline
shape_of-outline c = c.loop-s.invariant.1

pub shape_of-numbers : goal.shape_of-numbers
shape_of-numbers c = c.loop-s.invariant.2

pub shape_of-work : goal.shape_of-work
shape_of-work c = c.loop-s.invariant.3

pub shape_of-list : goal.shape_of-list
shape_of-list c = c.loop-s.invariant.4

pub returns : goal.returns
returns c =
    let v = c.loop-s.invariant in
    λ base x w. finds (v.0 base x w) c.loop-s-test.false
