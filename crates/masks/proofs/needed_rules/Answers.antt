use native.Mathlib.Omega.{arith}
use mathlib.Core.Path.{◌≡◌, ap₂}
use Rattle.places.specs.ReachedNumbers.{pair_index}
use Rattle.masks.proofs.StandingPairs.{needed-start, needed-turn}
use Rattle.masks.proofs.needed_rules.Goals as goal

pub loop-n-init : goal.loop-n-init
loop-n-init c =
    let a = c.args in
    needed-start a.left.now a.need.now a.codes.now a.subjects

pub pair_index-requires : goal.pair_index-requires
pair_index-requires c =
    let a = c.args in
    let p = c.requires in
    let e = c.pair_of_code-p.ensures in
    let d = (p.1 c.loop-n.n (omega arith)).inside in
    let i = ap₂ (pair_index a.subjects) e.0 e.1 in
    omega arith

pub offset_bounds-need-pair_index : goal.offset_bounds-need-pair_index
offset_bounds-need-pair_index c =
    let a = c.args in
    let p = c.requires in
    let e = c.pair_of_code-p.ensures in
    let d = (p.1 c.loop-n.n (omega arith)).inside in
    let i = ap₂ (pair_index a.subjects) e.0 e.1 in
    omega (arith, c.pair_index.ensures)

pub bounds-need-pair_index : goal.bounds-need-pair_index
bounds-need-pair_index c =
    let a = c.args in
    let p = c.requires in
    let e = c.pair_of_code-p.ensures in
    let d = (p.1 c.loop-n.n (omega arith)).inside in
    let i = ap₂ (pair_index a.subjects) e.0 e.1 in
    omega (arith, c.pair_index.ensures)

pub at_pair-m-requires : goal.at_pair-m-requires
at_pair-m-requires c =
    let p = c.requires in
    let e = c.pair_of_code-p.ensures in
    let d = p.1 c.loop-n.n (omega arith) in
    (rw e.0 d.object, rw e.1 d.subject, p.2)

pub loop-n-preserved : goal.loop-n-preserved
loop-n-preserved c =
    let a = c.args in
    let l = c.loop-n in
    let e = c.pair_of_code-p.ensures in
    let i = c.pair_index.ensures in
    needed-turn a.left.now a.need.now a.codes.now a.subjects l.n l.m
    c.at_pair-m.result l.invariant (rw (i, e.0, e.1) at c.at_pair-m.ensures)

pub returns : goal.returns
returns c =
    let a = c.args in
    let l = c.loop-n in
    let e : l.n ≡ a.pairs = omega arith in
    rw e at l.invariant
