use native.Mathlib.Omega.{arith}
use mathlib.Core.Path.{ap}
use Prim.Native.Nat.{◌<◌}
use lib.ListN.{length, get_or}
use Rattle.places.specs.declared.Point.{Point}
use Rattle.grounding.specs.RuleSteps.{pair_in}
use Rattle.grounding.proofs.pairs.right_place.Goals as goal

pub offset_bounds-number-j : goal.offset_bounds-number-j
offset_bounds-number-j c =
    let placed : (let a = c.args in pair_in a.g c.right_point-y.result < length a.number.now) =
    let s = c in
    omega (arith, ap (pair_in s.args.g) c.right_point-y.ensures, s.requires) in
    omega (arith, c.pair_index-j.ensures, placed)

pub bounds-number-j : goal.bounds-number-j
bounds-number-j c =
    let placed : (let a = c.args in pair_in a.g c.right_point-y.result < length a.number.now) =
    let s = c in
    omega (arith, ap (pair_in s.args.g) c.right_point-y.ensures, s.requires) in
    omega (arith, c.pair_index-j.ensures, placed)

pub returns : goal.returns
returns c =
    let e = c in
    let a = e.args in
    rw (c.from.ensures, c.pair_index-j.ensures)
    (ap (λ (y : Point). record { pair = get_or a.number.now (pair_in a.g y) 0; point = y })
    e.right_point-y.ensures)

pub pair_index-j-requires : goal.pair_index-j-requires
pair_index-j-requires c =
    let placed : (let a = c.args in pair_in a.g c.right_point-y.result < length a.number.now) =
    let s = c in
    omega (arith, ap (pair_in s.args.g) c.right_point-y.ensures, s.requires) in
    omega (arith, placed)
