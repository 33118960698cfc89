use native.Mathlib.Omega.{arith}
use mathlib.Core.Path.{ap}
use Prim.Native.Nat.{◌-◌, ◌<◌}
use lib.ListN.{length, get_or}
use Rattle.places.specs.ReachedNumbers.{pair_index}
use Rattle.relevance.specs.declared.choice.Cell.{Cell}
use Rattle.facts.proofs.place_for.Goals as goal

pub offset_bounds-number-j : goal.offset_bounds-number-j
offset_bounds-number-j c =
    let placed : (let r = c.cell_of-c.result in let a = c.args in pair_index a.g.subjects r.object r.subject < length a.number.now) =
    let s = c in
    omega (
      arith,
      ap (λ (r : Cell). pair_index s.args.g.subjects r.object r.subject) c.cell_of-c.ensures.0,
      s.requires.1,
    ) in
    omega (arith, c.pair_index-j.ensures, placed)

pub bounds-number-j : goal.bounds-number-j
bounds-number-j c =
    let placed : (let r = c.cell_of-c.result in let a = c.args in pair_index a.g.subjects r.object r.subject < length a.number.now) =
    let s = c in
    omega (
      arith,
      ap (λ (r : Cell). pair_index s.args.g.subjects r.object r.subject) c.cell_of-c.ensures.0,
      s.requires.1,
    ) in
    omega (arith, c.pair_index-j.ensures, placed)

pub returns : goal.returns
returns c =
    let e = c in
    let a = e.args in
    let i = c.pair_index-j.ensures in
    rw (c.from.ensures, c.from-2.ensures, i) (ap (λ (r : Cell). record {
      pair = get_or a.number.now (pair_index a.g.subjects r.object r.subject) 0;
      point = record { subject = r.subject; mode = a.h.mode - 1; object = r.object };
    }) e.cell_of-c.ensures.0)

pub pair_index-j-requires : goal.pair_index-j-requires
pair_index-j-requires c =
    let placed : (let r = c.cell_of-c.result in let a = c.args in pair_index a.g.subjects r.object r.subject < length a.number.now) =
    let s = c in
    omega (
      arith,
      ap (λ (r : Cell). pair_index s.args.g.subjects r.object r.subject) c.cell_of-c.ensures.0,
      s.requires.1,
    ) in
    omega (arith, placed)
