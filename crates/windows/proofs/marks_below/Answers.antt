use native.Mathlib.Omega.{arith}
use mathlib.Core.Path.{refl}
use Prim.Native.Nat.{◌+◌, ◌/◌}
use Rattle.windows.proofs.Halves.{cut-start, cut_up, cut_down, cut-end}
use Rattle.windows.proofs.marks_below.Goals as goal

pub loop-low-init : goal.loop-low-init
loop-low-init c = let a = c.args in cut-start a.n a.marks.now a.t

pub loop-low-preserved-then-u64_of-t : goal.loop-low-preserved-then-u64_of-t
loop-low-preserved-then-u64_of-t c =
    let a = c.args in
    let p = c.requires in
    let l = c.loop-low in
    cut_up a.n a.marks.now a.t p.1 l.low l.high ((l.low + l.high) / 2) l.invariant
    (omega arith) refl
    (omega arith)

pub loop-low-preserved : goal.loop-low-preserved
loop-low-preserved c =
    let a = c.args in
    let p = c.requires in
    let l = c.loop-low in
    cut_down a.n a.marks.now a.t p.1 l.low l.high ((l.low + l.high) / 2) l.invariant
    (omega arith) refl
    (omega arith)

pub returns : goal.returns
returns c =
    let a = c.args in
    let l = c.loop-low in
    let k = l.invariant in (
      omega (arith, k.ordered, k.within),
      cut-end a.n a.marks.now a.t l.low l.high k (omega arith),
    )
