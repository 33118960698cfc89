use native.Mathlib.Omega.{arith}
use mathlib.Core.Path.{sym, ap, ◌∙◌}
use Prim.Native.Nat.{◌%◌, ◌<◌}
use lib.ListN.{length}
use Rattle.foundation.specs.BitMasks.{bit}
use Rattle.reach.specs.Net.{net_of}
use Rattle.reach.proofs.RightPairs.{object-below, subject-below, led}
use Rattle.reach.proofs.Growth.{step-law}
use Rattle.reach.proofs.follow_bit.Goals as goal

pub pair_of_index-p-requires : goal.pair_of_index-p-requires
pair_of_index-p-requires c = c.requires.0.some

pub stand-requires : goal.stand-requires
stand-requires c =
    let a = c.args in
    let p = c.requires in
    let e = c.pair_of_index-p.ensures in
    let f = p.0 in
    let n = length a.need.now in (
      omega (arith, e.0, object-below a.net.now.right.now a.net.now.subjects n a.pair f p.2, f.few),
      omega (arith, e.1, subject-below a.net.now.right.now a.net.now.subjects n a.pair f p.2, f.low),
      c.lowest-k.ensures.0,
    )

pub follow-requires : goal.follow-requires
follow-requires c =
    let a = c.args in
    let p = c.requires in
    let k = c.lowest-k.result in
    let e = c.pair_of_index-p.ensures in
    let m : k % 8 < 8 = omega arith in (
      p.1,
      λ r l. rw (e.0, e.1) (led a.net.now.right.now a.net.now.subjects (length a.need.now) a.pair p.0
          p.2 (k % 8) r m l),
    )

pub bounds-todo-pair-2 : goal.bounds-todo-pair-2
bounds-todo-pair-2 c =
    let p = c.requires in
    omega (arith, c.follow.ensures.0.todos, p.1, p.2)

pub without_bit-requires : goal.without_bit-requires
without_bit-requires c =
    let f = c in
    let e = f.lowest-k.ensures in
    (e.0, f.follow.ensures.0.kept _ _ e.1)

pub bounds-todo-pair-3 : goal.bounds-todo-pair-3
bounds-todo-pair-3 c =
    let p = c.requires in
    omega (arith, c.follow.ensures.0.todos, p.1, p.2)

pub returns : goal.returns
returns c =
    let h = c in
    let i = h in
    let k = i.lowest-k in
    let b = i in
    let a = b.args in
    let p = b.requires in
    let f = h.follow in
    let g = f.ensures.0 in
    let e = i.pair_of_index-p.ensures in
    let s = rw (e.0, e.1) at h.stand.ensures in
    let led = rw (e.0, e.1) at f.ensures.1 in
    let keeps = rw (e.0, e.1) at f.ensures.2 in
    step-law (net_of a.net.now)
    a.need.now a.todo.now f.new.need f.new.todo a.pair k.result
    c.without_bit.result g (omega (arith, g.todos, p.1, p.2))
    (λ r l o. led r l (ap (bit r) s ∙ o))
    c.without_bit.ensures.0 c.without_bit.ensures.2
    (λ P d n t. keeps P (λ r l o. d a.pair k.result r
    (t a.pair k.result k.ensures.1) l (ap (bit r) (sym s) ∙ o)) n t)
    c.without_bit.ensures.1
