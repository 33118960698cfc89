use borrow.Author.Rules.{rules}
use native.Mathlib.Omega.{arith}
use mathlib.Core.Path.{sym, ap, ◌∙◌}
use Prim.Native.Nat.{ℕ, ◌+◌}
use lib.Dec.{ltb}
use lib.ListN.{get_or}
use Rattle.windows.proofs.Spans.{between, no_instant}
use Rattle.windows.proofs.span.Goals as goal

pub returns-then-a-e : goal.returns-then-a-e
returns-then-a-e c = λ j.
    let a = c.args in
    let f = c.marks_below-a in
    let s = c.u64_of in
    let g = c.marks_below-e in
    let e = c.u64_of-2 in
    c.span_of.ensures j
    ∙ between a.n a.marks.now a.i f.result g.result g.ensures.0
    (λ j l. ap (ltb (get_or a.marks.now j 0)) (sym s.ensures) ∙ f.ensures.1 j l)
    (λ j l. ap (λ (t : ℕ). ltb (get_or a.marks.now j 0) (t + 1)) (sym e.ensures) ∙ g.ensures.1 j l) j

pub returns : goal.returns
returns c =
    let a = c.args in
    let f = c.marks_below-a in
    let s = c.u64_of in
    let g = c.marks_below-e in
    let e = c.u64_of-2 in
    no_instant a.n a.marks.now a.i f.result g.result g.ensures.0
    (λ j l. ap (ltb (get_or a.marks.now j 0)) (sym s.ensures) ∙ f.ensures.1 j l)
    (λ j l. ap (λ (t : ℕ). ltb (get_or a.marks.now j 0) (t + 1)) (sym e.ensures) ∙ g.ensures.1 j l)
    (omega arith)

pub overflow_add-u64_of : goal.overflow_add-u64_of
overflow_add-u64_of = λ c. search
    rules
