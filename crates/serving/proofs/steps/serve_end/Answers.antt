use mathlib.Core.Path.{refl}
use native.Mathlib.Omega.{arith}
use borrow.Author.Rules.{rules}
use Rattle.serving.proofs.PieceStepFacts.{finish_none, finish-line}
use Rattle.serving.proofs.steps.serve_end.Goals as goal

pub returns-then-len-eq0 : goal.returns-then-len-eq0
returns-then-len-eq0 c =
    let d = c in
    (λ p k. finish_none d.args.s.now p k (search rules), omega arith, refl, d.requires.0)

pub returns : goal.returns
returns c =
    let d = c in
    let a = d.args in
    let t = d.serve_front.ensures in
    (λ p k. finish-line a.s.now p k (search rules) t.0, t.0.few, t.1, t.0.sound)
