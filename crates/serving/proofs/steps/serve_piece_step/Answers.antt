use mathlib.Core.Path.{refl}
use native.Mathlib.Omega.{arith}
use borrow.Author.Rules.{rules}
use Rattle.serving.proofs.PieceStepFacts.{step_ended, step_goes_on}
use Rattle.serving.proofs.steps.serve_piece_step.Goals as goal

pub returns-then-r : goal.returns-then-r
returns-then-r c =
    let d = c in
    let k = d in
    let t = d.serve_front-n.ensures in
    let l = k.take_line-r.ensures in
    let room = k.requires.1 in
    (λ p h. step_ended (l.0 p h) (search rules) t.0 (omega (arith, t.1, room)), omega arith, l.2, t.1)

pub returns : goal.returns
returns c =
    let l = c.take_line-r.ensures in
    (λ p h. step_goes_on (l.0 p h) (search rules) (search rules), l.1, l.2, refl)
