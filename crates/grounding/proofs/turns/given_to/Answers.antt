use mathlib.Core.Path.{sym, ap, ◌∙◌}
use mathlib.Core.Bool.{Bool}
use lib.Bits.{bit_and}
use Rattle.foundation.specs.Tests.{pick}
use Rattle.facts.specs.Facts.{takers_in}
use Rattle.grounding.specs.RuleTurns.{derived_head}
use Rattle.grounding.proofs.turns.given_to.Goals as goal

pub returns-then-f : goal.returns-then-f
returns-then-f c =
    let a = c.args in
    c.takers_of.ensures.0
    ∙ ap (λ (b : Bool). pick b (takers_in a.body.now a.f.tables (derived_head a.q))
    (bit_and a.fed a.f.tables)) (sym c.if-f.true)

pub returns : goal.returns
returns c =
    let a = c.args in
    ap (λ (b : Bool). pick b (takers_in a.body.now a.f.tables (derived_head a.q))
    (bit_and a.fed a.f.tables)) (sym c.if-f.false)
