-- What is left to ask loses its first byte in each turn.
use Rattle.std.proofs.Common.{ap, sym, ◌∙◌, ℕ, ◌+◌, ◌&&◌, Bool, eqb, get_or, drop, drop_of_length-le, drop-cons, add-one}
use Rattle.foundation.specs.Tests.{and_assoc, and_yes}
use Rattle.foundation.specs.Lists.{allb}
use Rattle.fields.proofs.zeros.Goals as goal

pub loop-x-preserved : goal.loop-x-preserved
loop-x-preserved c =
    let s = c.args.s.now in
    let l = c.loop-x in
    let p : ℕ → Bool = λ x. eqb x 0 in
    let rest = allb p (drop (l.x-index + 1) s) in
    l.invariant ∙ ap (λ (b : Bool). l.all && b) (rw (drop-cons s l.x-index 0 c.loop-x-test.true, add-one l.x-index))
    ∙ sym (and_assoc l.all (p (get_or s l.x-index 0)) rest)

pub returns : goal.returns
returns c =
    let l = c.loop-x in
    sym (l.invariant ∙ rw (drop_of_length-le c.args.s.now c.loop-x-test.false) (and_yes l.all))
