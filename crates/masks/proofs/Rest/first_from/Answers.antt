use native.Mathlib.Omega.{arith}
use lib.Dec.{leb}
use mathlib.Core.Path.{sym, ◌∙◌}
use Rattle.foundation.specs.Tests.{and-true}
use Rattle.foundation.specs.BitMasks.{bit}
use Rattle.words.proofs.SetBitLoops.{Turn, turn}
use Rattle.masks.proofs.Rest.first_from.Goals as goal
use Rattle.masks.proofs.Rest.first_from.Goals.{In-Some}

at : (c : In-Some) → Turn c.high_part.result c.loop-k.yielded c.in-Some.k
at c = turn c.loop-k.k-iterator (cc) c.loop-k.yielded_by c.in-Some.ensures.steps

pub is_ready-requires : goal.is_ready-requires
is_ready-requires c = (at c).low

pub returns-then-is_ready : goal.returns-then-is_ready
returns-then-is_ready c =
    let t = at (goal.at.returns-then-is_ready c).In-Some in
    let k = c.in-Some.k in
    let own = (and-true (leb c.args.r k) (bit k c.args.self.now.rules) (sym (c.high_part.ensures k) ∙ t.own)).1 in
    record {
      there = t.low;
      ready = record { low = omega (arith, t.low); own = λ h. own; alone = λ h. c.is_ready.ensures c.if-is_ready.true };
    }
