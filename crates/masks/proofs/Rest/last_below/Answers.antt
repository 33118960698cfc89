use native.Mathlib.Omega.{arith}
use mathlib.Core.Path.{◌≡◌, sym, ◌∙◌}
use mathlib.Core.Bool.{true}
use Prim.Native.Nat.{◌<◌}
use lib.Dec.{ltb}
use Rattle.foundation.specs.Tests.{and-true}
use Rattle.foundation.specs.BitMasks.{bit}
use Rattle.words.specs.SetBits.{bits_left}
use Rattle.words.proofs.SetBitLoops.{turn_back}
use Rattle.masks.proofs.Rest.last_below.Goals as goal
use Rattle.masks.proofs.Rest.last_below.Goals.{In-Some}

at : (c : In-Some) → (c.in-Some.k < 64) × (bit c.in-Some.k c.low_part.result ≡ true)
at c = turn_back c.loop-k.k-iterator c.loop-k.yielded (bits_left c.next.new.self.iter) (cc) c.loop-k.yielded_by
    c.in-Some.ensures.steps

pub is_ready-requires : goal.is_ready-requires
is_ready-requires c = (at c).0

pub returns-then-is_ready : goal.returns-then-is_ready
returns-then-is_ready c =
    let t = at (goal.at.returns-then-is_ready c).In-Some in
    let k = c.in-Some.k in
    let own = (and-true (ltb k c.args.r) (bit k c.args.self.now.rules) (sym (c.low_part.ensures k) ∙ t.1)).1 in
    record {
      there = t.0;
      ready = record { low = omega (arith, t.0); own = λ h. own; alone = λ h. c.is_ready.ensures c.if-is_ready.true };
    }
