use lib.Bits.{bit_and}
use lib.ListN.{get_or}
use Rattle.foundation.specs.Tests.{true_eq}
use Rattle.masks.proofs.SingleBits.{bits-apart}
use Rattle.masks.proofs.Rest.is_ready.Goals as goal

pub returns : goal.returns
returns c =
    let a = c.args in
    let word = get_or a.self.now.feed.now a.k 0 in
    λ e i h. bits-apart word a.self.now.rules i (true_eq (bit_and word a.self.now.rules) 0 e)
