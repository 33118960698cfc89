use Rattle.std.proofs.Common.{sym, ◌∙◌, [], ◌∷◌}
use Rattle.encoding.proofs.FormatFacts.{decoded_lengths}
use Rattle.encoding.proofs.SoundBodies.{heading-there}
use Rattle.records.proofs.rows.heading_numbers.Goals as goal

pub counts_of-c-requires : goal.counts_of-c-requires
counts_of-c-requires c = heading-there c.args.base.now.bytes.now c.args.base.now.sound

pub returns : goal.returns
returns c =
    let l = decoded_lengths c.args.base.now.bytes.now in
    let n = c.counts_of-c.ensures in
    λ k. c.clock.ensures k ∷ c.last.ensures k
    ∷ ((λ i. (n i).objects) ∙ sym l.0) k
    ∷ ((λ i. (n i).administrators) ∙ sym l.1) k
    ∷ ((λ i. (n i).referrers) ∙ sym l.2) k
    ∷ ((λ i. (n i).authorizations) ∙ sym l.3) k
    ∷ ((λ i. (n i).rules) ∙ sym l.4) k ∷ []
