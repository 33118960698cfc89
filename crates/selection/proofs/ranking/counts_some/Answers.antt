use Rattle.std.proofs.Common.{rules, arith}
use Rattle.encoding.specs.Format.{rule_at}
use Rattle.laws.specs.Plain.{Plain}
use Rattle.words.proofs.SetBitChains.{serves_bits, none_of_bits}
use Rattle.selection.proofs.ranking.counts_some.Goals as goal

pub any-requires-clause-callable : goal.any-requires-clause-callable
any-requires-clause-callable c =
    serves_bits {m = c.args.rules} (cc) (λ x q k. search rules) (λ d l b. let w = c.requires d b in search rules)

pub returns : goal.returns
returns c =
    let body = c.args.body.now in
    none_of_bits (λ r. Plain (rule_at body r)) (λ r q k. search rules) _ (cc) (omega arith) c.any.result c.any.ensures.ran
