use Rattle.std.proofs.Common.{ℕ, rules, arith}
use Rattle.words.proofs.SetBitChains.{serves_bits, first_of_bits}
use Rattle.facts.specs.Sharing.{SharesTable}
use Rattle.facts.proofs.sharing.first_sharing.Goals as goal

pub find-requires-clause-callable : goal.find-requires-clause-callable
find-requires-clause-callable c =
    serves_bits {m = c.args.rules} (cc) (λ x q k. search rules) (λ d l b. let w = c.requires.0 d b in search rules)

pub returns : goal.returns
returns c =
    let a = c.args in
    let shares : ℕ → Type 0 = SharesTable a.body.now a.right.now a.c in
    first_of_bits shares (λ d. shares d → ⊥) (λ d q k. search rules) (λ d q k. search rules) _ (cc) (omega arith) _
    c.find.ensures.ran
