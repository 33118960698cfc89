use borrow.Author.Rules.{rules}
use Rattle.serving.proofs.Walk.{kept_full, kept_more}
use Rattle.serving.proofs.taking.keep_byte.Goals as goal

pub returns-then-len-ge97 : goal.returns-then-len-ge97
returns-then-len-ge97 c =
    let a = c.args in
    (λ p k. kept_full p a.len a.line.now a.c (search rules) k, search rules, search rules)

pub returns : goal.returns
returns c =
    let a = c.args in
    (λ p k. kept_more p a.len a.line.now a.c (search rules) k, search rules, search rules)
